-- The rules that tables keep in every state.
use Rattle.std.specs.Prelude.{ℕ, ℤ, ◌≡◌, ◌≤◌, Bool, true, false, List, [], ◌∷◌, length, Some, FitsSigned, pos, negsuc, codes, refl}
use Rattle.std.specs.Int.{w64}
use Rattle.std.specs.Bool.{if◌then◌else◌}
use Rattle.std.specs.Str.{IsUtf8}
use Rattle.std.specs.FinMap.{get, entries}
use Rattle.std.proofs.Common.{arith}
use lib.Utf8.{encode}
use Rattle.ct_base.specs.Names.{IsName}
use Rattle.ct_base.specs.declared.lists.Value.{Value}
use Rattle.ct_base.specs.declared.lists.Value.TheVariants.{Number as NumberValue, Text as TextValue}
use Rattle.ct_base.specs.Limits.{text_limit, column_limit, row_limit, table_limit}
use Rattle.ct_entry.specs.Keys.{same_list, IsRow}
use Rattle.tb_table.specs.declared.columns.Sort.{Sort}
use Rattle.tb_table.specs.declared.columns.Sort.TheVariants.{Number, Varchar2, Clob}
use Rattle.tb_table.specs.declared.columns.Column.{Column}
use Rattle.tb_table.specs.Tables.{Table, Tables, docs_columns}

-- a VARCHAR2 column has a size from 1 to 4000
abbrev pub HasAllowedSize : Sort → Type 0
HasAllowedSize Number = Unit {0}
HasAllowedSize (Varchar2 size) = (1 ≤ size) × (size ≤ text_limit)
HasAllowedSize Clob = Unit {0}

-- the value may stand in a column of this sort
abbrev pub IsOfSort : Sort → Value → Type 0
IsOfSort Number (NumberValue n) = FitsSigned w64 n
IsOfSort Number (TextValue text) = ⊥
IsOfSort (Varchar2 size) (NumberValue n) = ⊥
IsOfSort (Varchar2 size) (TextValue text) = (length text ≤ size) × IsUtf8 text
IsOfSort Clob (NumberValue n) = ⊥
IsOfSort Clob (TextValue text) = (length text ≤ text_limit) × IsUtf8 text

-- each column has its value
abbrev pub FitColumns : List Column → List Value → Type 0
FitColumns [] [] = Unit {0}
FitColumns [] (v ∷ vs) = ⊥
FitColumns (c ∷ cs) [] = ⊥
FitColumns (c ∷ cs) (v ∷ vs) = IsOfSort c.sort v × FitColumns cs vs

abbrev pub has_column : List ℕ → List Column → Bool
has_column name [] = false
has_column name (c ∷ cs) = if same_list name c.name then true else has_column name cs

-- no two columns have one name
abbrev pub HaveDistinctNames : List Column → Type 0
HaveDistinctNames [] = Unit {0}
HaveDistinctNames (c ∷ cs) = (has_column c.name cs ≡ false) × HaveDistinctNames cs

abbrev pub AllColumns : List Column → Type 0
AllColumns [] = Unit {0}
AllColumns (c ∷ cs) = IsName c.name × HasAllowedSize c.sort × AllColumns cs

-- The columns of a table: 1 to 16, of which the first is a NUMBER.
abbrev pub IsKeyFirst : List Column → Type 0
IsKeyFirst [] = ⊥
IsKeyFirst (c ∷ cs) = c.sort ≡ Number

pub record AreColumns (cs : List Column) : Type 0 where
  pub each : AllColumns cs
  pub key : IsKeyFirst cs
  pub apart : HaveDistinctNames cs
  pub few : length cs ≤ column_limit

-- the columns but the key
abbrev pub others : List Column → List Column
others [] = []
others (c ∷ cs) = cs

pub record IsTable (x : Table) : Type 0 where
  pub columns : AreColumns x.columns
  pub keys : (r : ℤ) (vs : List Value) → get x.rows r ≡ Some vs → IsRow r
  pub rows : (r : ℤ) (vs : List Value) → get x.rows r ≡ Some vs → FitColumns (others x.columns) vs
  pub few : length (entries x.rows) ≤ row_limit

pub record AreTables (ts : Tables) : Type 0 where
  pub names : (t : List ℕ) (x : Table) → get ts t ≡ Some x → IsName t
  pub each : (t : List ℕ) (x : Table) → get ts t ≡ Some x → IsTable x
  pub few : length (entries ts) ≤ table_limit

-- computed examples: the columns and a row of the table `docs`
its_columns : AreColumns docs_columns
its_columns = record {
  each = (record { spelt = refl; lower = refl }, tt, (record { spelt = refl; lower = refl }, tt, (record { spelt = refl; lower = refl }, tt, tt)));
  key = refl;
  apart = (refl, (refl, (refl, tt)));
  few = omega arith;
}

a_row_fits : FitColumns (others docs_columns) (TextValue (codes "slow") ∷ NumberValue (negsuc 0) ∷ [])
unfolding encode
a_row_fits = ((omega arith, (codes "slow", (refl, refl))), (omega arith, tt))

-- a number in the column of texts
no_row : FitColumns (others docs_columns) (NumberValue (pos 7) ∷ NumberValue (pos 7) ∷ []) → ⊥
no_row fits = fits.0

no_such_column : has_column (codes "title") docs_columns ≡ false
no_such_column = refl

too_long_a_size : HasAllowedSize (Varchar2 4001) → ⊥
too_long_a_size is = omega (arith, is.1)
