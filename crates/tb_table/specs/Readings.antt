-- What is read from the entries of tables. An entry is read as what it spells exactly where it spells anything.
use Rattle.std.specs.Prelude.{ℕ, ℤ, Bool, true, ◌&&◌, is_some, ◌≡◌, ◌+◌, ◌<◌, ◌^◌, List, [], ◌∷◌, ◌++◌, length, drop, Option, Some, None, FitsSigned, pos, negsuc, false, codes, refl}
use Rattle.std.specs.Int.{to_be_bytes, w16, w64}
use Rattle.std.specs.Str.{IsUtf8}
use Rattle.std.specs.Ordering.{nat_cmp, is_lt}
use Rattle.std.specs.Cmp.Lexicographic.{slice_cmp}
use Rattle.ct_base.specs.Names.{IsName, is_kept}
use Rattle.ct_keep.specs.Content.{Content}
use Rattle.ct_entry.specs.declared.kinds.Kind.TheVariants as kind
use Rattle.ct_entry.specs.Keys.{key, at}
use Rattle.ct_entry.specs.Each.{is_any_of}
use Rattle.tb_table.specs.declared.columns.Sort.{Sort}
use Rattle.tb_table.specs.declared.columns.Column.{Column}
use Rattle.tb_table.specs.Spelling.{sort_code, sort_size, column_bytes, columns_bytes, row_numbers_bytes}
use Rattle.std.proofs.Common.{arith}
use Rattle.ct_bytes.specs.Varints.{varint}
use Rattle.ct_bytes.specs.RowKeys.{row_bytes}
use Rattle.tb_table.specs.declared.columns.Sort.TheVariants.{Number, Varchar2}

-- ---- columns

-- a column that entries may spell: its name is one, and its size has two bytes
pub record IsSpellable (c : Column) : Type 0 where
  pub name : IsName c.name
  pub size : sort_size c.sort < 2 ^ 16

abbrev pub EachSpellable : List Column → Type 0
EachSpellable [] = Unit {0}
EachSpellable (c ∷ cs) = IsSpellable c × EachSpellable cs

pub record AreSpellable (cs : List Column) : Type 0 where
  pub each : EachSpellable cs
  pub few : length cs < 2 ^ 32

-- the entry spells these columns; or it spells none
abbrev pub SpellsColumns : Option (List ℕ) → Option (List Column) → Type 0
SpellsColumns entry (Some cs) = AreSpellable cs × (entry ≡ Some (columns_bytes cs))
SpellsColumns entry None = (cs : List Column) → AreSpellable cs → entry ≡ Some (columns_bytes cs) → ⊥

-- what stands in a column after its name
abbrev pub sort_bytes : Sort → List ℕ
sort_bytes s = sort_code s ∷ to_be_bytes w16 (sort_size s)

-- From `at` on the bytes spell this column, and `next` is the place after it.
pub record IsColumnAt (bytes : List ℕ) (at : ℕ) (c : Column) (next : ℕ) : Type 0 where
  pub spellable : IsSpellable c
  pub spelt : drop at bytes ≡ column_bytes c ++ drop next bytes
  pub end : next ≡ at + length (column_bytes c)

-- ---- numbers and texts

-- numbers of 64 bits
abbrev pub EachFits : List ℤ → Type 0
EachFits [] = Unit {0}
EachFits (z ∷ zs) = FitsSigned w64 z × EachFits zs

-- the entry spells these numbers; or it spells none, as where its length is no multiple of 8
abbrev pub SpellsNumbers : Option (List ℕ) → Option (List ℤ) → Type 0
SpellsNumbers entry (Some zs) = EachFits zs × (entry ≡ Some (row_numbers_bytes zs))
SpellsNumbers entry None = (zs : List ℤ) → entry ≡ Some (row_numbers_bytes zs) → ⊥

-- the entry is this text in UTF-8; or it is none
abbrev pub SpellsText : Option (List ℕ) → Option (List ℕ) → Type 0
SpellsText entry (Some text) = IsUtf8 text × (entry ≡ Some text)
SpellsText entry None = (text : List ℕ) → IsUtf8 text → entry ≡ Some text → ⊥

-- ---- the names of tables

-- every name is greater, by its bytes
abbrev pub all_above : List ℕ → List (List ℕ) → Bool
all_above t [] = true
all_above t (u ∷ us) = is_lt (slice_cmp nat_cmp t u) && all_above t us

-- the names strictly rise
abbrev pub names_rise : List (List ℕ) → Bool
names_rise [] = true
names_rise (t ∷ ts) = all_above t ts && names_rise ts

-- the name is one, and has an entry that tells of a table
abbrev pub has_table : Content → List ℕ → Bool
has_table m t = is_kept t && is_some (at m (key kind.Tables t []))

-- The names of all tables, each once, in the order of their bytes.
pub record AreTableNames (m : Content) (names : List (List ℕ)) : Type 0 where
  pub rising : names_rise names ≡ true
  pub each : (t : List ℕ) → is_any_of t names ≡ has_table m t

-- computed examples
abbrev two_columns : List Column
two_columns = record { name = codes "id"; sort = Number } ∷ record { name = codes "w"; sort = Varchar2 300 } ∷ []

the_columns : SpellsColumns (Some (2 ∷ 2 ∷ 0x69 ∷ 0x64 ∷ 1 ∷ 0 ∷ 0 ∷ 1 ∷ 0x77 ∷ 2 ∷ 1 ∷ 44 ∷ [])) (Some two_columns)
unfolding varint
the_columns = (
  record {
    each = (
      record { name = record { spelt = refl; lower = refl }; size = omega arith },
      (record { name = record { spelt = refl; lower = refl }; size = omega arith }, tt),
    );
    few = omega arith;
  },
  refl,
)

no_entry_no_columns : SpellsColumns None None
no_entry_no_columns cs are is = cc

two_numbers : SpellsNumbers (Some (0x80 ∷ 0 ∷ 0 ∷ 0 ∷ 0 ∷ 0 ∷ 0 ∷ 0 ∷ 0x7f ∷ 0xff ∷ 0xff ∷ 0xff ∷ 0xff ∷ 0xff ∷ 0xff ∷ 0xff ∷ [])) (Some (pos 0 ∷ negsuc 0 ∷ []))
unfolding row_bytes
two_numbers = ((omega arith, (omega arith, tt)), refl)

-- one byte spells no numbers
no_numbers : SpellsNumbers (Some (0 ∷ [])) None
unfolding row_bytes
no_numbers [] is = cc
no_numbers (z ∷ zs) is = cc

in_order : names_rise (codes "aa" ∷ codes "b" ∷ codes "ba" ∷ []) ≡ true
in_order = refl

not_twice : names_rise (codes "a" ∷ codes "a" ∷ []) ≡ false
not_twice = refl
