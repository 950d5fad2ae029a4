-- The indexes on a table, as the statements that change its rows need them.
use Rattle.std.specs.Prelude.{ℕ, ℤ, ◌≡◌, ◌^◌, nat_le, Bool, true, List, [], ◌∷◌, length, map, filter, Option, Some, is_some, Vec, codes, refl}
use Rattle.std.specs.FinMap.{get}
use Rattle.std.specs.declared.alloc.Global.{Global}
use Rattle.ct_base.specs.declared.lists.Value.{Value}
use Rattle.ct_base.specs.declared.lists.Value.TheVariants.{Number, Text}
use Rattle.ct_base.specs.declared.numbers.RowKey.{RowKey}
use Rattle.ct_keep.specs.Content.{Content}
use Rattle.ct_keep.specs.KeeperViews.{KeeperView}
use Rattle.ct_entry.specs.Keys.{Key, at}
use Rattle.ct_entry.specs.Maps.{Names}
use Rattle.tb_table.specs.declared.columns.Column.{Column}
use Rattle.tb_table.specs.Tables.{Table}
use Rattle.cat_index.specs.Sees.{AreThere}
use Rattle.db_names.specs.declared.heads.IndexHead.{IndexHead}
use Rattle.db_names.specs.Promises.{heads_of}
use Rattle.db_state.specs.States.{StoreState, OverNamedTable}
use Rattle.db_state.specs.laws.Heads.{store_heads}
use Rattle.ix_indexes.specs.declared.loading.TableIndex.{TableIndex}
use Rattle.ix_indexes.specs.Indexes.{Index}
use Rattle.ix_indexes.specs.Noting.{InContext, Noted, all_untidying, noted_indexes, noted_looks_any, noted_named}

-- with their heads, in the order of their keys
abbrev pub heads_on : Names Index → List ℕ → List (List ℕ × IndexHead)
heads_on xs t = heads_of t (store_heads xs)

-- their names
abbrev pub names_on : Names Index → List ℕ → List (List ℕ)
names_on xs t = map (λ e. e.0) (heads_on xs t)

-- what is needed of them, each with its name
abbrev pub noted_on : Names Index → List ℕ → List (List ℕ × Noted)
noted_on xs t = noted_named xs (names_on xs t)

-- of several, those that look at one of these columns
abbrev pub noted_set : List ℕ → List (List ℕ × Noted) → List (List ℕ × Noted)
noted_set places es = filter (λ e. noted_looks_any places e.1) es

-- ---- rows are lost

-- what is put before the first of several rows; nothing, where there is none
abbrev pub before_first : List ℤ → List (Key × Option (List ℕ)) → List (Key × Option (List ℕ))
before_first [] ws = []
before_first (r ∷ rows) ws = ws

-- where these rows are lost, each of the indexes that is tidy is so no more: its entry says so, once
abbrev pub lost_changes : Content → StoreState → List (List ℕ × Noted) → List ℤ → List (Key × Option (List ℕ))
lost_changes c m es rows = before_first rows (all_untidying (at c) m.indexes es)

-- whether no text is longer than texts that can be read: each of a table is shorter
abbrev pub is_short_value : Value → Bool
is_short_value (Number n) = true
is_short_value (Text text) = nat_le (length text) (2 ^ 19)

-- ---- what calls say of a table, by the view of the keeper before them

-- this is what is needed of the indexes that were found
abbrev pub AreNoted : List (List ℕ × Noted) → Vec TableIndex Global → Type 0
AreNoted es found = noted_indexes found.items ≡ es

-- these are the values of the row, where the table has it
abbrev pub AreValuesOf : Table → ℤ → Vec Value Global → Type 0
AreValuesOf x r values = (vs : List Value) → get x.rows r ≡ Some vs → values.items ≡ vs

-- This holds of the table of this name, where there is one with these columns.
abbrev pub WhereTable : {K : Type 0} → (K → KeeperView) → K → List ℕ → List Column → (StoreState → Content → Table → Type 0) → Type 0
WhereTable view old t columns holds = OverNamedTable view old t (λ m c x. x.columns ≡ columns → holds m c x)

-- the same where it has the row, and where it has each of these
abbrev pub WhereRow : {K : Type 0} → (K → KeeperView) → K → List ℕ → List Column → ℤ → (StoreState → Content → Table → Type 0) → Type 0
WhereRow view old t columns r holds = WhereTable view old t columns (λ m c x. is_some (get x.rows r) ≡ true → holds m c x)

abbrev pub WhereRows : {K : Type 0} → (K → KeeperView) → K → List ℕ → List Column → List RowKey → (StoreState → Content → List ℤ → Type 0) → Type 0
WhereRows view old t columns rows holds = WhereTable view old t columns (λ m c x. AreThere x rows → holds m c (map (λ row. row.0) rows))

-- computed examples: where no row is lost, the entries of indexes stay; of two indexes, on the columns 1 and 2, the second where the column 2 is set
nothing_lost : (c : Content) (m : StoreState) (es : List (List ℕ × Noted)) → lost_changes c m es [] ≡ []
nothing_lost c m es = refl

of_column_two : noted_set (2 ∷ []) ((codes "di", InContext 1) ∷ (codes "dj", InContext 2) ∷ []) ≡ (codes "dj", InContext 2) ∷ []
of_column_two = refl

a_short_value : is_short_value (Text (codes "fox")) ≡ true
a_short_value = refl
