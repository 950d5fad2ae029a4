-- What DROP TABLE does.
use Rattle.std.specs.Prelude.{ℕ, List, [], ◌++◌, codes, ◌≡◌, refl}
use Rattle.std.specs.FinMap.{get, get-empty}
use Rattle.std.specs.Ordering.{nat_cmp}
use Rattle.std.specs.Cmp.Lexicographic.{slice_cmp}
use Rattle.std.proofs.Common.{ap}
use Rattle.std.specs.Prelude.{Option}
use Rattle.ct_keep.specs.Content.{Content}
use Rattle.ct_entry.specs.Keys.{Key}
use Rattle.ct_entry.specs.Changes.{spell}
use Rattle.tb_table.specs.Tables.{Table, without_table}
use Rattle.tb_table.specs.Spelling.{remove_changes}
use Rattle.ix_kinds.specs.Statements.{every, AreIndexesOn, without_indexes_on}
use Rattle.ix_indexes.specs.Indexes.{kinds}
use Rattle.db_cond.specs.Faults.{UnknownName}
use Rattle.db_state.specs.States.{StoreState, empty_state}
use Rattle.db_state.specs.Effects.{Effect, Does, Refused, with_found}
use Rattle.ix_indexes.specs.Removing.{remove_all_changes}

-- the table is there no more, and with it go its indexes
abbrev pub with_table_dropped : StoreState → List ℕ → StoreState
with_table_dropped m t = record m { tables = without_table m.tables t; indexes = without_indexes_on m.indexes t }

abbrev pub table_dropped : List ℕ
table_dropped = codes "Table dropped.\n"

abbrev pub drop_table : StoreState → List ℕ → Effect
drop_table m t = with_found (get m.tables t) (UnknownName t) (λ (x : Table). Does (with_table_dropped m t) table_dropped)

-- ---- what its functions give

-- the removal of a table, and of each of these indexes
abbrev pub drop_table_changes : List ℕ → Content → List (List ℕ) → List (Key × Option (List ℕ))
drop_table_changes t c names = remove_changes t c ++ remove_all_changes c names

-- The batch removes the table, and with it each index on it.
pub record DropsTable (m : StoreState) (c : Content) (t : List ℕ) (batch : List (List ℕ × Option (List ℕ))) : Type 0 where
  pub names : List (List ℕ)
  pub are : AreIndexesOn kinds (every kinds) m.indexes t names
  pub is : batch ≡ spell (drop_table_changes t c names)

-- computed examples: a table without indexes goes alone, and in the empty state there is nothing to drop
alone : (c : Content) → drop_table_changes (codes "docs") c [] ≡ remove_changes (codes "docs") c ++ []
alone c = refl

no_table : drop_table empty_state (codes "docs") ≡ Refused (UnknownName (codes "docs"))
no_table = ap (λ (o : Option Table). with_found o (UnknownName (codes "docs")) (λ (x : Table). Does (with_table_dropped empty_state (codes "docs")) table_dropped)) (get-empty (slice_cmp nat_cmp) (codes "docs"))
