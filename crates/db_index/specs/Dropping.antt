-- What DROP INDEX does.
use Rattle.std.specs.Prelude.{ℕ, ◌≡◌, List, Option, codes, refl}
use Rattle.std.specs.FinMap.{get, remove, get-empty}
use Rattle.std.specs.Ordering.{nat_cmp}
use Rattle.std.specs.Cmp.Lexicographic.{slice_cmp}
use Rattle.std.proofs.Common.{ap}
use Rattle.ix_indexes.specs.Indexes.{Index}
use Rattle.db_cond.specs.Faults.{UnknownName}
use Rattle.db_state.specs.States.{StoreState, empty_state}
use Rattle.db_state.specs.Effects.{Effect, Does, Refused, with_found}

-- the index is there no more; its table and the rows stay
abbrev pub with_index_dropped : StoreState → List ℕ → StoreState
with_index_dropped m i = record m { indexes = remove m.indexes i }

abbrev pub index_dropped : List ℕ
index_dropped = codes "Index dropped.\n"

abbrev pub drop_index : StoreState → List ℕ → Effect
drop_index m i = with_found (get m.indexes i) (UnknownName i) (λ (x : Index). Does (with_index_dropped m i) index_dropped)

-- computed examples: the tables stay, and in the empty state there is nothing to drop
tables_stay : (m : StoreState) (i : List ℕ) → (with_index_dropped m i).tables ≡ m.tables
tables_stay m i = refl

no_index : drop_index empty_state (codes "di") ≡ Refused (UnknownName (codes "di"))
no_index = ap (λ (o : Option Index). with_found o (UnknownName (codes "di")) (λ (x : Index). Does (with_index_dropped empty_state (codes "di")) index_dropped)) (get-empty (slice_cmp nat_cmp) (codes "di"))
