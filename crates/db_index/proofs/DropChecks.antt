-- What DROP INDEX does where the index is there.
use Rattle.std.proofs.Common.{◌≡◌, ℕ, true, List, Option, sym, ap, ◌∙◌}
use Rattle.std.specs.Prelude.{Bool, is_some}
use Rattle.std.specs.FinMap.{get}
use Rattle.ct_base.specs.laws.Options.{some_value}
use Rattle.ix_indexes.specs.Indexes.{Index}
use Rattle.db_cond.specs.Faults.{UnknownName}
use Rattle.db_state.specs.States.{StoreState}
use Rattle.db_state.specs.Effects.{Does, with_found}
use Rattle.db_index.specs.Dropping.{drop_index, index_dropped, with_index_dropped}

pub known_index : (m : StoreState) (i : List ℕ) (there : Bool) → there ≡ is_some (get m.indexes i) → there ≡ true → drop_index m i ≡ Does (with_index_dropped m i) index_dropped
known_index m i there is here = ap (λ (o : Option Index). with_found o (UnknownName i) (λ (x : Index). Does (with_index_dropped m i) index_dropped)) (some_value (get m.indexes i) (sym is ∙ here)).1
