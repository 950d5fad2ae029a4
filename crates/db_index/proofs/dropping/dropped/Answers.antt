use Rattle.std.proofs.Common.{◌++◌, ap, ◌∙◌, List, ℕ, Option}
use Rattle.ct_entry.specs.Changes.{spell}
use Rattle.db_state.specs.laws.Removing.{removals_light, removals_taken}
use Rattle.db_index.proofs.dropping.dropped.Goals as goal
use Rattle.ix_indexes.specs.Removing.{index_removals}

pub returns-clause-changes : goal.returns-clause-changes
returns-clause-changes g c = λ m holds.
    c.in_ok-remove.ensures.changes m holds ∙ ap (λ (ws : List (List ℕ × Option (List ℕ))). ws ++ spell (index_removals c.args.index.now m)) c.new-batch.ensures

pub returns-clause-light : goal.returns-clause-light
returns-clause-light g c = removals_light _ _ c.new-batch.ensures c.in_ok-remove.ensures.removes

pub returns-clause-entries : goal.returns-clause-entries
returns-clause-entries g c = removals_taken _ _ c.new-batch.ensures c.in_ok-remove.ensures.removes
