use Rattle.std.proofs.Common.{◌++◌, List, ℕ, Option, ap, ◌∙◌}
use Rattle.ct_entry.specs.Keys.{at}
use Rattle.ct_entry.specs.Changes.{spell}
use Rattle.rule_index.specs.Changes.{rule_changes}
use Rattle.rule_index.specs.Spelling.{anchors_at}
use Rattle.ix_indexes.proofs.noting.rule_notes.Goals as goal

pub returns-clause-changes : goal.returns-clause-changes
returns-clause-changes g c = λ m ts x told holds ch event.
    c.in_ok-note_in_rules.ensures.changes m ts x told holds ch event
    ∙ ap (λ (b : List (List ℕ × Option (List ℕ))). b ++ spell (rule_changes c.args.index.now ch.row ch.old ch.new (anchors_at (at m) c.args.index.now ch.row))) c.new-notes.ensures
