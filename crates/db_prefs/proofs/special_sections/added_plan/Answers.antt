use Rattle.std.proofs.Common.{ap, ◌∙◌}
use Rattle.ct_entry.specs.Changes.{spell}
use Rattle.tx_tags.specs.Groups.{SectionGroup as Group}
use Rattle.tx_prefs.specs.Spelling.{group_changes}
use Rattle.db_prefs.proofs.Plans.{special_planned}
use Rattle.db_prefs.proofs.special_sections.added_plan.Goals as goal

pub returns-clause-plan : goal.returns-clause-plan
returns-clause-plan c = λ m k stands there.
    special_planned k m c.args.name.now c.in_ok-batch.batch stands c.args.special c.args.group there
    (c.in_ok-batch.ensures.changes ∙ ap (λ (g : Group). spell (group_changes c.args.name.now g)) c.put_in-group.ensures)
