use Rattle.std.proofs.Common.{sym, ap, ◌∙◌}
use Rattle.std.proofs.lemmas.Option.{MatchOption-at_none, MatchOption-at_some}
use Rattle.ct_entry.specs.Changes.{spell}
use Rattle.tx_tags.specs.Groups.{SectionGroup as Group}
use Rattle.tx_prefs.specs.Spelling.{group_changes}
use Rattle.db_prefs.proofs.Plans.{section_kept, section_planned, section_refused}
use Rattle.db_prefs.proofs.sections.added_plan.Goals as goal

pub returns-in_default-clause-plan : goal.returns-in_default-clause-plan
returns-in_default-clause-plan c = λ fresh m k stands there.
    absurd
    (section_refused c.args.kind c.args.group c.args.section.now c.args.tag.now (stands.state.preferences.groups.each c.args.name.now c.args.group there) fresh c.as_str-named.ensures.name
    (sym c.is_good_section.ensures ∙ c.if-not-is_good_section.false) (sym c.is_full_group.ensures ∙ c.if-is_full_group.false) (MatchOption-at_none _ _ c.in_default.is c.in_ok-group.ensures))

pub returns-clause-plan : goal.returns-clause-plan
returns-clause-plan c = λ fresh m k stands there.
    let good = sym c.is_good_section.ensures ∙ c.if-not-is_good_section.false in
    let room = sym c.is_full_group.ensures ∙ c.if-is_full_group.false in
    section_planned k m c.args.name.now c.in_ok-batch.batch stands c.args.kind c.args.group c.args.section.now c.args.tag.now there
    (section_kept c.args.kind c.args.group c.args.section.now c.args.tag.now (stands.state.preferences.groups.each c.args.name.now c.args.group there) fresh c.as_str-named.ensures.name good room) good room
    (c.in_ok-batch.ensures.changes ∙ ap (λ (g : Group). spell (group_changes c.args.name.now g)) (MatchOption-at_some _ _ c.in-Some.group c.in-Some.is c.in_ok-group.ensures))
