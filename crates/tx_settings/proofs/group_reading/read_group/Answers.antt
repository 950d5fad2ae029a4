use Rattle.ct_base.specs.laws.Options.{match_none, match_some}
use Rattle.tx_settings.proofs.GroupSteps.{group_stands, no_group, no_group_head, no_group_sections}
use Rattle.tx_settings.proofs.group_reading.read_group.Goals as goal

pub returns-in_default : goal.returns-in_default
returns-in_default c = no_group_head c.args.bytes.now c.args.at c.in_default.ensures

pub returns-in_default-2 : goal.returns-in_default-2
returns-in_default-2 c = no_group_sections c.args.bytes.now c.args.at c.in-Some.head c.in-Some.start c.in-Some.ensures (match_none c.in_ok-sections.field-0 _ _ c.in_default-2.is c.in_ok-sections.ensures)

pub returns-in_default-found : goal.returns-in_default-found
returns-in_default-found c =
    no_group c.args.bytes.now c.args.at c.in-Some.head c.in-Some.start c.in-Some-2.sections.items c.in-Some-2.next c.in-Some.ensures
    (match_some c.in_ok-sections.field-0 _ _ (c.in-Some-2.sections, c.in-Some-2.next) c.in-Some-2.is c.in_ok-sections.ensures)
    (match_none c.in_ok-found.found _ _ c.in_default-found.is c.in_ok-found.ensures)

pub returns : goal.returns
returns c =
    group_stands c.args.bytes.now c.args.at c.in-Some.head c.in-Some.start c.in-Some-2.sections.items c.in-Some-2.next c.in-Some-found.group c.in-Some.ensures
    (match_some c.in_ok-sections.field-0 _ _ (c.in-Some-2.sections, c.in-Some-2.next) c.in-Some-2.is c.in_ok-sections.ensures)
    (match_some c.in_ok-found.found _ _ c.in-Some-found.group c.in-Some-found.is c.in_ok-found.ensures)
    c.sections-sections.ensures.rules
