use Rattle.std.proofs.Common.{Bool, subst}
use Rattle.std.specs.Prelude.{IfOk}
use Rattle.tx_tags.specs.declared.groups.SectionKind.{SectionKind}
use Rattle.tx_tags.specs.declared.groups.SectionKind.TheVariants.{Zone}
use Rattle.db_state.specs.Lines.{call_done}
use Rattle.db_state.specs.Plans.{IsPlanOf}
use Rattle.db_prefs.specs.Defining.{add_section, field_kind}
use Rattle.db_prefs.proofs.defining.define_plan.Goals as goal

pub returns-in-CreatePreference-clause-plan : goal.returns-in-CreatePreference-clause-plan
returns-in-CreatePreference-clause-plan g c = rw c.in-CreatePreference.is c.create_plan.ensures.plan

pub returns-in-SetAttribute-clause-plan : goal.returns-in-SetAttribute-clause-plan
returns-in-SetAttribute-clause-plan g c = rw c.in-SetAttribute.is c.attribute_plan.ensures.plan

pub returns-in-CreateStoplist-clause-plan : goal.returns-in-CreateStoplist-clause-plan
returns-in-CreateStoplist-clause-plan g c = rw c.in-CreateStoplist.is c.create_plan-in-CreateStoplist.ensures.plan

pub returns-in-AddStopword-clause-plan : goal.returns-in-AddStopword-clause-plan
returns-in-AddStopword-clause-plan g c = rw c.in-AddStopword.is c.stopword_plan.ensures.plan

pub returns-in-CreateSectionGroup-clause-plan : goal.returns-in-CreateSectionGroup-clause-plan
returns-in-CreateSectionGroup-clause-plan g c = rw c.in-CreateSectionGroup.is c.create_plan-in-CreateSectionGroup.ensures.plan

pub returns-in-AddZoneSection-clause-plan : goal.returns-in-AddZoneSection-clause-plan
returns-in-AddZoneSection-clause-plan g c =
    let shown = c.args.shown.now in
    rw c.in-AddZoneSection.is
    (subst (λ (b : Bool). IfOk c.section_plan.result (IsPlanOf (λ m. add_section Zone b m shown.name shown.section shown.tag) call_done (g.K.Keeper.view c.args.keeper.now))) c.are_texts-shaped.ensures c.section_plan.ensures.plan)

pub returns-in-AddFieldSection-clause-plan : goal.returns-in-AddFieldSection-clause-plan
returns-in-AddFieldSection-clause-plan g c =
    let args = c.args.args.now in
    let shown = c.args.shown.now in
    rw c.in-AddFieldSection.is
    (subst (λ (b : Bool). IfOk c.section_plan-in-AddFieldSection.result (IsPlanOf (λ m. add_section (field_kind args) b m shown.name shown.section shown.tag) call_done (g.K.Keeper.view c.args.keeper.now))) c.are_field_args-shaped.ensures
    (subst (λ (k : SectionKind). IfOk c.section_plan-in-AddFieldSection.result (IsPlanOf (λ m. add_section k c.are_field_args-shaped.result m shown.name shown.section shown.tag) call_done (g.K.Keeper.view c.args.keeper.now))) c.field_kind.ensures c.section_plan-in-AddFieldSection.ensures.plan))

pub returns-in-AddSpecialSection-clause-plan : goal.returns-in-AddSpecialSection-clause-plan
returns-in-AddSpecialSection-clause-plan g c = rw c.in-AddSpecialSection.is c.special_plan.ensures.plan

pub returns-in-CreateIndexSet-clause-plan : goal.returns-in-CreateIndexSet-clause-plan
returns-in-CreateIndexSet-clause-plan g c = rw c.in-CreateIndexSet.is c.create_plan-in-CreateIndexSet.ensures.plan

pub returns-in-AddIndex-clause-plan : goal.returns-in-AddIndex-clause-plan
returns-in-AddIndex-clause-plan g c = rw c.in-AddIndex.is c.sub_index_plan.ensures.plan
