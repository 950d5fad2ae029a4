use Rattle.std.proofs.Common.{sym, ap, subst, ◌∙◌}
use Rattle.db_cond.specs.Faults.{BadValue}
use Rattle.db_state.specs.Effects.{Effect}
use Rattle.db_state.specs.Lines.{call_done}
use Rattle.db_state.specs.Plans.{IsPlan}
use Rattle.db_state.specs.laws.Chains.{checked}
use Rattle.db_prefs.specs.Defining.{special_added, special_of}
use Rattle.db_prefs.proofs.Effects.{special_as, special_on}
use Rattle.db_call.specs.laws.Checks.{both_there, had, is_found, unknown_of}
use Rattle.db_prefs.proofs.special_sections.special_plan.Goals as goal

pub returns-clause-plan : goal.returns-clause-plan
returns-clause-plan g c = record {
  made = λ m k holds stands.
      let read = c.in_ok-found.ensures.group m k holds stands in
      subst (λ (e : Effect). IsPlan e call_done k c.in_ok-plan.plan)
      (sym
      (special_as m c.args.args.now c.args.name.now _ _ c.in_ok-found.found c.special_of-asked.result _ read (unknown_of _ _ _ c.is_some.result c.is_some.ensures c.missing_name-unknown.ensures) c.taken_special-taken.ensures c.are_texts.ensures
      (c.special_of-asked.ensures ∙ ap special_of c.text_at.ensures)
      ∙ checked c.first_fault.result _ _ c.in_default.is (c.first_fault.ensures (special_on m c.args.args.now c.args.name.now c.in_ok-found.found c.special_of-asked.result))
      ∙ is_found _ c.in-Some-asked.special BadValue _ c.in-Some-asked.is
      ∙ both_there _ _ c.in-Some-name.name c.in-Some-found.group (special_added c.in-Some-asked.special m) c.in-Some-name.is c.in-Some-found.is))
      (c.in_ok-plan.ensures.plan m k stands (had m.preferences.groups c.args.name.now c.in-Some-name.name c.in_ok-found.found c.in-Some-found.group read c.in-Some-name.is c.in-Some-found.is));
}
