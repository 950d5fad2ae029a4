use Rattle.std.proofs.Common.{sym, ap, subst, ◌∙◌}
use Rattle.std.specs.Option.{option_map}
use Rattle.db_cond.specs.Faults.{BadValue}
use Rattle.db_state.specs.Effects.{Effect}
use Rattle.db_state.specs.Lines.{call_done}
use Rattle.db_state.specs.Plans.{IsPlan}
use Rattle.db_call.specs.laws.Checks.{both_there, had, is_found, not_found, not_named, not_defined}
use Rattle.db_prefs.specs.Defining.{sub_index_added}
use Rattle.db_prefs.proofs.Effects.{columns_in, sets_in, sub_index_passed}
use Rattle.db_prefs.proofs.sub_indexes.sub_index_plan.Goals as goal

pub returns-in_default-2-clause-plan : goal.returns-in_default-2-clause-plan
returns-in_default-2-clause-plan g c = record {
  made = λ m k holds stands.
      sub_index_passed m c.args.args.now c.args.name.now _ _ c.in_ok-found.found c.in_ok-columns.field-0 c.is_some.result _ c.first_fault.result (c.in_ok-found.ensures.set m k holds stands)
      c.is_some.ensures c.missing_name-unknown.ensures c.are_texts.ensures c.text_at.ensures c.in_ok-columns.ensures c.in_default.is c.first_fault.ensures
      ∙ not_found (option_map columns_in c.in_ok-columns.field-0) BadValue _ (ap (option_map columns_in) c.in_default-2.is);
}

pub returns-in_default-name-clause-plan : goal.returns-in_default-name-clause-plan
returns-in_default-name-clause-plan g c = record {
  made = λ m k holds stands.
      sub_index_passed m c.args.args.now c.args.name.now _ _ c.in_ok-found.found c.in_ok-columns.field-0 c.is_some.result _ c.first_fault.result (c.in_ok-found.ensures.set m k holds stands)
      c.is_some.ensures c.missing_name-unknown.ensures c.are_texts.ensures c.text_at.ensures c.in_ok-columns.ensures c.in_default.is c.first_fault.ensures
      ∙ not_named (option_map columns_in c.in_ok-columns.field-0) c.args.name.now (option_map sets_in c.in_ok-found.found) c.in-Some-2.columns.items (λ columns. sub_index_added columns m) (ap (option_map columns_in) c.in-Some-2.is) c.in_default-name.is;
}

pub returns-in_default-found-clause-plan : goal.returns-in_default-found-clause-plan
returns-in_default-found-clause-plan g c = record {
  made = λ m k holds stands.
      sub_index_passed m c.args.args.now c.args.name.now _ _ c.in_ok-found.found c.in_ok-columns.field-0 c.is_some.result _ c.first_fault.result (c.in_ok-found.ensures.set m k holds stands)
      c.is_some.ensures c.missing_name-unknown.ensures c.are_texts.ensures c.text_at.ensures c.in_ok-columns.ensures c.in_default.is c.first_fault.ensures
      ∙ not_defined (option_map columns_in c.in_ok-columns.field-0) c.args.name.now (option_map sets_in c.in_ok-found.found) c.in-Some-2.columns.items c.in-Some-name.name (λ columns. sub_index_added columns m)
      (ap (option_map columns_in) c.in-Some-2.is) c.in-Some-name.is (ap (option_map sets_in) c.in_default-found.is);
}

pub returns-clause-plan : goal.returns-clause-plan
returns-clause-plan g c = record {
  made = λ m k holds stands.
      let read = c.in_ok-found.ensures.set m k holds stands in
      let there = ap (option_map sets_in) c.in-Some-found.is in
      subst (λ (e : Effect). IsPlan e call_done k c.in_ok-plan.plan)
      (sym
      (sub_index_passed m c.args.args.now c.args.name.now _ _ c.in_ok-found.found c.in_ok-columns.field-0 c.is_some.result _ c.first_fault.result read
      c.is_some.ensures c.missing_name-unknown.ensures c.are_texts.ensures c.text_at.ensures c.in_ok-columns.ensures c.in_default.is c.first_fault.ensures
      ∙ is_found (option_map columns_in c.in_ok-columns.field-0) c.in-Some-2.columns.items BadValue _ (ap (option_map columns_in) c.in-Some-2.is)
      ∙ both_there _ _ c.in-Some-name.name c.in-Some-found.set.items (sub_index_added c.in-Some-2.columns.items m) c.in-Some-name.is there))
      (c.in_ok-plan.ensures.plan m k stands (had m.preferences.sets c.args.name.now c.in-Some-name.name _ c.in-Some-found.set.items read c.in-Some-name.is there));
}
