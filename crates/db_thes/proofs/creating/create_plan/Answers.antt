use Rattle.std.proofs.Common.{[], None, sym, subst, ◌∙◌}
use Rattle.std.specs.Option.{option_map}
use Rattle.ct_keep.specs.laws.Composing.{reads_hold}
use Rattle.db_cond.specs.Faults.{BadValue}
use Rattle.db_state.specs.Effects.{Effect, Does}
use Rattle.db_state.specs.Lines.{call_done}
use Rattle.db_state.specs.Plans.{IsPlan}
use Rattle.db_state.specs.laws.Chains.{checked, refused, fails, passes}
use Rattle.db_call.specs.laws.Checks.{check_passed, is_found, not_found}
use Rattle.db_thes.proofs.Effects.{create_as, create_on, thesaurus_free}
use Rattle.db_thes.proofs.creating.create_plan.Goals as goal

pub returns-in-Some-clause-plan : goal.returns-in-Some-clause-plan
returns-in-Some-clause-plan g c = record {
  made = λ m k holds stands.
      create_as m c.args.args.now c.args.name.now _ _ _ (c.in_ok-there.ensures.there m k holds stands) c.taken_name-taken.ensures c.are_create_args.ensures
      ∙ refused c.first_fault.result c.in-Some.fault _ _ c.in-Some.is (c.first_fault.ensures (create_on m c.args.args.now c.args.name.now));
}

pub returns-then-is_case_asked-clause-plan : goal.returns-then-is_case_asked-clause-plan
returns-then-is_case_asked-clause-plan g c = record {
  made = λ m k holds stands.
      create_as m c.args.args.now c.args.name.now _ _ _ (c.in_ok-there.ensures.there m k holds stands) c.taken_name-taken.ensures c.are_create_args.ensures
      ∙ checked c.first_fault.result _ _ c.in_default.is (c.first_fault.ensures (create_on m c.args.args.now c.args.name.now))
      ∙ fails _ BadValue _ (sym c.is_case_asked.ensures ∙ c.if-is_case_asked.true);
}

pub returns-in_default-name-clause-plan : goal.returns-in_default-name-clause-plan
returns-in_default-name-clause-plan g c = record {
  made = λ m k holds stands.
      create_as m c.args.args.now c.args.name.now _ _ _ (c.in_ok-there.ensures.there m k holds stands) c.taken_name-taken.ensures c.are_create_args.ensures
      ∙ checked c.first_fault.result _ _ c.in_default.is (c.first_fault.ensures (create_on m c.args.args.now c.args.name.now))
      ∙ passes _ BadValue _ (sym c.is_case_asked.ensures ∙ c.if-is_case_asked.false)
      ∙ not_found c.args.name.now BadValue _ c.in_default-name.is;
}

pub returns-clause-plan : goal.returns-clause-plan
returns-clause-plan g c = record {
  made = λ m k holds stands.
      let there = c.in_ok-there.ensures.there m k holds stands in
      let none = check_passed None (option_map (λ n. n.now) c.taken_name-taken.result) c.are_create_args.result m (checked c.first_fault.result _ _ c.in_default.is (c.first_fault.ensures (Does m []))) in
      subst (λ (e : Effect). IsPlan e call_done k c.in_ok-plan.plan)
      (sym
      (create_as m c.args.args.now c.args.name.now _ _ _ there c.taken_name-taken.ensures c.are_create_args.ensures
      ∙ checked c.first_fault.result _ _ c.in_default.is (c.first_fault.ensures (create_on m c.args.args.now c.args.name.now))
      ∙ passes _ BadValue _ (sym c.is_case_asked.ensures ∙ c.if-is_case_asked.false)
      ∙ is_found c.args.name.now c.in-Some-name.name BadValue _ c.in-Some-name.is))
      (c.in_ok-plan.ensures.plan m k stands (
        c.in_ok-most.ensures.most m k (reads_hold _ _ k c.in_ok-there.ensures.reads holds) stands,
        thesaurus_free m.thesauri c.args.name.now _ c.in-Some-name.name _ c.in-Some-name.is there c.taken_name-taken.ensures none,
      ));
}
