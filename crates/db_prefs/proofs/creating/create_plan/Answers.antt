use Rattle.std.proofs.Common.{Bool, refl, sym, ap, subst, ◌∙◌}
use Rattle.std.specs.Prelude.{not}
use Rattle.ct_keep.specs.laws.Composing.{reads_hold}
use Rattle.db_cond.specs.Faults.{BadValue}
use Rattle.db_call.specs.Arguments.{argument_text}
use Rattle.db_state.specs.Effects.{Effect}
use Rattle.db_state.specs.Lines.{call_done}
use Rattle.db_state.specs.Plans.{IsPlan}
use Rattle.db_state.specs.laws.Chains.{checked, refused, fails, passes}
use Rattle.db_prefs.specs.Defining.{new_made}
use Rattle.db_prefs.proofs.Effects.{create_as, create_on}
use Rattle.db_call.specs.laws.Checks.{is_found, not_found}
use Rattle.db_prefs.proofs.creating.create_plan.Goals as goal

pub returns-in-Some-clause-plan : goal.returns-in-Some-clause-plan
returns-in-Some-clause-plan g c = record {
  made = λ m k holds stands.
      create_as m c.args.args.now c.args.kind c.args.name.now _ _ _ _ (c.in_ok-there.ensures.there m k holds stands) c.taken_name-taken.ensures c.are_new_args.ensures refl
      ∙ refused c.first_fault.result c.in-Some.fault _ _ c.in-Some.is (c.first_fault.ensures (create_on m c.args.args.now c.args.kind c.args.name.now (argument_text 1 c.args.args.now)));
}

pub returns-then-not-is_type-clause-plan : goal.returns-then-not-is_type-clause-plan
returns-then-not-is_type-clause-plan g c = record {
  made = λ m k holds stands.
      create_as m c.args.args.now c.args.kind c.args.name.now _ _ _ _ (c.in_ok-there.ensures.there m k holds stands) c.taken_name-taken.ensures c.are_new_args.ensures c.text_at-text.ensures
      ∙ checked c.first_fault.result _ _ c.in_default.is (c.first_fault.ensures (create_on m c.args.args.now c.args.kind c.args.name.now _))
      ∙ fails _ BadValue _ (ap not (sym c.is_type.ensures ∙ c.if-not-is_type.true));
}

pub returns-in_default-name-clause-plan : goal.returns-in_default-name-clause-plan
returns-in_default-name-clause-plan g c = record {
  made = λ m k holds stands.
      create_as m c.args.args.now c.args.kind c.args.name.now _ _ _ _ (c.in_ok-there.ensures.there m k holds stands) c.taken_name-taken.ensures c.are_new_args.ensures c.text_at-text.ensures
      ∙ checked c.first_fault.result _ _ c.in_default.is (c.first_fault.ensures (create_on m c.args.args.now c.args.kind c.args.name.now _))
      ∙ passes _ BadValue _ (ap not (sym c.is_type.ensures ∙ c.if-not-is_type.false))
      ∙ not_found c.args.name.now BadValue _ c.in_default-name.is;
}

pub returns-clause-plan : goal.returns-clause-plan
returns-clause-plan g c = record {
  made = λ m k holds stands.
      subst (λ (e : Effect). IsPlan e call_done k c.in_ok-plan.plan)
      (sym
      (create_as m c.args.args.now c.args.kind c.args.name.now _ _ _ _ (c.in_ok-there.ensures.there m k holds stands) c.taken_name-taken.ensures c.are_new_args.ensures c.text_at-text.ensures
      ∙ checked c.first_fault.result _ _ c.in_default.is (c.first_fault.ensures (create_on m c.args.args.now c.args.kind c.args.name.now _))
      ∙ passes _ BadValue _ (ap not (sym c.is_type.ensures ∙ c.if-not-is_type.false))
      ∙ is_found c.args.name.now c.in-Some-name.name BadValue _ c.in-Some-name.is
      ∙ ap (λ (b : Bool). new_made c.args.kind b m c.in-Some-name.name) (sym c.is_null_type.ensures)))
      (c.in_ok-plan.ensures.plan m k stands (c.in_ok-full.ensures.full m k (reads_hold _ _ k c.in_ok-there.ensures.reads holds) stands));
}
