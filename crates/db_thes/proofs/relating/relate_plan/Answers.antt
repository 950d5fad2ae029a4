use Rattle.std.proofs.Common.{[], sym, ap, subst, ◌∙◌}
use Rattle.ct_keep.specs.laws.Composing.{reads_hold}
use Rattle.db_cond.specs.Faults.{BadValue}
use Rattle.db_state.specs.Effects.{Effect, Does}
use Rattle.db_state.specs.Lines.{call_done}
use Rattle.db_state.specs.Plans.{IsPlan}
use Rattle.db_state.specs.laws.Chains.{checked, refused}
use Rattle.db_state.specs.laws.Holding.{holds_thesauri}
use Rattle.db_call.specs.Checks.{get_named}
use Rattle.db_call.specs.laws.Checks.{both_there, check_passed, is_found, no_first, not_found}
use Rattle.db_thes.specs.Relating.{related}
use Rattle.db_thes.proofs.Effects.{name_passed, relate_as, relate_on, relation_unknown, thesaurus_there}
use Rattle.db_thes.proofs.relating.relate_plan.Goals as goal

pub returns-in-Some-clause-plan : goal.returns-in-Some-clause-plan
returns-in-Some-clause-plan g c = record {
  made = λ m k holds stands.
      relate_as m c.args.args.now c.args.name.now _ _ c.args.stated.now _ _ _ (c.in_ok-there.ensures.there m k holds stands) (c.in_ok-known.ensures.known m k (reads_hold _ _ k c.in_ok-there.ensures.reads holds) stands) c.missing_name-unknown.ensures c.taken_term-taken.ensures c.are_texts.ensures
      ∙ refused c.first_fault.result c.in-Some.fault _ _ c.in-Some.is (c.first_fault.ensures (relate_on m c.args.args.now (get_named m.thesauri c.args.name.now) c.args.name.now c.args.stated.now));
}

pub returns-in_default-stated-clause-plan : goal.returns-in_default-stated-clause-plan
returns-in_default-stated-clause-plan g c = record {
  made = λ m k holds stands.
      relate_as m c.args.args.now c.args.name.now _ _ c.args.stated.now _ _ _ (c.in_ok-there.ensures.there m k holds stands) (c.in_ok-known.ensures.known m k (reads_hold _ _ k c.in_ok-there.ensures.reads holds) stands) c.missing_name-unknown.ensures c.taken_term-taken.ensures c.are_texts.ensures
      ∙ checked c.first_fault.result _ _ c.in_default.is (c.first_fault.ensures (relate_on m c.args.args.now (get_named m.thesauri c.args.name.now) c.args.name.now c.args.stated.now))
      ∙ not_found c.args.stated.now BadValue _ c.in_default-stated.is;
}

pub returns-in_default-name-clause-plan : goal.returns-in_default-name-clause-plan
returns-in_default-name-clause-plan g c = record {
  made = λ m k holds stands.
      relate_as m c.args.args.now c.args.name.now _ _ c.args.stated.now _ _ _ (c.in_ok-there.ensures.there m k holds stands) (c.in_ok-known.ensures.known m k (reads_hold _ _ k c.in_ok-there.ensures.reads holds) stands) c.missing_name-unknown.ensures c.taken_term-taken.ensures c.are_texts.ensures
      ∙ checked c.first_fault.result _ _ c.in_default.is (c.first_fault.ensures (relate_on m c.args.args.now (get_named m.thesauri c.args.name.now) c.args.name.now c.args.stated.now))
      ∙ is_found c.args.stated.now c.in-Some-stated.stated BadValue _ c.in-Some-stated.is
      ∙ no_first c.args.name.now (get_named m.thesauri c.args.name.now) _ c.in_default-name.is;
}

pub returns-clause-plan : goal.returns-clause-plan
returns-clause-plan g c = record {
  made = λ m k holds stands.
      let once = reads_hold _ _ k c.in_ok-there.ensures.reads holds in
      let twice = reads_hold _ _ k c.in_ok-known.ensures.reads once in
      let there = c.in_ok-there.ensures.there m k holds stands in
      let known = c.in_ok-known.ensures.known m k once stands in
      let name = c.args.name.now in
      let n = c.in-Some-name.name in
      let s = c.in-Some-stated.stated in
      let passed = checked c.first_fault.result _ _ c.in_default.is (c.first_fault.ensures (Does m [])) in
      let found = thesaurus_there m.thesauri name _ n _ c.in-Some-name.is there c.missing_name-unknown.ensures (name_passed _ _ _ m passed) in
      let unknown = relation_unknown m.thesauri name _ c.args.stated.now n s found.0 _ c.in-Some-name.is c.in-Some-stated.is found.1 (known there) c.taken_term-taken.ensures (check_passed _ _ _ m passed) in
      subst (λ (e : Effect). IsPlan e call_done k c.in_ok-plan.plan)
      (sym
      (relate_as m c.args.args.now name _ _ c.args.stated.now _ _ _ there known c.missing_name-unknown.ensures c.taken_term-taken.ensures c.are_texts.ensures
      ∙ checked c.first_fault.result _ _ c.in_default.is (c.first_fault.ensures (relate_on m c.args.args.now (get_named m.thesauri c.args.name.now) c.args.name.now c.args.stated.now))
      ∙ is_found c.args.stated.now s BadValue _ c.in-Some-stated.is
      ∙ both_there name (get_named m.thesauri name) n found.0 (related s m) c.in-Some-name.is (ap (get_named m.thesauri) c.in-Some-name.is ∙ found.1)))
      (c.in_ok-plan.ensures.plan found.0 m k stands (found.1, c.in_ok-full.ensures k twice m.thesauri (holds_thesauri k m stands) found.0 found.1, unknown));
}
