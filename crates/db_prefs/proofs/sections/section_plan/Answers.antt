use Rattle.std.proofs.Common.{[], ℕ, sym, ap, subst, ◌∙◌, ◌≡◌, false, List}
use Rattle.db_state.specs.Effects.{Effect, Does}
use Rattle.db_state.specs.Lines.{call_done}
use Rattle.db_state.specs.Plans.{IsPlan}
use Rattle.db_state.specs.laws.Chains.{checked}
use Rattle.tx_tags.specs.Groups.{is_among, tag_names}
use Rattle.db_prefs.specs.Defining.{section_added}
use Rattle.db_call.specs.Checks.{of_both}
use Rattle.db_prefs.proofs.Effects.{section_as, section_fresh, section_on}
use Rattle.db_call.specs.laws.Checks.{both_there, check_passed, had, unknown_of}
use Rattle.db_prefs.proofs.sections.section_plan.Goals as goal

pub returns-clause-plan : goal.returns-clause-plan
returns-clause-plan g c = record {
  made = λ m k holds stands.
      let name = c.args.name.now in
      let section = c.in-Some-section.section in
      let tag = c.in-Some-tag.tag in
      let group = c.in-Some-found.group in
      let read = c.in_ok-found.ensures.group m k holds stands in
      let none = check_passed _ _ _ m (checked c.first_fault.result _ _ c.in_default.is (c.first_fault.ensures (Does m []))) in
      let fresh = section_fresh c.args.kind _ c.args.section.now c.args.tag.now section tag c.in_ok-found.found group c.taken_section-taken.ensures none c.in-Some-found.is c.in-Some-section.is c.in-Some-tag.is in
      subst (λ (e : Effect). IsPlan e call_done k c.in_ok-plan.plan)
      (sym
      (section_as m c.args.kind c.args.section.now c.args.tag.now name _ _ c.in_ok-found.found c.args.shaped read (unknown_of _ _ _ c.is_some.result c.is_some.ensures c.missing_name-unknown.ensures) c.taken_section-taken.ensures
      ∙ checked c.first_fault.result _ _ c.in_default.is (c.first_fault.ensures (section_on m c.args.kind c.args.section.now c.args.tag.now name c.in_ok-found.found))
      ∙ both_there _ _ c.in-Some-name.name group (λ name g. of_both c.args.section.now c.args.tag.now (section_added c.args.kind name g m)) c.in-Some-name.is c.in-Some-found.is
      ∙ both_there _ _ section tag (section_added c.args.kind c.in-Some-name.name group m) c.in-Some-section.is c.in-Some-tag.is
      ∙ ap (section_added c.args.kind c.in-Some-name.name group m section) (sym c.as_str.ensures)))
      (c.in_ok-plan.ensures.plan (subst (λ (t : List ℕ). is_among t (tag_names group.sections) ≡ false) (sym c.as_str.ensures) fresh) m k stands (had m.preferences.groups name c.in-Some-name.name c.in_ok-found.found group read c.in-Some-name.is c.in-Some-found.is));
}
