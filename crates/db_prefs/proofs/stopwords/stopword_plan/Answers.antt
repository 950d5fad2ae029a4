use Rattle.std.proofs.Common.{List, [], Vec, ℕ, refl, sym, ap, subst, ◌∙◌}
use Rattle.std.specs.Prelude.{not}
use Rattle.std.specs.Option.{option_map}
use Rattle.std.specs.declared.alloc.Global.{Global}
use Rattle.db_call.specs.Arguments.{argument_text}
use Rattle.db_cond.specs.Faults.{BadValue}
use Rattle.db_state.specs.Effects.{Effect, Does}
use Rattle.db_state.specs.Lines.{call_done}
use Rattle.db_state.specs.Plans.{IsPlan}
use Rattle.db_state.specs.laws.Chains.{checked, passes}
use Rattle.db_prefs.specs.Defining.{among, stopword_added}
use Rattle.db_prefs.proofs.Effects.{stopword_as, stopword_fresh, stopword_on}
use Rattle.db_call.specs.laws.Checks.{both_there, check_passed, had, is_found, unknown_by}
use Rattle.db_prefs.proofs.stopwords.stopword_plan.Goals as goal

abbrev items : Vec (List ℕ) Global → List (List ℕ)
items v = v.items

pub returns-clause-plan : goal.returns-clause-plan
returns-clause-plan g c = record {
  made = λ m k holds stands.
      let args = c.args.args.now in
      let name = c.args.name.now in
      let word = c.in-Some-word.word.now in
      let words = c.in-Some-found.words.items in
      let found = option_map items c.in_ok-found.found in
      let read = c.in_ok-found.ensures.words m k holds stands in
      let there = ap (option_map items) c.in-Some-found.is in
      let taken = c.taken_word.ensures ∙ ap (among found) c.text_at-word.ensures in
      let none = check_passed _ _ _ m (checked c.first_fault.result _ _ c.in_default.is (c.first_fault.ensures (Does m []))) in
      subst (λ (e : Effect). IsPlan e call_done k c.in_ok-plan.plan)
      (sym
      (stopword_as m args name _ _ (argument_text 1 args) found _ read (unknown_by items c.in_ok-found.found name _ c.is_some.result c.is_some.ensures c.missing_name-unknown.ensures) taken c.are_texts.ensures refl
      ∙ checked c.first_fault.result _ _ c.in_default.is (c.first_fault.ensures (stopword_on m args name found (argument_text 1 args)))
      ∙ is_found _ word BadValue _ (sym c.in-Some-word.ensures)
      ∙ passes _ BadValue _ (ap not (sym c.has_stopword_length.ensures ∙ c.if-not-has_stopword_length.false))
      ∙ both_there _ _ c.in-Some-name.name words (stopword_added word m) c.in-Some-name.is there))
      (c.in_ok-plan.ensures.plan (stopword_fresh _ _ word found words taken none there (sym c.in-Some-word.ensures)) m k stands (had m.preferences.stoplists name c.in-Some-name.name found words read c.in-Some-name.is there));
}
