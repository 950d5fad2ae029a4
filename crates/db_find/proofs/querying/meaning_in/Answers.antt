use Rattle.std.proofs.Common.{◌≡◌, Some, None, refl, sym, subst, ◌∙◌}
use Rattle.std.specs.Prelude.{IsSome}
use Rattle.std.proofs.lemmas.Result.{IfOk-weaker}
use Rattle.ct_keep.specs.Looks.{no_looks}
use Rattle.ct_keep.specs.laws.Composing.{reads_hold}
use Rattle.tx_settings.specs.declared.preferences.Prefs.{Prefs}
use Rattle.db_state.specs.laws.Contexts.{holds_index}
use Rattle.db_find.specs.Meanings.{Means}
use Rattle.db_find.specs.Querying.{meaning_of}
use Rattle.db_find.specs.laws.Looking.{rises_behind}
use Rattle.db_find.proofs.querying.meaning_in.Goals as goal

pub returns-in-Some-clause-meaning : goal.returns-in-Some-clause-meaning
returns-in-Some-clause-meaning g c = λ m k x holds stands there.
    let its : c.in_ok-prefs.prefs ≡ Some x.prefs = c.in_ok-prefs.ensures.prefs k m.tables x holds (holds_index k m stands c.args.index.now x there) in
    let both : Some c.in-Some.prefs ≡ Some x.prefs = sym c.in-Some.is ∙ its in
    let same : c.in-Some.prefs ≡ x.prefs = cc in
    IfOk-weaker c.meaning_of.result _ _
    (λ meaning means. subst (λ (p : Prefs). Means meaning (meaning_of p m.thesauri c.args.text.now)) same means)
    (c.meaning_of.ensures.meaning m k (reads_hold _ _ k c.in_ok-prefs.ensures.reads holds) stands)

pub returns-in-Some-clause-at_most : goal.returns-in-Some-clause-at_most
returns-in-Some-clause-at_most g c = λ m k x holds stands there.
    let entry = (holds_index k m stands c.args.index.now x there).entry.whole in
    rises_behind no_looks _ _ _ c.in_ok-prefs.ensures.at_most (c.meaning_of.ensures.at_most k (reads_hold _ _ k c.in_ok-prefs.ensures.reads holds) c.args.index.now (subst IsSome (sym entry) refl))

pub returns-in-None-clause-meaning : goal.returns-in-None-clause-meaning
returns-in-None-clause-meaning g c = λ m k x holds stands there.
    let its : c.in_ok-prefs.prefs ≡ Some x.prefs = c.in_ok-prefs.ensures.prefs k m.tables x holds (holds_index k m stands c.args.index.now x there) in
    let none : None ≡ Some x.prefs = sym c.in-None.is ∙ its in
    cc
