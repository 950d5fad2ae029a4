use Rattle.std.proofs.Common.{◌≡◌, ℕ, List, sym, ap, subst, ◌∙◌}
use Rattle.db_rows.specs.Texts.{shown_places, texts_left}
use Rattle.db_rows.proofs.TextSteps.{keeps_left, keeps_own}
use Rattle.db_rows.proofs.reading.RowRead.kept.Goals as goal

pub returns-in-Keys-clause-own : goal.returns-in-Keys-clause-own
returns-in-Keys-clause-own c = λ vs own. c.nothing.ensures vs

pub returns-in_ok-kept-in-Texts-clause-own : goal.returns-in_ok-kept-in-Texts-clause-own
returns-in_ok-kept-in-Texts-clause-own c = λ vs own. keeps_own c.deref.result.now vs c.args.self c.in_ok-kept-in-Texts.kept c.in_ok-kept-in-Texts.ensures own

pub returns-in_ok-kept-in-Texts-clause-left : goal.returns-in_ok-kept-in-Texts-clause-left
returns-in_ok-kept-in-Texts-clause-left c =
    let same : shown_places c.args.shown.now ≡ c.deref.result.now = ap shown_places c.in-Texts.is ∙ sym c.deref.ensures.value in
    subst (λ (places : List ℕ). texts_left places c.in_ok-kept-in-Texts.kept ≡ texts_left places c.args.self) (sym same)
    (keeps_left c.deref.result.now c.args.self c.in_ok-kept-in-Texts.kept c.in_ok-kept-in-Texts.ensures)
