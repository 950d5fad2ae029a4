use Rattle.std.proofs.Common.{◌≡◌, ◌++◌, ℕ, List, [], Option, ap, ◌∙◌, arith}
use Rattle.std.proofs.lemmas.Grind.{common_steps}
use Rattle.db_rows.specs.Texts.{texts_among}
use Rattle.db_rows.proofs.TextSteps.{kept_all, kept_more, stays}
use Rattle.db_rows.proofs.reading.texts_of_columns.Goals as goal

pub loop-text-init : goal.loop-text-init
loop-text-init c =
    ap (λ (kept : List (ℕ × Option (List ℕ))). kept ++ texts_among c.args.columns.now c.into_iter-text-iterator.result.rest.items) c.new-kept.ensures.items
    ∙ ap (texts_among c.args.columns.now) c.into_iter-text-iterator.ensures.into_iter_gives.0

pub loop-text-preserved : goal.loop-text-preserved
loop-text-preserved c =
    kept_more (λ (e : ℕ × Option (List ℕ)). stays c.args.columns.now e.0) _ c.loop-text.text-iterator.rest.items c.next.new.self.rest.items c.loop-text.kept.items c.push_if.new.texts.items c.in-Some.text c.is_among-stays.result
    c.loop-text.invariant c.in-Some.ensures.steps.0 c.is_among-stays.ensures c.in_ok-push_if.ensures

pub returns : goal.returns
returns c =
    let none : c.loop-text.text-iterator.rest.items ≡ [] = grind (arith, common_steps, c.in-None.ensures) in
    kept_all (λ (e : ℕ × Option (List ℕ)). stays c.args.columns.now e.0) _ c.loop-text.text-iterator.rest.items c.loop-text.kept.items c.loop-text.invariant none
