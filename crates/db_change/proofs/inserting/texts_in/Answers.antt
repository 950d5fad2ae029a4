use Rattle.std.proofs.Common.{◌≡◌, ℕ, List, [], sym, subst, arith}
use Rattle.std.proofs.lemmas.Grind.{common_steps}
use Rattle.db_change.proofs.KeptValues.{TextsSoFar, texts_begin, texts_passed, texts_added, texts_whole}
use Rattle.db_change.proofs.inserting.texts_in.Goals as goal

pub loop-value-init : goal.loop-value-init
loop-value-init c =
    let whole = c.into_iter-value-iterator.ensures.into_iter_gives.0 in
    subst (λ (ts : List (ℕ × List ℕ)). TextsSoFar c.args.values.items c.into_iter-value-iterator.result.rest.items 0 ts) (sym c.new-texts.ensures.items) (texts_begin _ _ whole)

pub loop-value-preserved-in_default : goal.loop-value-preserved-in_default
loop-value-preserved-in_default c =
    let is = c.in-Some.ensures.steps.0 in
    texts_passed _ _ c.next.new.self.rest.items c.in-Some.value c.loop-value.place c.saturating_add-place.result c.loop-value.texts.items c.loop-value.invariant is c.saturating_add-place.ensures c.in_default.ensures

pub loop-value-preserved : goal.loop-value-preserved
loop-value-preserved c =
    let is = c.in-Some.ensures.steps.0 in
    texts_added _ _ c.next.new.self.rest.items c.in-Some.value c.loop-value.place c.saturating_add-place.result c.loop-value.texts.items c.loop-value.invariant is c.saturating_add-place.ensures
    c.column_of-column.result c.in-Some-text_in.text c.push.new.self.items c.in-Some-text_in.ensures c.column_of-column.ensures c.in_ok-push.ensures.items

pub returns : goal.returns
returns c =
    let none : c.loop-value.value-iterator.rest.items ≡ [] = grind (arith, common_steps, c.in-None.ensures) in
    texts_whole _ _ c.loop-value.place c.loop-value.texts.items c.loop-value.invariant none
