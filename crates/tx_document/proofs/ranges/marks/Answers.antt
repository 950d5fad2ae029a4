use Rattle.std.proofs.Common.{◌≡◌, ◌∷◌, ◌+◌, ◌<◌, ℕ, List, [], length, get_or, drop, refl, sym, subst, ap, ◌∙◌, add-one, drop-cons, arith}
use Rattle.std.proofs.lemmas.List.{drop_all}
use Rattle.std.proofs.lemmas.Result.{IfOk-weaker}
use Rattle.tx_document.specs.Ranges.{swept}
use Rattle.tx_document.proofs.TokenMarks.{IsReached, reached_first, reached_more, reached_last}
use Rattle.tx_document.proofs.ranges.marks.Goals as goal

pub loop-span-init : goal.loop-span-init
loop-span-init c = subst (λ (l : List ℕ). IsReached c.args.spans.now c.args.spans.now l c.args.tokens.now) (sym c.in_ok-reach.ensures) (reached_first c.args.spans.now c.args.tokens.now)

pub loop-span-preserved : goal.loop-span-preserved
loop-span-preserved c =
    let all = c.args.spans.now in
    let i = c.loop-span.span-index in
    let less : i < length all = omega arith in
    let split : drop i all ≡ get_or all i (record { start = 0; end = 0 }) ∷ drop (i + 1) all = rw (add-one, drop-cons all i (record { start = 0; end = 0 })) refl in
    reached_more all (drop i all) (drop (i + 1) all) _ c.loop-span.reach.items c.note.new.reach.items c.args.tokens.now split c.note.ensures c.loop-span.invariant

pub returns : goal.returns
returns c =
    let all = c.args.spans.now in
    let done : drop c.loop-span.span-index all ≡ [] = drop_all c.loop-span.span-index all (omega arith) in
    let is = reached_last all (drop c.loop-span.span-index all) c.loop-span.reach.items c.args.tokens.now done c.loop-span.invariant in
    IfOk-weaker c.swept.result _ _ (λ v e. e ∙ ap (swept 0 0) c.deref.ensures.value ∙ is) c.swept.ensures
