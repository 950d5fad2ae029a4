use Rattle.std.proofs.Common.{◌≡◌, [], ◌∷◌, ◌++◌, ◌+◌, ◌∙◌, ap, drop, get_or, subst}
use Rattle.ix_lists.specs.Numbers.{lesser}
use Rattle.ix_lists.proofs.Merges.{Merging, merging_first, merging_more}
use Rattle.ix_lists.proofs.Passing.{at_place}
use Rattle.ix_lists.proofs.merging.merged_slices.Goals as goal

pub loop-number-init : goal.loop-number-init
loop-number-init c = rw c.in_ok-out.ensures.items (merging_first c.args.numbers.now c.args.others.now c.requires.rise c.requires.others_rise)

pub loop-number-preserved : goal.loop-number-preserved
loop-number-preserved c =
    let i = c.loop-number.number-index in
    let number = get_or c.args.numbers.now i 0 in
    let at : drop i c.args.numbers.now ≡ number ∷ drop (i + 1) c.args.numbers.now = at_place c.args.numbers.now i 0 c.loop-number-test.true in
    let built : c.push.new.self.items ≡ (c.loop-number.out.items ++ lesser number c.loop-number.rest.now) ++ number ∷ [] = c.in_ok-push.ensures.items ∙ ap (λ zs. zs ++ number ∷ []) c.in_ok-put_lesser.ensures in
    rw (c.greater-rest.ensures, built) (merging_more c.args.numbers.now c.args.others.now number (drop (i + 1) c.args.numbers.now) c.loop-number.rest.now c.loop-number.out.items (subst (λ ns. Merging c.args.numbers.now c.args.others.now ns c.loop-number.rest.now c.loop-number.out.items) at c.loop-number.invariant))
