use Rattle.std.proofs.Common.{◌≡◌, ◌<◌, ◌+◌, ◌∙◌, [], drop, get_or, length, sym, ap, subst, arith}
use Rattle.std.specs.Prelude.{IfSome}
use Rattle.ix_posting.specs.Lists.{posting_list}
use Rattle.ix_lists.specs.Documents.{from_on, from_place}
use Rattle.ix_lists.proofs.Passing.{next_row, within, past}
use Rattle.ix_lists.proofs.postings.seek.Goals as goal

pub returns-in-Some-clause-left : goal.returns-in-Some-clause-left
returns-in-Some-clause-left g c =
    let i = c.loop-i.i in
    let row = get_or c.args.rows.now i [] in
    let rest = posting_list (drop (i + 1) c.args.rows.now) in
    let is : c.in-Some.place ≡ from_on c.args.to row = sym (ap from_place c.in-Some.is) ∙ c.in_ok-place.ensures.left in
    let some : 0 < length c.in-Some.place = subst (λ p. IfSome p (λ place. 0 < length place)) c.in-Some.is c.in_ok-place.ensures.some in
    sym (within c.args.to c.in-Some.place row rest is some) ∙ ap (from_on c.args.to) (sym (next_row c.args.rows.now i (omega (arith, c.loop-i-test.true, ap length c.as_slice-count.ensures)))) ∙ c.loop-i.invariant

pub returns-in-Some-clause-shown : goal.returns-in-Some-clause-shown
returns-in-Some-clause-shown g c = subst (λ p. IfSome p (λ place. 0 < length place)) c.in-Some.is c.in_ok-place.ensures.some

pub loop-i-preserved : goal.loop-i-preserved
loop-i-preserved g c =
    let i = c.loop-i.i in
    let row = get_or c.args.rows.now i [] in
    let none : from_on c.args.to row ≡ [] = sym c.in_ok-place.ensures.left ∙ ap from_place c.in-None.is in
    sym (past c.args.to row (posting_list (drop (i + 1) c.args.rows.now)) none) ∙ ap (from_on c.args.to) (sym (next_row c.args.rows.now i (omega (arith, c.loop-i-test.true, ap length c.as_slice-count.ensures)))) ∙ c.loop-i.invariant
