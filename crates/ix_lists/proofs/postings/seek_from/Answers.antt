use Rattle.std.proofs.Common.{◌≡◌, ◌<◌, ◌++◌, ◌∙◌, [], drop, length, sym, ap, subst}
use Rattle.std.specs.Prelude.{IfSome}
use Rattle.std.proofs.lemmas.Result.{IfOk-weaker}
use Rattle.ix_posting.specs.Lists.{posting_list}
use Rattle.ix_lists.specs.Documents.{from_on, from_place}
use Rattle.ix_lists.proofs.Passing.{within, past}
use Rattle.ix_lists.proofs.postings.seek_from.Goals as goal

pub returns-in-None-clause-left : goal.returns-in-None-clause-left
returns-in-None-clause-left g c =
    let rest = posting_list (drop c.args.taken c.args.rows.now) in
    let none : from_on c.args.to c.in-Some.place ≡ [] = sym c.seek_in_row.ensures.left ∙ ap from_place c.in-None.is in
    IfOk-weaker c.seek-in-None.result _ _ (λ p is. is ∙ sym (past c.args.to c.in-Some.place rest none) ∙ ap (λ o. from_on c.args.to (from_place o ++ rest)) (sym c.in-Some.is)) c.seek-in-None.ensures.left

pub returns-in_default-clause-left : goal.returns-in_default-clause-left
returns-in_default-clause-left g c =
    IfOk-weaker c.seek.result _ _ (λ p is. is ∙ ap (λ o. from_on c.args.to (from_place o ++ posting_list (drop c.args.taken c.args.rows.now))) (sym c.in_default.is)) c.seek.ensures.left

pub returns-in-Some-seek_in_row-clause-left : goal.returns-in-Some-seek_in_row-clause-left
returns-in-Some-seek_in_row-clause-left g c =
    let rest = posting_list (drop c.args.taken c.args.rows.now) in
    let is : c.in-Some-seek_in_row.place ≡ from_on c.args.to c.in-Some.place = sym (ap from_place c.in-Some-seek_in_row.is) ∙ c.seek_in_row.ensures.left in
    let some : 0 < length c.in-Some-seek_in_row.place = subst (λ p. IfSome p (λ place. 0 < length place)) c.in-Some-seek_in_row.is c.seek_in_row.ensures.some in
    sym (within c.args.to c.in-Some-seek_in_row.place c.in-Some.place rest is some) ∙ ap (λ o. from_on c.args.to (from_place o ++ rest)) (sym c.in-Some.is)
