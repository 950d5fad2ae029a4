use Rattle.std.proofs.Common.{◌++◌, ◌∙◌, drop, sym, ap, subst}
use Rattle.ix_posting.specs.Lists.{posting_list}
use Rattle.ix_posting.specs.Rows.{DocumentsRise}
use Rattle.ix_lists.specs.Documents.{from_place, from_on}
use Rattle.ix_lists.proofs.Passing.{left_rises, second_rises}
use Rattle.ix_lists.proofs.postings.Postings.skip.Goals as goal

pub invariant_of-self : goal.invariant_of-self
invariant_of-self g c =
    let rest = posting_list (drop c.self.inside.place.taken c.self.inside.rows) in
    (c.self.invariant.0, subst (λ o. DocumentsRise g.P.Place.form 0 (from_place o ++ rest)) (sym c.take-here.ensures.after) (second_rises g.P.Place.form 0 (from_place c.self.inside.place.place) rest c.self.invariant.1))

pub invariant_of-self-2 : goal.invariant_of-self-2
invariant_of-self-2 g c =
    let q = c.in_ok-place.place in
    let rest = posting_list (drop c.self.inside.place.taken c.self.inside.rows) in
    let left = c.in_ok-place.ensures.left ∙ ap (λ o. from_on c.args.to (from_place o ++ rest)) c.take-here.ensures.value in
    rw c.go_to.ensures (c.in_ok-place.ensures.taken, left_rises g.P.Place.form c.args.to (from_place q.place ++ posting_list (drop q.taken c.self.inside.rows)) (from_place c.self.inside.place.place ++ rest) left c.self.invariant.1)

pub returns-clause-rise : goal.returns-clause-rise
returns-clause-rise g c =
    let q = c.in_ok-place.place in
    let rest = posting_list (drop c.self.inside.place.taken c.self.inside.rows) in
    let left = c.in_ok-place.ensures.left ∙ ap (λ o. from_on c.args.to (from_place o ++ rest)) c.take-here.ensures.value in
    rw c.go_to.ensures (left_rises g.P.Place.form c.args.to (from_place q.place ++ posting_list (drop q.taken c.self.inside.rows)) (from_place c.self.inside.place.place ++ rest) left c.self.invariant.1)
