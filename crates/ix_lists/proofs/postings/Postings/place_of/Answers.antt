use Rattle.std.proofs.Common.{◌++◌, ◌∙◌, drop, ap, subst}
use Rattle.ix_posting.specs.Lists.{posting_list}
use Rattle.ix_posting.specs.Rows.{DocumentsRise}
use Rattle.ix_lists.specs.Documents.{from_place, from_on, places_at}
use Rattle.ix_lists.proofs.Passing.{found_shown}
use Rattle.ix_lists.proofs.postings.Postings.place_of.Goals as goal

pub returns-clause-places : goal.returns-clause-places
returns-clause-places g c =
    let q = c.in_ok-found.found in
    let p = c.self.inside.place in
    let rest = posting_list (drop p.taken c.self.inside.rows) in
    found_shown g.P.Place.form c.args.document q.place (drop q.taken c.self.inside.rows) (from_place p.place ++ rest) c.self.invariant.1 c.in_ok-found.ensures.shown
    (c.in_ok-found.ensures.left ∙ ap (λ ds. from_on c.args.document (ds ++ rest)) c.in_ok-here.ensures)
    ∙ ap (λ ds. places_at ds c.args.document) c.self.view_is

pub returns-clause-rise : goal.returns-clause-rise
returns-clause-rise g c = subst (DocumentsRise g.P.Place.form 0) c.self.view_is c.self.invariant.1
