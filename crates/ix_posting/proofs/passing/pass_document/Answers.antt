use Rattle.ix_posting.specs.laws.Heads.{head_alone}
use Rattle.ix_posting.proofs.PassSteps.{document_passed}
use Rattle.ix_posting.proofs.passing.pass_document.Goals as goal

pub returns-in_default-clause-none : goal.returns-in_default-clause-none
returns-in_default-clause-none g c = λ d next is. c.in_default.ensures.none _ _ _ is.head

pub returns-in_default-pass_places-clause-none : goal.returns-in_default-pass_places-clause-none
returns-in_default-pass_places-clause-none g c = λ d next is.
    let head = head_alone _ _ _ _ _ _ _ _ _ is.head c.in-Some.ensures.some in
    c.in_default-pass_places.ensures.none _ _ (rw (head.1, head.2) at is.places)

pub returns-clause-some : goal.returns-clause-some
returns-clause-some g c = document_passed g.P.Place.form _ _ _ _ _ _ _ c.in-Some.ensures.some c.in-Some-pass_places.ensures.some
