use Rattle.std.proofs.lemmas.Result.{err_from_is_err_and}
use Rattle.ix_posting.specs.laws.Heads.{head_alone}
use Rattle.ix_posting.proofs.reading.read_document.Goals as goal

pub returns-in_default-clause-bad : goal.returns-in_default-clause-bad
returns-in_default-clause-bad g c = λ bad d next is. c.in_default.ensures.none _ _ _ is.head

pub returns-in_err-places-clause-bad : goal.returns-in_err-places-clause-bad
returns-in_err-places-clause-bad g c = λ bad d next is.
    let fault = err_from_is_err_and c.from_residual.result c.from_residual.ensures.1 in
    let head = head_alone _ _ _ _ _ _ _ _ _ is.head c.in-Some.ensures.some in
    c.in_err-places.ensures.bad (cc (fault.1, fault.2)) _ _ (rw (head.1, head.2) at is.places)
