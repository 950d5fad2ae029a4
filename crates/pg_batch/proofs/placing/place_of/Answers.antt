use Rattle.std.proofs.Common.{⊎_elim}
use Rattle.pg_batch.proofs.DiskReads.{goes_on}
use Rattle.pg_batch.proofs.Neighbours.{no_top, given}
use Rattle.pg_batch.proofs.placing.place_of.Goals as goal

pub returns-then-top-eq0-clause-place : goal.returns-then-top-eq0-clause-place
returns-then-top-eq0-clause-place g c = λ pages holds finds. λ e has is. no_top pages c.args.top finds c.if-top-eq0.true e has

pub returns-clause-place : goal.returns-clause-place
returns-clause-place g c = λ pages holds finds. ⊎_elim
    (λ none. absurd (c.if-top-eq0.false none.0))
    (λ dir.
    let n = given c.in-Ok.found c.in-Some.found pages dir.0 c.args.key.now (c.in-Ok.ensures.found pages dir.0 holds dir.1) c.in-Some.is in
    c.place_among.ensures.place c.args.top pages dir.0 (goes_on _ _ _ _ pages c.in-Ok.ensures.same holds) dir.1 n)
    finds
