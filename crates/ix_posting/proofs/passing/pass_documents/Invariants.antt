use Rattle.std.proofs.Common.{◌-◌}
use Rattle.ix_posting.proofs.PassSteps.{DocumentsPassed}
use Rattle.ix_posting.proofs.passing.pass_documents.Given as goal

abbrev pub invariant-loop : goal.invariant-loop
invariant-loop g l = DocumentsPassed g.P.Place.form g.P.Place.lawful l.bytes l.at l.count l.last l.place (l.count - l.counter)
