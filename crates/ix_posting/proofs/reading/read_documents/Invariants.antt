use Rattle.std.proofs.Common.{◌-◌}
use Rattle.ix_posting.specs.Places.{AreDocumentsAt}
use Rattle.ix_posting.specs.laws.Items.{HasRead}
use Rattle.ix_posting.proofs.reading.read_documents.Given as goal

abbrev pub invariant-loop : goal.invariant-loop
invariant-loop g l = HasRead (AreDocumentsAt g.P.Place.form l.bytes) 0 l.at l.count l.documents.items l.last l.place (l.count - l.counter)
