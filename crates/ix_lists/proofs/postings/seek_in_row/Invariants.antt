use Rattle.std.proofs.Common.{◌≡◌, length}
use Rattle.ix_lists.specs.Documents.{from_on}
use Rattle.ix_lists.proofs.postings.seek_in_row.Given as goal

abbrev pub invariant-documents : goal.invariant-documents
invariant-documents g l = from_on l.to l.here ≡ from_on l.to l.fn.place

abbrev pub decreases-documents : goal.decreases-documents
decreases-documents g l = length l.here
