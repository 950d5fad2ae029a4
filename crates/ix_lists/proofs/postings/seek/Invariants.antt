use Rattle.std.proofs.Common.{◌≡◌, drop}
use Rattle.ix_posting.specs.Lists.{posting_list}
use Rattle.ix_lists.specs.Documents.{from_on}
use Rattle.ix_lists.proofs.postings.seek.Given as goal

abbrev pub invariant-loop-i : goal.invariant-loop-i
invariant-loop-i g l = from_on l.to (posting_list (drop l.i l.rows)) ≡ from_on l.to (posting_list (drop l.taken l.rows))
