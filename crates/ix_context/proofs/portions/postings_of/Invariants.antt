use Rattle.std.proofs.Common.{◌≡◌, ◌++◌, map}
use Rattle.ix_context.specs.GatheringPortions.{posting_of}
use Rattle.ix_context.proofs.portions.postings_of.Given as goal

abbrev pub invariant-loop-entry : goal.invariant-loop-entry
invariant-loop-entry l = l.postings.items ++ map (posting_of l.document) l.entry-iterator.rest.items ≡ map (posting_of l.document) l.fn.entries.items
