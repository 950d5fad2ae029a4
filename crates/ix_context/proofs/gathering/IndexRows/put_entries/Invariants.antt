use Rattle.std.proofs.Common.{◌≡◌}
use Rattle.std.specs.Prelude.{All}
use Rattle.ix_context.specs.Gathering.{with_entries}
use Rattle.ix_context.specs.Postings.{IsPosting}
use Rattle.ix_context.proofs.gathering.IndexRows.put_entries.Given as goal

abbrev pub invariant-loop-entry : goal.invariant-loop-entry
invariant-loop-entry l = record {
  gathers : with_entries l.self l.document l.entry-iterator.rest.items ≡ with_entries l.fn.self l.document l.fn.entries.items;
  fit : All IsPosting l.entry-iterator.rest.items;
}
