use Rattle.std.proofs.Common.{◌≡◌}
use Rattle.std.specs.Prelude.{All}
use Rattle.ix_context.specs.GatheringPortions.{Comes, with_postings, with_term_run}
use Rattle.ix_context.proofs.gathering.IndexRows.put_postings.Given as goal

abbrev pub invariant-loop-posting : goal.invariant-loop-posting
invariant-loop-posting l = record {
  gathers : with_postings (with_term_run l.self l.run.is_section l.run.term.items l.run.documents) l.posting-iterator.rest.items ≡ with_postings l.fn.self l.fn.postings.items;
  come : All Comes l.posting-iterator.rest.items;
}
