use Rattle.std.proofs.Common.{◌≡◌, drop}
use Rattle.ix_cursor.specs.Reading.{rows_read, SectionFeedsRise}
use Rattle.ix_cursor.proofs.reading.section_of.Given as goal

abbrev pub invariant-loop-feed : goal.invariant-loop-feed
invariant-loop-feed l = record {
  rise : SectionFeedsRise (drop l.feed-index l.feeds);
  rest : rows_read (drop l.feed-index l.feeds) l.name ≡ rows_read l.feeds l.name;
}
