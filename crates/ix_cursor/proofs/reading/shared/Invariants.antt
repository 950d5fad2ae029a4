use Rattle.std.proofs.Common.{◌≡◌, ◌++◌, drop}
use Rattle.ix_cursor.specs.Reading.{documents_of, TokensRise}
use Rattle.ix_cursor.proofs.reading.shared.Given as goal

abbrev pub invariant-loop-rows : goal.invariant-loop-rows
invariant-loop-rows l = record {
  rise : TokensRise (drop l.rows-index l.tokens);
  so_far : l.postings.items ++ documents_of (drop l.rows-index l.tokens) ≡ documents_of l.tokens;
}
