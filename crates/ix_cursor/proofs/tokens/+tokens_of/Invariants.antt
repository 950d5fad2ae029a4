use Rattle.std.proofs.Common.{length}
use Rattle.ix_cursor.proofs.tokens.+tokens_of.Given as goal

abbrev pub decreases-tokens_of : goal.decreases-tokens_of
decreases-tokens_of l = length l.postings.items
