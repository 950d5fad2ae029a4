use Rattle.std.proofs.Common.{◌≡◌, ◌++◌, drop}
use Rattle.ix_spans.specs.Occurrences.{term_pairs}
use Rattle.ix_cursor.specs.Seen.{seen_phrases}
use Rattle.ix_cursor.proofs.scoring.pairs_of_phrases.Given as goal

abbrev pub invariant-loop-phrase : goal.invariant-loop-phrase
invariant-loop-phrase l = l.out.items ++ term_pairs (seen_phrases (drop l.phrase-index l.phrases)) l.lo l.hi ≡ term_pairs (seen_phrases l.phrases) l.lo l.hi
