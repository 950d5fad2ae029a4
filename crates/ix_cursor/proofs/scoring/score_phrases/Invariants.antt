use Rattle.std.proofs.Common.{◌≡◌, max, drop}
use Rattle.ix_spans.specs.Occurrences.{term_score}
use Rattle.ix_cursor.specs.Seen.{seen_phrases}
use Rattle.ix_cursor.proofs.scoring.score_phrases.Given as goal

abbrev pub invariant-loop-phrase : goal.invariant-loop-phrase
invariant-loop-phrase l = max l.best (term_score (seen_phrases (drop l.phrase-index l.phrases)) l.lo l.hi) ≡ term_score (seen_phrases l.phrases) l.lo l.hi
