use Rattle.std.proofs.Common.{◌≡◌, true}
use Rattle.ix_cursor.specs.MayScore.{may_occur}
use Rattle.ix_lists.specs.Seeking.{SameFrom, BoundsFrom}
use Rattle.ix_cursor.specs.Feeding.{phrases_at, phrase_at}
use Rattle.ix_cursor.specs.Passing.{phrase_passed}
use Rattle.ix_cursor.proofs.Bounds.{any_first, all_first}
use Rattle.ix_cursor.proofs.feeds.pass_phrases.Given as goal

abbrev pub invariant-loop-i : goal.invariant-loop-i
invariant-loop-i l = record {
  keeps : SameFrom l.to (phrases_at l.initial.phrases) (phrases_at l.phrases);
  passed : all_first (phrase_passed l.to) l.i l.phrases ≡ true;
  bound : BoundsFrom l.to (λ d. any_first (λ p. may_occur (phrase_at p d)) l.i l.phrases) l.bound;
}
