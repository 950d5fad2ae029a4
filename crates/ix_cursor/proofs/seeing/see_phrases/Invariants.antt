use Rattle.std.proofs.Common.{◌≡◌}
use Rattle.ix_lists.specs.Seeking.{SameFrom}
use Rattle.ix_cursor.specs.Feeding.{phrase_at, phrases_at}
use Rattle.ix_cursor.specs.Seen.{seen_phrase}
use Rattle.ix_cursor.proofs.Mixing.{mixed}
use Rattle.ix_cursor.proofs.seeing.see_phrases.Given as goal

abbrev pub invariant-loop-i : goal.invariant-loop-i
invariant-loop-i l = record {
  keeps : SameFrom 0 (phrases_at l.initial.phrases) (phrases_at l.phrases);
  seen : mixed (λ p. seen_phrase p) (λ p. phrase_at p l.document) l.i l.phrases ≡ phrases_at l.initial.phrases l.document;
}
