use Rattle.std.proofs.Common.{ℕ, ◌≡◌, ◌<◌, false, None, get_or, length}
use Rattle.ix_spans.specs.Slots.{is_shorter}
use Rattle.ix_spans.specs.Views.{slots_view}
use Rattle.ix_spans.proofs.phrases.shortest.Given as goal

abbrev pub invariant-loop-place : goal.invariant-loop-place
invariant-loop-place l = record {
  within : l.found < length l.slots;
  least : (k : ℕ) → k < l.place → is_shorter (get_or (slots_view l.slots) k None) (get_or (slots_view l.slots) l.found None) ≡ false;
}
