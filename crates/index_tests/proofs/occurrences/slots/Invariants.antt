use Rattle.ix_spans.specs.Slots.{SlotsRise}
use Rattle.ix_spans.specs.Views.{slots_view}
use Rattle.index_tests.proofs.occurrences.slots.Given as goal

abbrev pub invariant-loop-word : goal.invariant-loop-word
invariant-loop-word l = SlotsRise (slots_view l.all.items)
