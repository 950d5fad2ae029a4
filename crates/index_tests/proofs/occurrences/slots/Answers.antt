use Rattle.std.proofs.Common.{sym, subst}
use Rattle.ix_spans.specs.Slots.{SlotsRise}
use Rattle.ix_spans.specs.Views.{slots_view}
use Rattle.index_tests.proofs.Fixtures.{slots_push}
use Rattle.index_tests.proofs.occurrences.slots.Goals as goal

pub loop-word-preserved : goal.loop-word-preserved
loop-word-preserved c = subst (λ ss. SlotsRise (slots_view ss)) (sym c.in_ok-push.ensures.items) (slots_push c.loop-word.all.items c.in_ok-slot.field-0 c.loop-word.invariant c.in_ok-slot.ensures)
