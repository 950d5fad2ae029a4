use Rattle.std.proofs.Common.{◌≡◌, ◌++◌, drop}
use Rattle.ix_spans.specs.Views.{slots_view}
use Rattle.ix_cursor.specs.Feeding.{slots_at}
use Rattle.ix_cursor.proofs.seeing.positions_of.Given as goal

abbrev pub invariant-loop-slot : goal.invariant-loop-slot
invariant-loop-slot l = slots_view l.out.items ++ slots_at (drop l.slot-index l.slots) l.document ≡ slots_at l.slots l.document
