use Rattle.std.proofs.Common.{◌-◌, ◌^◌}
use Rattle.ix_spans.specs.Views.{pairs_view}
use Rattle.ix_spans.proofs.Windowing.{StandFrom}
use Rattle.ix_spans.proofs.nearness.windowed.Given as goal

abbrev pub invariant-loop-start : goal.invariant-loop-start
invariant-loop-start l = StandFrom (pairs_view l.operands) l.span l.from

abbrev pub decreases-loop-start : goal.decreases-loop-start
decreases-loop-start l = 2 ^ 64 - l.from
