use Rattle.std.proofs.Common.{◌≡◌, drop}
use Rattle.ix_search.specs.Wanting.{with_operands}
use Rattle.ix_search.proofs.wanting.want_operands.Given as goal

abbrev pub invariant-loop-phrases : goal.invariant-loop-phrases
invariant-loop-phrases l = with_operands l.stream (drop l.phrases-index l.operands) l.wanted ≡ with_operands l.stream l.operands l.fn.wanted
