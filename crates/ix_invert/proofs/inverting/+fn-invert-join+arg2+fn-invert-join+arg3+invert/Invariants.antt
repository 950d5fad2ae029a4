use Rattle.std.proofs.Common.{◌+◌, ◌*◌}
use Rattle.ix_invert.proofs.inverting.+fn-invert-join+arg2+fn-invert-join+arg3+invert.Given as goal

abbrev pub decreases-join+arg2 : goal.decreases-join+arg2
decreases-join+arg2 g l = 2 * l.left_degree + 1

abbrev pub decreases-join+arg3 : goal.decreases-join+arg3
decreases-join+arg3 g l = 2 * l.right_degree + 1

abbrev pub decreases-invert : goal.decreases-invert
decreases-invert g l = 2 * l.degree
