use Rattle.std.proofs.Common.{◌≡◌, ◌++◌, length}
use Rattle.ix_cursor.specs.Alone.{rising_firsts}
use Rattle.ix_cursor.proofs.alone.rising_firsts.Given as goal

abbrev pub invariant-loop-rest : goal.invariant-loop-rest
invariant-loop-rest l = l.firsts.items ++ rising_firsts l.last l.rest ≡ rising_firsts 0 l.pairs

abbrev pub decreases-loop-rest : goal.decreases-loop-rest
decreases-loop-rest l = length l.rest
