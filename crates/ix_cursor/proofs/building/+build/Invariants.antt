use Rattle.std.proofs.Common.{◌+◌, ◌*◌, max}
use Rattle.q_tree.proofs.flats.Flat.TheLaws.{the_size}
use Rattle.ix_cursor.proofs.building.+build.Given as goal

abbrev pub decreases-build : goal.decreases-build
decreases-build g l = 3 * the_size l.flat.now

abbrev pub decreases-build_both : goal.decreases-build_both
decreases-build_both g l = 3 * max (the_size l.a.now) (the_size l.b.now) + 1

abbrev pub decreases-build_within : goal.decreases-build_within
decreases-build_within g l = 3 * the_size l.a.now + 2

abbrev pub decreases-build_in_section : goal.decreases-build_in_section
decreases-build_in_section g l = 3 * the_size l.a.now + 1
