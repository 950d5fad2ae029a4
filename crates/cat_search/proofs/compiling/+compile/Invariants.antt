use Rattle.std.proofs.Common.{◌+◌, ◌*◌}
use Rattle.q_tree.proofs.flats.Flat.TheLaws.{the_size}
use Rattle.cat_search.proofs.compiling.+compile.Given as goal

abbrev pub decreases-compile : goal.decreases-compile
decreases-compile g l = 2 * the_size l.flat.now

abbrev pub decreases-put_rows : goal.decreases-put_rows
decreases-put_rows g l = 2 * the_size l.flat.now + 1
