use Rattle.std.proofs.Common.{◌≡◌, false, length}
use Rattle.std.specs.Prelude.{is_some}
use Rattle.st_cut.specs.Cut.{line_end}
use Rattle.csv_table.proofs.texts.ends_line.Given as goal

abbrev pub invariant-bytes : goal.invariant-bytes
invariant-bytes l = is_some (line_end false l.rest) ≡ is_some (line_end false l.bytes)

abbrev pub decreases-bytes : goal.decreases-bytes
decreases-bytes l = length l.rest
