use Rattle.std.proofs.Common.{◌≡◌, false, length}
use Rattle.std.specs.Prelude.{is_none}
use Rattle.st_cut.specs.Cut.{first_statement}
use Rattle.csv_table.proofs.texts.is_uncut.Given as goal

abbrev pub invariant-bytes : goal.invariant-bytes
invariant-bytes l = is_none (first_statement false l.rest) ≡ is_none (first_statement false l.bytes)

abbrev pub decreases-bytes : goal.decreases-bytes
decreases-bytes l = length l.rest
