use Rattle.std.proofs.Common.{◌≡◌, length}
use Rattle.std.specs.Prelude.{max}
use Rattle.csv_table.specs.Tables.{longest, values_at}
use Rattle.csv_table.proofs.rows.longest_at.Given as goal

abbrev pub invariant-rows : goal.invariant-rows
invariant-rows l = max l.most (longest (values_at l.place l.rest)) ≡ longest (values_at l.place l.rows)

abbrev pub decreases-rows : goal.decreases-rows
decreases-rows l = length l.rest
