use Rattle.std.proofs.Common.{◌≡◌, length}
use Rattle.std.specs.List.{list_all}
use Rattle.csv_table.specs.Tables.{values_at}
use Rattle.csv_table.specs.Wholes.{is_whole}
use Rattle.csv_table.proofs.rows.are_whole_at.Given as goal

abbrev pub invariant-rows : goal.invariant-rows
invariant-rows l = list_all is_whole (values_at l.place l.rest) ≡ list_all is_whole (values_at l.place l.rows)

abbrev pub decreases-rows : goal.decreases-rows
decreases-rows l = length l.rest
