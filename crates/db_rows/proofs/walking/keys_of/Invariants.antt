use Rattle.std.proofs.Common.{◌≡◌, take}
use Rattle.db_rows.specs.Walking.{met_keys}
use Rattle.db_rows.proofs.walking.keys_of.Given as goal

abbrev pub invariant-loop-row : goal.invariant-loop-row
invariant-loop-row l = l.keys.items ≡ met_keys (take l.row-index l.rows)
