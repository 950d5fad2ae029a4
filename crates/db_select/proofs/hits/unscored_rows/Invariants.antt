use Rattle.std.proofs.Common.{◌≡◌, ◌++◌, map}
use Rattle.db_select.specs.Hits.{unscored}
use Rattle.db_select.proofs.hits.unscored_rows.Given as goal

abbrev pub invariant-loop-row : goal.invariant-loop-row
invariant-loop-row l = l.found.items ++ map unscored l.row-iterator.rest.items ≡ map unscored l.fn.rows.items
