use Rattle.std.proofs.Common.{◌≡◌, drop}
use Rattle.db_state.specs.Columns.{first_unknown}
use Rattle.db_change.proofs.inserting.unknown_column.Given as goal

abbrev pub invariant-loop-name : goal.invariant-loop-name
invariant-loop-name l = first_unknown (drop l.name-index l.names) l.columns ≡ first_unknown l.names l.columns
