use Rattle.std.proofs.Common.{◌≡◌, drop}
use Rattle.db_rows.specs.Checking.{sort_of}
use Rattle.db_rows.proofs.checking.sort_of.Given as goal

abbrev pub invariant-loop-column : goal.invariant-loop-column
invariant-loop-column l = sort_of l.name-2 (drop l.column-index l.columns) ≡ sort_of l.name-2 l.columns
