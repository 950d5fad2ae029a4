use Rattle.std.proofs.Common.{◌≡◌, drop}
use Rattle.db_state.specs.Columns.{place_from, column_place}
use Rattle.db_state.proofs.columns.column_place.Given as goal

abbrev pub invariant-loop-place : goal.invariant-loop-place
invariant-loop-place l = place_from l.place l.name-2 (drop l.place l.columns) ≡ column_place l.name-2 l.columns
