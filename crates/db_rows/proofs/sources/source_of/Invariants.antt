use Rattle.std.proofs.Common.{◌≡◌, ◌≤◌, drop}
use Rattle.db_rows.specs.Sources.{source_from}
use Rattle.db_rows.proofs.sources.source_of.Given as goal

abbrev pub invariant-loop-place : goal.invariant-loop-place
invariant-loop-place l = record {
  few : l.before ≤ l.place;
  source : source_from l.place l.before l.name-2 (drop l.place l.columns) ≡ source_from 0 0 l.name-2 l.columns;
}
