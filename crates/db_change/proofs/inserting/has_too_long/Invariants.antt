use Rattle.std.proofs.Common.{◌≡◌, true, drop, take}
use Rattle.std.specs.List.{All}
use Rattle.db_change.specs.Inserting.{are_of_sorts, has_too_long, IsShortValue}
use Rattle.db_change.proofs.inserting.has_too_long.Given as goal

abbrev pub invariant-loop-place : goal.invariant-loop-place
invariant-loop-place l = record {
  long : has_too_long (drop l.place l.columns) (drop l.place l.values) ≡ has_too_long l.columns l.values;
  short : are_of_sorts l.columns l.values ≡ true → All IsShortValue (take l.place l.values);
}
