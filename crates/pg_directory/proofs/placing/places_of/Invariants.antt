use Rattle.std.proofs.Common.{◌≡◌, take}
use Rattle.pg_directory.specs.Placing.{places_kept}
use Rattle.pg_directory.proofs.placing.places_of.Given as goal

abbrev pub invariant-loop-key : goal.invariant-loop-key
invariant-loop-key l = l.places.items ≡ places_kept (take l.key-index l.keys)
