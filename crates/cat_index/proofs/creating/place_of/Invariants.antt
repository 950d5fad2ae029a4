use Rattle.std.proofs.Common.{◌≡◌, ◌+◌, length}
use Rattle.cat_index.specs.Catalogues.{place_of}
use Rattle.cat_index.proofs.creating.place_of.Given as goal

abbrev pub invariant-loop-rest : goal.invariant-loop-rest
invariant-loop-rest l = record {
  found : l.place + place_of l.rest l.name-2 ≡ place_of l.columns l.name-2;
  counted : l.place + length l.rest ≡ length l.columns;
}

abbrev pub decreases-loop-rest : goal.decreases-loop-rest
decreases-loop-rest l = length l.rest
