use Rattle.std.proofs.Common.{◌≡◌, ◌+◌}
use Rattle.ix_spans.specs.Rising.{Rising}
use Rattle.index_tests.proofs.Fixtures.{Below}
use Rattle.index_tests.proofs.occurrences.positions.Given as goal

abbrev pub invariant-loop-other : goal.invariant-loop-other
invariant-loop-other l = record {
  counted : l.position ≡ l.other-index;
  rise : Rising l.found.items;
  below : Below (l.position + 1) l.found.items;
}
