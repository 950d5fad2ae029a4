use Rattle.std.proofs.Common.{◌≡◌, ◌+◌, ◌++◌, length}
use Rattle.tx_document.specs.Documents.{runs_from}
use Rattle.tx_document.proofs.endings.put_all_runs.Given as goal

abbrev pub invariant-loop-rest : goal.invariant-loop-rest
invariant-loop-rest l = record {
  count : l.position + length l.rest ≡ length l.tokens + 1;
  so_far : l.found.items ++ runs_from l.ending l.first l.position l.rest ≡ l.fn.found.items ++ runs_from l.ending 1 1 l.tokens;
}

abbrev pub decreases-loop-rest : goal.decreases-loop-rest
decreases-loop-rest l = length l.rest
