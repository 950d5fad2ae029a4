use Rattle.std.proofs.Common.{◌≡◌, length}
use Rattle.ix_rows.specs.Runs.{grown_run, run_len, run_documents}
use Rattle.ix_rows.proofs.runs.Run.add_to.Given as goal

abbrev pub invariant-loop-rest : goal.invariant-loop-rest
invariant-loop-rest l = record {
  long : length l.bytes ≡ run_len l.rest;
  grown : grown_run l.rows (run_documents l.rest l.bytes) ≡ grown_run l.fn.rows l.fn.self;
}

abbrev pub decreases-loop-rest : goal.decreases-loop-rest
decreases-loop-rest l = length l.rest
