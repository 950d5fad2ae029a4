use Rattle.std.proofs.Common.{◌≤◌, ◌-◌, ◌^◌}
use Rattle.ix_cursor.specs.Nodes.{SameScoresFrom, SameDocumentsFrom}
use Rattle.ix_cursor.specs.Candidates.{NoneMayBetween}
use Rattle.ix_cursor.proofs.candidates.first_candidate.Given as goal

abbrev pub invariant-documents : goal.invariant-documents
invariant-documents l = record {
  from : l.from ≤ l.at;
  none : NoneMayBetween l.fn.root l.from l.at;
  scores : SameScoresFrom l.at l.fn.root l.root;
  documents : SameDocumentsFrom l.at l.fn.root l.root;
}

abbrev pub decreases-documents : goal.decreases-documents
decreases-documents l = 2 ^ 32 - l.at
