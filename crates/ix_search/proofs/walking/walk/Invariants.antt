use Rattle.std.proofs.Common.{◌≡◌, ◌≤◌, ◌<◌, ◌-◌, ◌^◌, ℕ}
use Rattle.std.specs.FinMap.{get}
use Rattle.ix_cursor.specs.Cursors.{remaining}
use Rattle.ix_search.specs.Walking.{AreOneToOne, AreScoresBefore}
use Rattle.ix_search.proofs.walking.walk.Given as goal

abbrev pub invariant-documents : goal.invariant-documents
invariant-documents l = record {
  low : l.to ≤ 2 ^ 32;
  left : (d : ℕ) → l.to ≤ d → d < 2 ^ 32 → remaining l.cursor d ≡ remaining l.fn.cursor d;
  scores : AreOneToOne (get l.rows) → AreScoresBefore (get l.rows) (remaining l.fn.cursor) l.to l.scores;
}

abbrev pub decreases-documents : goal.decreases-documents
decreases-documents l = 2 ^ 32 - l.to
