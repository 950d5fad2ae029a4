use Rattle.std.proofs.Common.{◌+◌, ap}
use Rattle.index_tests.proofs.Fixtures.{rises_push, below_more, below_push}
use Rattle.index_tests.proofs.occurrences.positions.Goals as goal
use Rattle.index_tests.proofs.occurrences.positions.Goals.{then-other-word+in_ok-push, else-other-word}

pub loop-other-preserved : goal.loop-other-preserved
loop-other-preserved c =
    let next = c.loop-other.position + 1 in
    elim c.if-other-word.branch [
      | then-other-word+in_ok-push w ↦ rw (w.found-is, w.in_ok-push.ensures.items) (record {
        counted = ap (λ n. n + 1) c.loop-other.invariant.counted;
        rise = rises_push c.loop-other.found.items next c.loop-other.invariant.rise c.loop-other.invariant.below;
        below = below_push next c.loop-other.found.items c.loop-other.invariant.below;
      })
      | else-other-word w ↦ rw w.found-is (record {
        counted = ap (λ n. n + 1) c.loop-other.invariant.counted;
        rise = c.loop-other.invariant.rise;
        below = below_more next c.loop-other.found.items c.loop-other.invariant.below;
      })
    ]
