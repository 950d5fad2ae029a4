use Rattle.ct_keep.specs.Content.{after}
use Rattle.pg_heap.proofs.Applies.{never_past}
use Rattle.pg_heap.proofs.heaps.Heap.apply.Goals as goal

pub returns-clause-not_full : goal.returns-clause-not_full
returns-clause-not_full g c = λ s is. never_past s.held (after c.args.batch s.held) c.apply_within.result (c.apply_within.ensures.answers s) (c.apply_within.ensures.fits s) is
