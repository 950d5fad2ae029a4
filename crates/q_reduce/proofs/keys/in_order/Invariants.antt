use Rattle.std.proofs.Common.{◌≡◌, length}
use Rattle.q_reduce.specs.Reducing.{in_order}
use Rattle.q_reduce.proofs.KeysInOrder.{put_all}
use Rattle.q_reduce.proofs.keys.in_order.Given as goal

abbrev pub invariant-loop-key : goal.invariant-loop-key
invariant-loop-key l = put_all l.rest.items l.sorted.items ≡ in_order l.fn.keys.items

abbrev pub decreases-loop-key : goal.decreases-loop-key
decreases-loop-key l = length l.rest.items
