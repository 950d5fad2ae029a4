use Rattle.std.proofs.Common.{◌≡◌, drop}
use Rattle.q_tree.specs.Slots.{same_keys}
use Rattle.q_tree.proofs.same.same_keys.Given as goal

abbrev pub invariant-loop-key : goal.invariant-loop-key
invariant-loop-key l = same_keys (drop l.key-index l.a) l.others ≡ same_keys l.a l.b
