use Rattle.std.proofs.Common.{◌≡◌, length}
use Rattle.gen_script.specs.Occurring.{begins_with}
use Rattle.gen_script.proofs.occurring.begins_with.Given as goal

abbrev pub invariant-loop-part : goal.invariant-loop-part
invariant-loop-part l = begins_with l.part l.text ≡ begins_with l.fn.part l.fn.text

abbrev pub decreases-loop-part : goal.decreases-loop-part
decreases-loop-part l = length l.part
