use Rattle.std.proofs.Common.{◌≡◌, ◌≤◌, ◌+◌, drop}
use Rattle.q_tree.specs.Soundness.{operators}
use Rattle.q_tree.proofs.soundness.operators.Given as goal

abbrev pub invariant-loop-step : goal.invariant-loop-step
invariant-loop-step l = record {
  few : l.count ≤ l.step-index;
  rest : l.count + operators (drop l.step-index l.steps) ≡ operators l.steps;
}
