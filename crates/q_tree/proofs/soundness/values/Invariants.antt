use Rattle.std.proofs.Common.{◌≡◌, ◌≤◌, drop}
use Rattle.q_tree.specs.Soundness.{values}
use Rattle.q_tree.proofs.soundness.values.Given as goal

abbrev pub invariant-loop-step : goal.invariant-loop-step
invariant-loop-step l = record {
  few : l.count ≤ l.step-index;
  rest : values (drop l.step-index l.steps) l.count ≡ values l.steps 0;
}
