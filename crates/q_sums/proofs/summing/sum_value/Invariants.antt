use Rattle.std.proofs.Common.{◌≡◌, ◌≤◌, ◌*◌, [], true, length}
use Rattle.std.specs.List.{list_all}
use Rattle.q_tree.specs.Soundness.{is_step}
use Rattle.q_tree.specs.Sums.{sum_of}
use Rattle.q_sums.specs.Magnitudes.{last_first, magnitude, growth, magnitude_limit}
use Rattle.q_sums.proofs.summing.sum_value.Given as goal

abbrev pub invariant-loop-rest : goal.invariant-loop-rest
invariant-loop-rest l = record {
  so_far : sum_of l.count l.rest (last_first l.stack.items) ≡ sum_of l.count l.steps [];
  small : magnitude (last_first l.stack.items) * growth l.rest ≤ magnitude_limit;
  are_steps : list_all is_step l.rest ≡ true;
}

abbrev pub decreases-loop-rest : goal.decreases-loop-rest
decreases-loop-rest l = length l.rest
