use Rattle.std.proofs.Common.{◌≡◌, ◌++◌, length, true}
use Rattle.std.specs.List.{flat_map, list_all}
use Rattle.q_tree.specs.Limits.{leaf_keeps_limits}
use Rattle.q_reduce.specs.Faults.{leaf_faults}
use Rattle.q_reduce.specs.Reducing.{leaf_phrases}
use Rattle.q_reduce.specs.Results.{context_of}
use Rattle.q_reduce.proofs.phrases.operand_phrases.Given as goal

abbrev pub invariant-loop-rest : goal.invariant-loop-rest
invariant-loop-rest l =
    let x = context_of l.ctx in
    record {
      limits : list_all leaf_keeps_limits l.rest ≡ true;
      faults : flat_map (leaf_faults x) l.rest ≡ flat_map (leaf_faults x) l.leaves;
      phrases : l.phrases.items ++ flat_map (leaf_phrases x) l.rest ≡ flat_map (leaf_phrases x) l.leaves;
    }

abbrev pub decreases-loop-rest : goal.decreases-loop-rest
decreases-loop-rest l = length l.rest
