use Rattle.std.proofs.Common.{◌≡◌, ◌++◌, length, map, true}
use Rattle.std.specs.Prelude.{filter}
use Rattle.std.specs.List.{flat_map, list_all}
use Rattle.q_tree.specs.Limits.{leaves_keep_limits}
use Rattle.q_reduce.specs.Faults.{leaves_faults}
use Rattle.q_reduce.specs.Reducing.{has_phrase, operand_phrases}
use Rattle.q_reduce.specs.Results.{context_of}
use Rattle.q_reduce.proofs.phrases.operands.Given as goal

abbrev pub invariant-loop-rest : goal.invariant-loop-rest
invariant-loop-rest l =
    let x = context_of l.ctx in
    record {
      limits : list_all leaves_keep_limits l.rest ≡ true;
      faults : flat_map (leaves_faults x) l.rest ≡ flat_map (leaves_faults x) l.operands;
      found : l.found.items ++ filter has_phrase (map (operand_phrases x) l.rest) ≡ filter has_phrase (map (operand_phrases x) l.operands);
    }

abbrev pub decreases-loop-rest : goal.decreases-loop-rest
decreases-loop-rest l = length l.rest
