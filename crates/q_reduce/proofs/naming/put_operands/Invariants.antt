use Rattle.std.proofs.Common.{◌≡◌, length}
use Rattle.std.specs.List.{flat_map}
use Rattle.q_reduce.specs.Naming.{leaves_names, with_thesaurus_names}
use Rattle.q_reduce.proofs.naming.put_operands.Given as goal

abbrev pub invariant-loop-rest : goal.invariant-loop-rest
invariant-loop-rest l = with_thesaurus_names l.names.items (flat_map leaves_names l.rest) ≡ with_thesaurus_names l.fn.names.items (flat_map leaves_names l.operands)

abbrev pub decreases-loop-rest : goal.decreases-loop-rest
decreases-loop-rest l = length l.rest
