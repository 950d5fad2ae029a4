use Rattle.std.proofs.Common.{◌≡◌, length}
use Rattle.std.specs.List.{list_all}
use Rattle.ct_base.specs.Names.{is_kept}
use Rattle.tx_sets.proofs.sets.keep_names.Given as goal

abbrev pub invariant-loop-rest : goal.invariant-loop-rest
invariant-loop-rest l = list_all (list_all is_kept) l.rest ≡ list_all (list_all is_kept) l.set

abbrev pub decreases-loop-rest : goal.decreases-loop-rest
decreases-loop-rest l = length l.rest
