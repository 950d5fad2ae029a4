use Rattle.std.proofs.Common.{◌≡◌, take}
use Rattle.db_select.specs.Predicates.{conds_in}
use Rattle.db_select.proofs.predicates.conds_in.Given as goal

abbrev pub invariant-loop-pred : goal.invariant-loop-pred
invariant-loop-pred l = l.conds.items ≡ conds_in (take l.pred-index l.preds)
