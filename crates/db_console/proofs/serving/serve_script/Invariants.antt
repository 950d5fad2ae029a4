use Rattle.std.proofs.Common.{[], false, ◌≤◌, ◌-◌}
use Rattle.db_console.proofs.TableLaws.{Going}
use Rattle.db_console.proofs.serving.serve_script.Given as goal

abbrev pub invariant-loop-taken : goal.invariant-loop-taken
invariant-loop-taken g l = record {
  within : l.taken ≤ l.most;
  going : Going false false l.limit l.taken [] (g.K.Keeper.view l.fn.keeper) (g.K.Keeper.view l.keeper) l.cutter;
}

abbrev pub decreases-loop-taken : goal.decreases-loop-taken
decreases-loop-taken g l = l.most - l.taken
