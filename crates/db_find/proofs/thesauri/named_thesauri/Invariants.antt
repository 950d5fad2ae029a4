use Rattle.std.proofs.Common.{◌≡◌, Some, None, take}
use Rattle.ct_keep.specs.Content.{Content}
use Rattle.ct_keep.specs.KeeperViews.{ReadsKeeper}
use Rattle.q_reduce.specs.Results.{named_pairs}
use Rattle.db_state.specs.States.{StoreState, StandsForState}
use Rattle.db_find.specs.Thesauri.{CountsNothing, thesauri_of}
use Rattle.db_find.proofs.thesauri.named_thesauri.Given as goal

abbrev pub invariant-loop-name : goal.invariant-loop-name
invariant-loop-name g l = record {
  reads : ReadsKeeper (g.K.Keeper.view l.fn.keeper) (g.K.Keeper.view l.keeper) None;
  thesauri : (m : StoreState) (c : Content) → (g.K.Keeper.view l.fn.keeper).content ≡ Some c → StandsForState c m → named_pairs l.found.items ≡ thesauri_of m.thesauri (take l.name-index l.names);
  at_most : CountsNothing g.K.Keeper.view l.fn.keeper l.keeper;
}
