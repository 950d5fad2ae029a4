use Rattle.std.proofs.Common.{◌≡◌, ◌++◌, Some, None}
use Rattle.ct_keep.specs.Content.{Content}
use Rattle.ct_keep.specs.KeeperViews.{ReadsKeeper}
use Rattle.q_reduce.specs.Results.{named_pairs}
use Rattle.db_state.specs.States.{StoreState, StandsForState}
use Rattle.db_index.specs.Thesauri.{thesauri_at}
use Rattle.db_index.proofs.thesauri.load_each.Given as goal

abbrev pub invariant-loop-name : goal.invariant-loop-name
invariant-loop-name g l = record {
  reads : ReadsKeeper (g.K.Keeper.view l.fn.keeper) (g.K.Keeper.view l.keeper) None;
  each : (m : StoreState) (c : Content) → (g.K.Keeper.view l.fn.keeper).content ≡ Some c → StandsForState c m
      → named_pairs l.loaded.items ++ thesauri_at m.thesauri l.name-iterator.rest.items ≡ thesauri_at m.thesauri l.fn.names.items;
}
