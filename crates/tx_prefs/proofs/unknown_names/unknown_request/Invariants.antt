use Rattle.std.proofs.Common.{◌≡◌, Some, None, length}
use Rattle.ct_keep.specs.Content.{Content}
use Rattle.ct_keep.specs.KeeperViews.{ReadsKeeper}
use Rattle.tx_prefs.specs.Preferences.{Preferences}
use Rattle.tx_prefs.specs.Requests.{unknown_in}
use Rattle.tx_prefs.specs.Sees.{HoldsPreferences}
use Rattle.tx_prefs.proofs.unknown_names.unknown_request.Given as goal

abbrev pub invariant-loop-rest : goal.invariant-loop-rest
invariant-loop-rest g l = record {
  reads : ReadsKeeper (g.K.Keeper.view l.fn.keeper) (g.K.Keeper.view l.keeper) None;
  so_far : (m : Content) → (g.K.Keeper.view l.fn.keeper).content ≡ Some m → (ps : Preferences) → HoldsPreferences m ps → unknown_in ps l.rest ≡ unknown_in ps l.requests;
}

abbrev pub decreases-loop-rest : goal.decreases-loop-rest
decreases-loop-rest g l = length l.rest
