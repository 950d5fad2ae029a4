use Rattle.std.proofs.Common.{ℤ, ◌≡◌, [], ◌∷◌, true, Some, None, length}
use Rattle.std.specs.List.{list_all, list_any}
use Rattle.ct_keep.specs.Content.{Content}
use Rattle.ct_keep.specs.KeeperViews.{ReadsKeeper}
use Rattle.ct_keep.specs.Looks.{RisesBy, no_looks}
use Rattle.q_tree.specs.Soundness.{is_key}
use Rattle.rule_index.specs.Matching.{is_filed_under}
use Rattle.rule_index.proofs.FoundSteps.{is_still}
use Rattle.rule_index.proofs.matching.filed_rows.Given as goal

abbrev pub invariant-each : goal.invariant-each
invariant-each g l = record {
  keys : list_all is_key l.rest ≡ true;
  reads : ReadsKeeper (g.K.Keeper.view l.fn.keeper) (g.K.Keeper.view l.keeper) None;
  rows : (m : Content) → (g.K.Keeper.view l.fn.keeper).content ≡ Some m → (r : ℤ) → is_still l.index m l.rows l.rest r ≡ list_any (is_filed_under l.index m r) ([] ∷ l.keys);
  looks : (m : Content) → (g.K.Keeper.view l.fn.keeper).content ≡ Some m → RisesBy no_looks (g.K.Keeper.view l.fn.keeper).counts (g.K.Keeper.view l.keeper).counts;
}

abbrev pub decreases-each : goal.decreases-each
decreases-each g l = length l.rest
