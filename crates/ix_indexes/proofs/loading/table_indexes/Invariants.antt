use Rattle.std.proofs.Common.{◌≡◌, ◌++◌, Some, None, length, map}
use Rattle.ct_keep.specs.Content.{Content}
use Rattle.ct_keep.specs.KeeperViews.{ReadsKeeper}
use Rattle.ct_entry.specs.Maps.{Names}
use Rattle.tb_table.specs.Tables.{Tables}
use Rattle.ix_indexes.specs.Indexes.{Index}
use Rattle.ix_indexes.specs.Noting.{AllCanTell, HoldsIndexes, noted_indexes, noted_named}
use Rattle.ix_indexes.specs.Loading.{AreHeadsOf}
use Rattle.ix_indexes.proofs.loading.table_indexes.Given as goal

abbrev pub invariant-each : goal.invariant-each
invariant-each g l = record {
  reads : ReadsKeeper (g.K.Keeper.view l.fn.keeper) (g.K.Keeper.view l.keeper) None;
  indexes : (m : Content) (ts : Tables) (xs : Names Index) → (g.K.Keeper.view l.fn.keeper).content ≡ Some m → HoldsIndexes m ts xs → AreHeadsOf ts xs l.columns l.heads
      → AreHeadsOf ts xs l.columns l.rest × (noted_indexes l.found.items ++ noted_named xs (map (λ h. h.0) l.rest) ≡ noted_named xs (map (λ h. h.0) l.heads));
  can_tell : AllCanTell l.found.items;
}

abbrev pub decreases-each : goal.decreases-each
decreases-each g l = length l.rest
