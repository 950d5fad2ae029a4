use Rattle.std.proofs.Common.{◌≡◌, ◌++◌, [], Some, None, length}
use Rattle.ct_keep.specs.Content.{Content}
use Rattle.ct_keep.specs.KeeperViews.{ReadsKeeper}
use Rattle.ct_keep.specs.Looks.{RisesBy, no_looks}
use Rattle.ct_entry.specs.Keys.{at}
use Rattle.ct_entry.specs.Changes.{spell}
use Rattle.ct_entry.specs.Maps.{Names}
use Rattle.ct_entry.specs.Shapes.{AreShaped}
use Rattle.tb_table.specs.Tables.{Tables}
use Rattle.ix_context.specs.Untidying.{AddsAsLong}
use Rattle.ix_indexes.specs.Indexes.{Index}
use Rattle.ix_indexes.specs.Noting.{AreNotedOf, HoldsIndexes, all_untidying, noted_indexes}
use Rattle.ix_indexes.specs.Shapes.{HasIndexValue}
use Rattle.ix_indexes.proofs.untidying.untidy_notes.Given as goal

abbrev pub invariant-each : goal.invariant-each
invariant-each g l = record {
  reads : ReadsKeeper (g.K.Keeper.view l.fn.keeper) (g.K.Keeper.view l.keeper) None;
  changes : (m : Content) (ts : Tables) (xs : Names Index) → (g.K.Keeper.view l.fn.keeper).content ≡ Some m → HoldsIndexes m ts xs → AreNotedOf xs (noted_indexes l.indexes)
      → AreNotedOf xs (noted_indexes l.rest) × (l.notes ++ spell (all_untidying (at m) xs (noted_indexes l.rest)) ≡ spell (all_untidying (at m) xs (noted_indexes l.indexes)));
  as_long : (m : Content) → (g.K.Keeper.view l.fn.keeper).content ≡ Some m → AddsAsLong (at m) [] l.notes;
  shaped : AreShaped HasIndexValue l.notes;
  at_most : RisesBy no_looks (g.K.Keeper.view l.fn.keeper).counts (g.K.Keeper.view l.keeper).counts;
}

abbrev pub decreases-each : goal.decreases-each
decreases-each g l = length l.rest
