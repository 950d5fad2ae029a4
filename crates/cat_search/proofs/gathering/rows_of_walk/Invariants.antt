use Rattle.std.proofs.Common.{length, map, None}
use Rattle.ct_base.specs.declared.numbers.RowKey.{RowKey}
use Rattle.ct_keep.specs.KeeperViews.{ReadsKeeper}
use Rattle.q_tree.specs.ReducedQueries.{reduced_of}
use Rattle.cat_search.specs.SubIndexes.{taken_rows, sub_place}
use Rattle.cat_search.specs.Looking.{slot_key_rows}
use Rattle.cat_search.specs.Contents.{ToldWalked}
use Rattle.cat_search.proofs.Finding.{AreFoundTo, left}
use Rattle.cat_search.proofs.Counting.{ReadSoFar}
use Rattle.cat_search.proofs.gathering.rows_of_walk.Given as goal

abbrev pub invariant-steps : goal.invariant-steps
invariant-steps g l = record {
  reads : ReadsKeeper (g.K.Keeper.view l.fn.keeper) (g.K.Keeper.view l.keeper) None;
  found : ToldWalked g.K.Keeper.view l.fn.keeper l.catalogue l.stem l.sub l.flat l.walk (λ t x.
      AreFoundTo (taken_rows (g.R.PlaceRange.takes l.range) t x l.sub (reduced_of l.flat)) (sub_place t x l.sub) l.last.items (map (λ (r : RowKey). r.0) l.rows.items));
  texts : ToldWalked g.K.Keeper.view l.fn.keeper l.catalogue l.stem l.sub l.flat l.walk (λ t x.
      ReadSoFar l.exact (length (left t x l.sub (reduced_of l.flat) l.last.items)) (length (slot_key_rows t x (reduced_of l.flat))) (g.K.Keeper.view l.fn.keeper).counts (g.K.Keeper.view l.keeper).counts);
}
