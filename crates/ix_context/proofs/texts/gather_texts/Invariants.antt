use Rattle.std.proofs.Common.{◌≡◌, ◌+◌, Some, None, length, map}
use Rattle.ct_keep.specs.Content.{Content}
use Rattle.ct_keep.specs.KeeperViews.{ReadsKeeper}
use Rattle.ct_entry.specs.Each.{numbered}
use Rattle.tb_table.specs.Tables.{Tables}
use Rattle.ix_context.specs.Indexes.{target_text}
use Rattle.ix_context.specs.Gathering.{with_texts, texts_gathered}
use Rattle.ix_context.specs.GatheredRows.{AreGathered}
use Rattle.ix_context.specs.Contents.{HoldsTables}
use Rattle.ix_context.proofs.texts.gather_texts.Given as goal

abbrev pub invariant-loop-rest : goal.invariant-loop-rest
invariant-loop-rest g l = record {
  reads : ReadsKeeper (g.K.Keeper.view l.fn.keeper) (g.K.Keeper.view l.keeper) None;
  place : l.document + length l.rest ≡ l.fn.first + length l.fn.rows;
  gathers : (m : Content) (ts : Tables) → (g.K.Keeper.view l.fn.keeper).content ≡ Some m → HoldsTables m ts
      → with_texts l.prefs (target_text ts l.target) l.gathered (numbered l.document (map (λ r. r.0) l.rest))
      ≡ texts_gathered l.prefs (target_text ts l.target) l.fn.first (map (λ r. r.0) l.fn.rows);
  grown : AreGathered l.gathered;
}

abbrev pub decreases-loop-rest : goal.decreases-loop-rest
decreases-loop-rest g l = length l.rest
