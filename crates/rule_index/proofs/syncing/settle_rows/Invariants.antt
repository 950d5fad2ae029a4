use Rattle.std.proofs.Common.{◌≡◌, ◌++◌, Some, None, length}
use Rattle.ct_keep.specs.Content.{Content}
use Rattle.ct_keep.specs.KeeperViews.{ReadsKeeper}
use Rattle.ct_entry.specs.Changes.{spell}
use Rattle.ct_entry.specs.Shapes.{AreShaped}
use Rattle.tb_table.specs.Tables.{Tables}
use Rattle.q_reduce.specs.Results.{named_pairs}
use Rattle.rule_index.specs.Sees.{HoldsTables, rows_settle}
use Rattle.rule_index.specs.Shapes.{HasRuleValue}
use Rattle.rule_index.proofs.syncing.settle_rows.Given as goal

abbrev pub invariant-each : goal.invariant-each
invariant-each g l = record {
  reads : ReadsKeeper (g.K.Keeper.view l.fn.keeper) (g.K.Keeper.view l.keeper) None;
  changes : (m : Content) (ts : Tables) → (g.K.Keeper.view l.fn.keeper).content ≡ Some m → HoldsTables m ts
      → l.changes ++ spell (rows_settle l.index (named_pairs l.thesauri) l.target l.prefs l.rest ts)
      ≡ l.fn.changes ++ spell (rows_settle l.index (named_pairs l.thesauri) l.target l.prefs l.rows ts);
  shaped : AreShaped HasRuleValue l.fn.changes → AreShaped HasRuleValue l.changes;
}

abbrev pub decreases-each : goal.decreases-each
decreases-each g l = length l.rest
