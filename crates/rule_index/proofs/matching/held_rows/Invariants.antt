use Rattle.std.proofs.Common.{◌≡◌, ◌++◌, ◌-◌, ◌≤◌, Some, None, length, map}
use Rattle.std.specs.Prelude.{filter}
use Rattle.ct_keep.specs.Content.{Content}
use Rattle.ct_keep.specs.KeeperViews.{ReadsKeeper}
use Rattle.ct_keep.specs.Looks.{RisesBy}
use Rattle.tb_table.specs.Tables.{Tables}
use Rattle.q_tree.specs.Documents.{postings_of_entries}
use Rattle.ix_cursor.specs.Alone.{doc_entries}
use Rattle.rule_index.specs.RuleIndexes.{RuleIndex}
use Rattle.rule_index.specs.Sees.{HoldsRules}
use Rattle.rule_index.specs.Matching.{row_holds, rule_looks}
use Rattle.rule_index.proofs.matching.held_rows.Given as goal

abbrev pub invariant-each : goal.invariant-each
invariant-each g l = record {
  reads : ReadsKeeper (g.K.Keeper.view l.fn.keeper) (g.K.Keeper.view l.keeper) None;
  held : (m : Content) (ts : Tables) (x : RuleIndex) → (g.K.Keeper.view l.fn.keeper).content ≡ Some m → HoldsRules m ts l.index x
      → map (λ r. r.0) l.held.items ++ filter (row_holds x (postings_of_entries (doc_entries l.entries))) (map (λ r. r.0) l.rest)
      ≡ filter (row_holds x (postings_of_entries (doc_entries l.entries))) (map (λ r. r.0) l.rows);
  few : length l.rest ≤ length l.rows;
  looks : RisesBy (rule_looks (length l.rows - length l.rest)) (g.K.Keeper.view l.fn.keeper).counts (g.K.Keeper.view l.keeper).counts;
}

abbrev pub decreases-each : goal.decreases-each
decreases-each g l = length l.rest
