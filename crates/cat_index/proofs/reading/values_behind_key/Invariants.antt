use Rattle.std.proofs.Common.{◌≡◌, ◌+◌, ◌≤◌, Some, None, List, length}
use Rattle.std.specs.FinMap.{get}
use Rattle.ct_base.specs.declared.lists.Value.{Value}
use Rattle.ct_keep.specs.Content.{Content}
use Rattle.ct_keep.specs.KeeperViews.{ReadsKeeper}
use Rattle.ct_entry.specs.Keys.{at, HasKeysOnly}
use Rattle.tb_table.specs.Rules.{AreTables, others}
use Rattle.tb_table.specs.Spelling.{TablesStand}
use Rattle.tb_table.specs.Tables.{Table, Tables, numbers_of}
use Rattle.cat_index.proofs.ReadSteps.{IsReadTo}
use Rattle.cat_index.proofs.reading.values_behind_key.Given as goal

abbrev pub invariant-each : goal.invariant-each
invariant-each g l = record {
  reads : ReadsKeeper (g.K.Keeper.view l.fn.keeper) (g.K.Keeper.view l.keeper) None;
  counted : length l.values.items + length l.rest ≡ length l.columns;
  before : l.before ≤ length l.values.items;
  read : (m : Content) (ts : Tables) (x : Table) (vs : List Value) → (g.K.Keeper.view l.fn.keeper).content ≡ Some m → HasKeysOnly m → TablesStand (at m) ts → AreTables ts
      → get ts l.table ≡ Some x → others x.columns ≡ l.columns → get x.rows l.row.0 ≡ Some vs → l.numbers ≡ numbers_of vs → IsReadTo vs l.values.items l.rest l.numbers l.before;
}

abbrev pub decreases-each : goal.decreases-each
decreases-each g l = length l.rest
