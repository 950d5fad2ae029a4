use Rattle.std.proofs.Common.{◌≡◌, List, ◌++◌}
use Rattle.std.specs.Prelude.{map}
use Rattle.std.specs.BTreeMap.{IsOrdered}
use Rattle.std.specs.FinMap.{entries}
use Rattle.ct_keep.specs.Content.{Change}
use Rattle.ct_keep.specs.EntryKeys.{entry_key_order}
use Rattle.ct_keep.specs.SeenChanges.{change_of}
use Rattle.pg_batch.specs.ByKey.{AreByKey, said_map}
use Rattle.pg_batch.proofs.ordering.last_of_each.Given as goal

abbrev pub invariant-loop-change : goal.invariant-loop-change
invariant-loop-change l = record {
  ordered : IsOrdered entry_key_order l.last;
  done : List Change;
  parts : done ++ map change_of l.change-iterator.rest.items ≡ l.fn.batch;
  by : AreByKey done (entries (said_map l.last.entries));
}
