use Rattle.std.proofs.Common.{◌≡◌, length}
use Rattle.std.specs.Prelude.{map}
use Rattle.std.specs.BTreeMap.{IsOrdered}
use Rattle.ct_keep.specs.EntryKeys.{entry_key_order}
use Rattle.ct_keep.specs.SeenChanges.{change_of}
use Rattle.pg_change.specs.NotedEdits.{edit_map, with_edits, gone_edits}
use Rattle.pg_change.proofs.editing.note_changes.Given as goal

abbrev pub invariant-loop-rest : goal.invariant-loop-rest
invariant-loop-rest l = record {
  ordered : IsOrdered entry_key_order l.fn.edits → IsOrdered entry_key_order l.edits;
  noted : with_edits (gone_edits (map change_of l.rest)) (edit_map l.edits.entries) ≡ with_edits (gone_edits (map change_of l.fn.changes)) (edit_map l.fn.edits.entries);
}

abbrev pub decreases-loop-rest : goal.decreases-loop-rest
decreases-loop-rest l = length l.rest
