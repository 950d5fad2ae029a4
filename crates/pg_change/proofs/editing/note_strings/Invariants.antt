use Rattle.std.specs.BTreeMap.{IsOrdered}
use Rattle.std.specs.Prelude.{option_copied}
use Rattle.ct_keep.specs.EntryKeys.{entry_key_order}
use Rattle.pg_change.specs.NotedEdits.{edit_map}
use Rattle.pg_change.specs.Unmoved.{AreSlotsNoted}
use Rattle.pg_change.proofs.editing.note_strings.Given as goal

abbrev pub invariant-loop-slot : goal.invariant-loop-slot
invariant-loop-slot l = record {
  ordered : IsOrdered entry_key_order l.fn.edits → IsOrdered entry_key_order l.edits;
  noted : AreSlotsNoted (option_copied l.before) l.number l.page l.slot (edit_map l.fn.edits.entries) (edit_map l.edits.entries);
}
