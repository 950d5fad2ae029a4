use Rattle.std.specs.Prelude.{option_copied}
use Rattle.std.proofs.Common.{refl}
use Rattle.pg_change.specs.NotedEdits.{edit_map}
use Rattle.pg_change.proofs.Unmoved.{slots_none, slot_more}
use Rattle.pg_change.proofs.editing.note_strings.Goals as goal

pub loop-slot-init : goal.loop-slot-init
loop-slot-init c = record {
  ordered = λ was. was;
  noted = slots_none (option_copied c.args.before) c.args.number c.args.page.now (edit_map c.args.edits.now.entries);
}

pub loop-slot-preserved : goal.loop-slot-preserved
loop-slot-preserved c = record {
  ordered = λ was. c.note_string.ensures.ordered (c.loop-slot.invariant.ordered was);
  noted = slot_more (option_copied c.args.before) c.args.number c.loop-slot.slot c.args.page.now
      (edit_map c.args.edits.now.entries) (edit_map c.loop-slot.edits.entries) (edit_map c.note_string.new.edits.entries) c.loop-slot.invariant.noted _ refl c.in_ok-note_string.ensures.noted;
}
