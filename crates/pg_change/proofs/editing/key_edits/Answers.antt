use Rattle.std.specs.Prelude.{map}
use Rattle.ct_keep.specs.SeenChanges.{change_of}
use Rattle.pg_change.proofs.NotedEdits.{listed_are}
use Rattle.pg_change.proofs.editing.key_edits.Goals as goal

pub returns-clause-edits : goal.returns-clause-edits
returns-clause-edits g c = λ top pages m holds done.
    listed_are pages c.args.draft.now.now c.args.numbers.now (map change_of c.args.changes.now) m
    c.new-edits.result.entries c.note_changes.new.edits.entries c.note_pages.new.edits.entries _ done c.requires.within
    c.new-edits.ensures.empty c.in-Ok.ensures.noted (c.in-Ok-note_pages.ensures.noted top pages holds)
    (c.note_pages.ensures.ordered (c.note_changes.ensures.ordered c.new-edits.ensures.ordered)) c.in-Ok-listed.ensures
