use Rattle.std.proofs.Common.{List, ℕ, ap, ◌∙◌}
use Rattle.std.specs.FinMap.{insert}
use Rattle.pg_change.specs.NotedEdits.{edit_map}
use Rattle.pg_change.proofs.NotedEdits.{noted_more}
use Rattle.pg_change.proofs.editing.note.Goals as goal

pub returns-clause-noted : goal.returns-clause-noted
returns-clause-noted c =
    noted_more c.args.edits.now.entries c.insert.new.self.entries c.of.result c.args.place c.in_ok-insert.ensures.was_ordered c.in_ok-insert.ensures.ordered c.in_ok-insert.ensures.entries
    ∙ ap (λ (k : List ℕ). insert (edit_map c.args.edits.now.entries) k c.args.place) c.of.ensures
