use Rattle.std.proofs.Common.{List, ℕ, ap, ◌∙◌}
use Rattle.std.specs.FinMap.{insert}
use Rattle.ct_keep.specs.SeenChanges.{change_of}
use Rattle.pg_batch.specs.ByKey.{said_map}
use Rattle.pg_batch.proofs.Gathering.{said_more}
use Rattle.pg_batch.proofs.ordering.note.Goals as goal

pub returns-clause-noted : goal.returns-clause-noted
returns-clause-noted c =
    said_more c.args.last.now.entries c.insert.new.self.entries c.of.result c.args.change.value c.in_ok-insert.ensures.was_ordered c.in_ok-insert.ensures.ordered c.in_ok-insert.ensures.entries
    ∙ ap (λ (k : List ℕ). insert (said_map c.args.last.now.entries) k (change_of c.args.change).1) c.of.ensures
