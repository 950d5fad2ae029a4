use Rattle.std.proofs.Common.{◌++◌, List, ℕ, Option, Some, ap, ◌∙◌}
use Rattle.ct_entry.specs.Keys.{at}
use Rattle.ct_entry.specs.Changes.{spell}
use Rattle.ix_kinds.specs.Statements.{untidying_in}
use Rattle.ix_context.specs.Contexts.{context}
use Rattle.ix_indexes.specs.Indexes.{Defined}
use Rattle.ix_indexes.proofs.untidying.context_untidying.Goals as goal

pub returns-clause-changes : goal.returns-clause-changes
returns-clause-changes g c = λ m told ts x holds.
    c.in_ok-untidy.ensures.changes m ts x told holds
    ∙ ap (λ (b : List (List ℕ × Option (List ℕ))). b ++ spell (untidying_in (context {D = Defined}) (at m) c.args.index.now (Some x))) c.new-notes.ensures
