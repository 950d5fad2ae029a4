use Rattle.std.proofs.Common.{sym, ap, ◌∙◌}
use Rattle.std.specs.List.{list_all}
use Rattle.std.proofs.lemmas.Bool.{false≢true}
use Rattle.db_change.specs.Noting.{is_short_value}
use Rattle.db_change.proofs.NoteSteps.{short_passes, tested_short}
use Rattle.db_change.proofs.noting.short_or_none.Goals as goal

pub returns-then-are_short-clause-short : goal.returns-then-are_short-clause-short
returns-then-are_short-clause-short c = tested_short c.args.values.items (ap (list_all is_short_value) (sym c.as_slice.ensures.value) ∙ sym c.are_short.ensures ∙ c.if-are_short.true)

pub returns-else-are_short-clause-same : goal.returns-else-are_short-clause-same
returns-else-are_short-clause-same c = λ short. absurd (false≢true (sym c.if-are_short.false ∙ c.are_short.ensures ∙ ap (list_all is_short_value) c.as_slice.ensures.value ∙ short_passes c.args.values.items short))
