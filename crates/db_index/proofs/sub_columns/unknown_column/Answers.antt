use Rattle.std.proofs.Common.{ℕ, List, sym, ap, ◌∙◌}
use Rattle.db_state.specs.Columns.{first_unknown}
use Rattle.db_index.proofs.AskSteps.{set_here, set_later}
use Rattle.db_index.proofs.sub_columns.unknown_column.Goals as goal

pub returns-then-is_some : goal.returns-then-is_some
returns-then-is_some c =
    set_here _ c.unknown_name-unknown.result c.args.columns.now c.each.rest.now c.in-Some.later.now c.in-Some.names.now c.in-Some.ensures.cases.0
    (c.unknown_name-unknown.ensures ∙ ap (λ (l : List (List ℕ)). first_unknown l c.args.columns.now) c.as_slice.ensures) (sym c.if-is_some.ensures)
    ∙ c.each.invariant

pub each-preserved : goal.each-preserved
each-preserved c =
    set_later _ c.unknown_name-unknown.result c.args.columns.now c.each.rest.now c.in-Some.later.now c.in-Some.names.now c.in-Some.ensures.cases.0
    (c.unknown_name-unknown.ensures ∙ ap (λ (l : List (List ℕ)). first_unknown l c.args.columns.now) c.as_slice.ensures) (sym c.if-is_some.ensures)
    ∙ c.each.invariant
