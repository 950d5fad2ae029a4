use Rattle.std.proofs.Common.{◌+◌, drop, sym, ◌∙◌}
use Rattle.ct_base.specs.laws.Lists.{drop_next}
use Rattle.db_select.proofs.PredicateLaws.{column_there, column_missing, score_passed}
use Rattle.db_select.proofs.predicates.unknown_item.Goals as goal
use Rattle.db_select.proofs.predicates.unknown_item.Goals.{in-Column+else-not-has_column, in_default}

pub returns-then-not-has_column : goal.returns-then-not-has_column
returns-then-not-has_column c =
    let items = c.args.items.now in
    let i = c.loop-item.item-index in
    sym (column_missing (drop i items) (drop (i + 1) items) c.item-item.result c.args.columns.now c.in-Column.name
    (drop_next items i c.item-item.result c.loop-item-test.true c.item-item.is) c.in-Column.is (sym c.has_column.ensures ∙ c.if-not-has_column.true))
    ∙ c.loop-item.invariant

pub loop-item-preserved : goal.loop-item-preserved
loop-item-preserved c =
    let items = c.args.items.now in
    let i = c.loop-item.item-index in
    let at = drop_next items i c.item-item.result c.loop-item-test.true c.item-item.is in
    elim c.match-item.branch [
      | in-Column+else-not-has_column w ↦
          sym (column_there (drop i items) (drop (i + 1) items) c.item-item.result c.args.columns.now w.in-Column.name at w.in-Column.is (sym w.has_column.ensures ∙ w.if-not-has_column.false))
          ∙ c.loop-item.invariant
      | in_default w ↦
          sym (score_passed (drop i items) (drop (i + 1) items) c.item-item.result c.args.columns.now w.in_default.field-0 at w.in_default.is)
          ∙ c.loop-item.invariant
    ]
