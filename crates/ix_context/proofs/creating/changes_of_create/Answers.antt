use Rattle.std.proofs.Common.{◌≡◌, ◌≤◌, ◌+◌, ◌++◌, List, length, sym, ap, subst, ◌∙◌, arith, rules}
use Rattle.ct_base.specs.declared.numbers.RowKey.{RowKey}
use Rattle.ct_entry.specs.Changes.{spell}
use Rattle.ct_entry.specs.Shapes.{AreShaped}
use Rattle.ct_keep.specs.laws.Composing.{reads_on, reads_hold}
use Rattle.ix_kinds.specs.Rows.{table_at}
use Rattle.ix_context.specs.Indexes.{mark_limit, rows_within}
use Rattle.ix_context.specs.Changes.{mark_rows_changes}
use Rattle.ix_context.specs.Shapes.{HasContextValue}
use Rattle.ix_context.proofs.SyncSteps.{created_added, count_created}
use Rattle.ix_context.proofs.creating.changes_of_create.Goals as goal

pub returns-clause-changes : goal.returns-clause-changes
returns-clause-changes g c = λ m ts holds told.
    let t = table_at ts c.args.target.now.table in
    let rows = c.in_ok-rows.ensures.rows m ts holds told in
    let again = reads_hold _ _ m c.in_ok-rows.ensures.reads holds in
    let count = count_created t c.args.range c.in_ok-rows.rows.items rows in
    let is = c.in-Some.ensures.0 in
    let fits = c.in-Some.ensures.1 in
    let few : length (rows_within t c.args.range) ≤ mark_limit = omega arith in
    let next : c.in-Some.next ≡ 1 + length c.in_ok-rows.rows.items = omega arith in
    let marks = c.in_ok-mark_rows.ensures.changes m ts again told in (
      few,
      created_added t c.args.index.now c.args.target.now c.args.prefs.now c.args.range c.in_ok-rows.rows.items c.in-Some.next c.new-changes.result c.put_new_index.new.batch c.mark_rows.new.changes rows next c.new-changes.ensures c.in_ok-put_new_index.ensures.ok
          (marks ∙ ap (λ (l : List RowKey). c.put_new_index.new.batch ++ spell (mark_rows_changes ts c.args.index.now c.args.target.now c.args.prefs.now 1 l)) c.deref.ensures.value),
    )

pub returns-in_err-mark_rows-clause-reads : goal.returns-in_err-mark_rows-clause-reads
returns-in_err-mark_rows-clause-reads g c = reads_on _ _ _ _ c.in_ok-rows.ensures.reads (search rules)

pub returns-clause-reads : goal.returns-clause-reads
returns-clause-reads g c = reads_on _ _ _ _ c.in_ok-rows.ensures.reads c.in_ok-mark_rows.ensures.reads

pub returns-clause-shaped : goal.returns-clause-shaped
returns-clause-shaped g c =
    let none : AreShaped HasContextValue c.new-changes.result = subst (AreShaped HasContextValue) (sym c.new-changes.ensures) tt in
    c.in_ok-mark_rows.ensures.shaped (c.in_ok-put_new_index.ensures.shaped none)
