use Rattle.std.proofs.Common.{arith, ◌≡◌, List, length, map, ap, subst, sym, ◌∙◌}
use Rattle.std.proofs.lemmas.List.{length-map}
use Rattle.ct_base.specs.declared.numbers.RowKey.{RowKey}
use Rattle.ct_keep.specs.laws.Composing.{reads_on, reads_hold}
use Rattle.db_change.specs.Updating.{UpdatesTable}
use Rattle.tb_table.specs.declared.columns.Column.{Column}
use Rattle.db_change.proofs.ReadTables.{has_columns}
use Rattle.db_change.proofs.GoneSteps.{met_are_there}
use Rattle.db_change.proofs.UpdatePlans.{update_made}
use Rattle.db_change.proofs.updating.update_plan.Goals as goal

pub returns-clause-plan : goal.returns-clause-plan
returns-clause-plan g c = record {
  made = λ m k holds stands.
      let x = has_columns m c.args.table.now _ c.in-Some.columns c.deref.result.now stands.state.tables (c.in_ok-columns.ensures.columns m k holds stands) c.in-Some.is c.deref.ensures.value in
      let there = reads_hold _ _ k c.in_ok-columns.ensures.reads holds in
      let mid = reads_hold _ _ k (reads_on _ _ _ _ c.in_ok-columns.ensures.reads c.in_ok-rows.ensures.reads) holds in
      let rows_are = ap (map (λ (row : RowKey). row.0)) c.deref-4.ensures.value ∙ c.in_ok-rows.ensures.keys m k x.table there stands x.there (x.same ∙ c.deref.ensures.value ∙ sym c.deref-2.ensures.value) in
      let rows = map (λ (row : RowKey). row.0) c.deref-4.result.now in
      let counted : c.len.result ≡ length c.in_ok-rows.rows.items = omega (arith, c.len.ensures) in
      update_made m c.args.table.now c.args.assigns.now c.args.conds.now x.table c.deref.result.now x.there x.same k stands (c.in_default-update_fault.ensures.checks x.few) c.keep_assigns.ensures rows rows_are c.len.result
      (counted ∙ ap length (sym c.deref-4.ensures.value) ∙ sym (length-map c.deref-4.result.now (λ (row : RowKey). row.0))) c.in_ok-batch.batch
      (subst (λ (cs : List Column). UpdatesTable k m c.args.table.now cs c.args.assigns.now rows c.in_ok-batch.batch) (c.deref-3.ensures.value ∙ sym c.deref.ensures.value)
      (c.in_ok-batch.ensures.batch m k x.table mid stands x.there (x.same ∙ c.deref.ensures.value ∙ sym c.deref-3.ensures.value) (met_are_there m c.args.table.now x.table c.args.conds.now c.deref-4.result.now x.there rows_are)));
}
