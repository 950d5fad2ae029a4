use Rattle.std.proofs.Common.{◌≡◌, arith, List, Vec, length, map, ap, sym, subst, ◌∙◌}
use Rattle.std.specs.FinMap.{get}
use Rattle.std.specs.Option.{option_map}
use Rattle.std.specs.declared.alloc.Global.{Global}
use Rattle.ct_base.specs.declared.numbers.RowKey.{RowKey}
use Rattle.ct_keep.specs.laws.Composing.{reads_hold}
use Rattle.tb_table.specs.declared.columns.Column.{Column}
use Rattle.db_cond.specs.Faults.{UnknownName}
use Rattle.db_state.specs.Effects.{Refused}
use Rattle.db_state.specs.laws.Columns.{no_table}
use Rattle.db_change.specs.Deleting.{TakesFromTable}
use Rattle.db_change.proofs.GoneSteps.{delete_none, delete_refused, delete_done, met_are_there}
use Rattle.db_change.proofs.ReadTables.{has_columns}
use Rattle.db_change.proofs.deleting.delete_plan.Goals as goal

pub returns-in_default-clause-plan : goal.returns-in_default-clause-plan
returns-in_default-clause-plan g c = record {
  made = λ m k holds stands.
      delete_none m c.args.table.now c.args.conds.now (no_table (get m.tables c.args.table.now) (sym (ap (option_map (λ (v : Vec Column Global). v.items)) c.in_default.is) ∙ c.in_ok-columns.ensures.columns m k holds stands))
      ∙ ap (λ n. Refused (UnknownName n)) (sym c.as_str.ensures.text);
}

pub returns-in-Some-delete_fault-clause-plan : goal.returns-in-Some-delete_fault-clause-plan
returns-in-Some-delete_fault-clause-plan g c = record {
  made = λ m k holds stands.
      let t = c.args.table.now in
      let x = has_columns m t _ c.in-Some.columns c.deref.result.now stands.state.tables (c.in_ok-columns.ensures.columns m k holds stands) c.in-Some.is c.deref.ensures.value in
      delete_refused m t c.args.conds.now x.table c.deref.result.now x.there x.same c.in-Some-delete_fault.fault (c.in-Some-delete_fault.ensures.checks x.few);
}

pub returns-clause-plan : goal.returns-clause-plan
returns-clause-plan g c = record {
  made = λ m k holds stands.
      let t = c.args.table.now in
      let columns = c.deref.result.now in
      let x = has_columns m t _ c.in-Some.columns columns stands.state.tables (c.in_ok-columns.ensures.columns m k holds stands) c.in-Some.is c.deref.ensures.value in
      let first = reads_hold _ _ k c.in_ok-columns.ensures.reads holds in
      let second = reads_hold _ _ k c.in_ok-rows.ensures.reads first in
      let rows = c.deref-4.result.now in
      let met = ap (map (λ (row : RowKey). row.0)) c.deref-4.ensures.value ∙ c.in_ok-rows.ensures.keys m k x.table first stands x.there (x.same ∙ c.deref.ensures.value ∙ sym c.deref-2.ensures.value) in
      let same = c.deref-3.ensures.value ∙ sym c.deref.ensures.value in
      let counted : c.len.result ≡ length rows = let is = c.len.ensures in let shown = ap length c.deref-4.ensures.value in omega (arith, is, shown) in
      delete_done m t c.args.conds.now x.table columns x.there x.same k stands rows met c.in_ok-batch.batch
      (subst (λ (cs : List Column). TakesFromTable m k t cs (map (λ (row : RowKey). row.0) rows) c.in_ok-batch.batch) same
      (c.in_ok-batch.ensures.changes m k x.table second stands x.there (x.same ∙ sym same) (met_are_there m t x.table c.args.conds.now rows x.there met)))
      c.len.result counted (c.in_default-delete_fault.ensures.checks x.few);
}

pub returns-clause-light : goal.returns-clause-light
returns-clause-light g c = λ k holds. c.in_ok-batch.ensures.light k (reads_hold _ _ k c.in_ok-rows.ensures.reads (reads_hold _ _ k c.in_ok-columns.ensures.reads holds))
