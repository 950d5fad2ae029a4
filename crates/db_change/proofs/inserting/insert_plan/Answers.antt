use Rattle.std.proofs.Common.{List, Vec, ap, sym, ◌∙◌}
use Rattle.std.specs.FinMap.{get}
use Rattle.std.specs.Option.{option_map}
use Rattle.std.specs.declared.alloc.Global.{Global}
use Rattle.tb_table.specs.declared.columns.Column.{Column}
use Rattle.ct_keep.specs.laws.Composing.{reads_hold}
use Rattle.db_cond.specs.Faults.{UnknownName}
use Rattle.db_state.specs.Effects.{Refused}
use Rattle.db_change.specs.Inserting.{arranged, insert_into}
use Rattle.db_state.specs.laws.Columns.{no_table}
use Rattle.db_change.proofs.InsertSteps.{into_none, into_refused, into_values}
use Rattle.db_state.specs.laws.Serving.{plans_as}
use Rattle.db_change.proofs.ReadTables.{has_columns}
use Rattle.db_change.proofs.inserting.insert_plan.Goals as goal

pub returns-in_default-clause-plan : goal.returns-in_default-clause-plan
returns-in_default-clause-plan g c = record {
  made = λ m k holds stands.
      into_none m c.args.table.now c.args.names.now c.args.values.now (no_table (get m.tables c.args.table.now) (sym (ap (option_map (λ (v : Vec Column Global). v.items)) c.in_default.is) ∙ c.in_ok-columns.ensures.columns m k holds stands))
      ∙ ap (λ n. Refused (UnknownName n)) (sym c.as_str.ensures.text);
}

pub returns-in-Some-list_fault-clause-plan : goal.returns-in-Some-list_fault-clause-plan
returns-in-Some-list_fault-clause-plan g c = record {
  made = λ m k holds stands.
      let x = has_columns m c.args.table.now _ c.in-Some.columns c.deref.result.now stands.state.tables (c.in_ok-columns.ensures.columns m k holds stands) c.in-Some.is c.deref.ensures.value in
      into_refused m c.args.table.now c.args.names.now c.args.values.now x.table c.deref.result.now x.there x.same c.in-Some-list_fault.fault c.in-Some-list_fault.ensures;
}

pub returns-clause-plan : goal.returns-clause-plan
returns-clause-plan g c =
    plans_as (λ m. insert_into m c.args.table.now c.args.names.now c.args.values.now) _ _ c.values_plan.result (λ m k holds stands.
    let x = has_columns m c.args.table.now _ c.in-Some.columns c.deref.result.now stands.state.tables (c.in_ok-columns.ensures.columns m k holds stands) c.in-Some.is c.deref.ensures.value in (
      _,
      into_values m c.args.table.now c.args.names.now c.args.values.now x.table c.deref.result.now x.there x.same c.in_default-list_fault.ensures c.in_ok-values.values.items
          (c.in_ok-values.ensures ∙ ap (λ (cs : List Column). arranged c.args.names.now cs c.args.values.now) (c.deref-2.ensures.value ∙ sym c.deref.ensures.value)),
      c.values_plan.ensures.plan m k x.table (reads_hold _ _ k c.in_ok-columns.ensures.reads holds) stands x.there (x.same ∙ c.deref.ensures.value ∙ sym c.deref-3.ensures.value),
    ))
