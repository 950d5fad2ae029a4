use Rattle.std.proofs.Common.{◌≡◌, ◌≤◌, length, List, ap, sym, refl, subst, ◌∙◌}
use Rattle.std.specs.Option.{option_map}
use Rattle.std.specs.List.{All}
use Rattle.ct_base.specs.Limits.{column_limit}
use Rattle.ct_base.specs.declared.numbers.RowKey.{RowKey}
use Rattle.tb_table.specs.declared.columns.Column.{Column}
use Rattle.ct_keep.specs.laws.Composing.{reads_on, reads_hold}
use Rattle.st_parse.specs.declared.statements.Operand.{Operand}
use Rattle.db_cond.specs.Faults.{OutOfRange}
use Rattle.db_cond.specs.Refused.{refusal_of}
use Rattle.db_state.specs.Effects.{Refused, Does}
use Rattle.db_state.specs.laws.Serving.{plan_does}
use Rattle.db_change.specs.Inserting.{has_row, insert_values, others_kept, row_created, with_new_row, IsFreeRow, IsShortValue}
use Rattle.db_change.proofs.InsertSteps.{values_refused, values_without_key, values_inserted, values_free}
use Rattle.db_change.proofs.inserting.values_plan.Goals as goal

pub returns-in-Some-clause-plan : goal.returns-in-Some-clause-plan
returns-in-Some-clause-plan g c = λ m k x holds stands here columns.
    let few = subst (λ (cs : List Column). length cs ≤ column_limit) columns (stands.state.tables.each c.args.table.now x here).columns.few in
    subst (λ (vs : List Operand). insert_values m c.args.table.now x vs ≡ Refused (refusal_of c.in-Some.fault)) c.as_slice-slice.ensures.value
    (values_refused m c.args.table.now x c.as_slice-slice.result.now c.in_ok-taken.taken c.in_ok-many.many c.args.columns.now
    (c.in_ok-taken.ensures.taken m k x holds stands here ∙ ap (has_row x) c.key_in-key.ensures) (c.in_ok-many.ensures.many m k x (reads_hold _ _ k c.in_ok-taken.ensures.reads holds) stands here) columns c.in-Some.fault (c.in-Some.ensures.checks few))

pub returns-in_default-key-clause-plan : goal.returns-in_default-key-clause-plan
returns-in_default-key-clause-plan g c = λ m k x holds stands here columns.
    let few = subst (λ (cs : List Column). length cs ≤ column_limit) columns (stands.state.tables.each c.args.table.now x here).columns.few in
    subst (λ (vs : List Operand). insert_values m c.args.table.now x vs ≡ Refused OutOfRange) c.as_slice-slice.ensures.value
    (values_without_key m c.args.table.now x c.as_slice-slice.result.now c.in_ok-taken.taken c.in_ok-many.many c.args.columns.now
    (c.in_ok-taken.ensures.taken m k x holds stands here ∙ ap (has_row x) c.key_in-key.ensures) (c.in_ok-many.ensures.many m k x (reads_hold _ _ k c.in_ok-taken.ensures.reads holds) stands here) columns (c.in_default.ensures.checks few) (sym c.key_in-key.ensures ∙ ap (option_map (λ (key : RowKey). key.0)) c.in_default-key.is))

pub returns-clause-plan : goal.returns-clause-plan
returns-clause-plan g c = λ m k x holds stands here columns.
    let few = subst (λ (cs : List Column). length cs ≤ column_limit) columns (stands.state.tables.each c.args.table.now x here).columns.few in
    let t = c.args.table.now in
    let key = c.in-Some-key.key.0 in
    let slice = c.as_slice-slice.result.now in
    let is = sym c.key_in-key.ensures ∙ ap (option_map (λ (key : RowKey). key.0)) c.in-Some-key.is in
    let taken = c.in_ok-taken.ensures.taken m k x holds stands here ∙ ap (has_row x) c.key_in-key.ensures in
    let many = c.in_ok-many.ensures.many m k x (reads_hold _ _ k c.in_ok-taken.ensures.reads holds) stands here in
    let free = subst (λ (vs : List Operand). IsFreeRow x vs key) c.as_slice-slice.ensures.value (values_free m t x slice c.in_ok-taken.taken c.in_ok-many.many c.args.columns.now taken many columns (c.in_default.ensures.checks few) key is) in
    let after = reads_hold _ _ k (reads_on _ _ _ _ c.in_ok-taken.ensures.reads c.in_ok-many.ensures.reads) holds in
    plan_does _ k _ _ c.in_ok-batch.batch
    (subst (λ (vs : List Operand). insert_values m t x vs ≡ Does (with_new_row m t key (others_kept vs)) row_created) c.as_slice-slice.ensures.value
    (values_inserted m t x slice c.in_ok-taken.taken c.in_ok-many.many c.args.columns.now taken many columns (c.in_default.ensures.checks few) key is))
    (c.in_ok-batch.ensures.batch m k x after stands here columns free)

pub insert_batch-requires-clause-few : goal.insert_batch-requires-clause-few
insert_batch-requires-clause-few g c = subst (λ (vs : List Operand). length vs ≤ column_limit) c.as_slice-slice.ensures.value (c.in_default.ensures.few refl)

pub insert_batch-requires-clause-short : goal.insert_batch-requires-clause-short
insert_batch-requires-clause-short g c = subst (All IsShortValue) c.as_slice-slice.ensures.value (c.in_default.ensures.short refl)
