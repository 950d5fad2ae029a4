use Rattle.std.proofs.Common.{List, map, ap, ◌∙◌}
use Rattle.ct_base.specs.declared.numbers.RowKey.{RowKey}
use Rattle.ct_keep.specs.laws.Composing.{reads_hold}
use Rattle.tb_table.specs.laws.Reading.{rows_read}
use Rattle.q_reduce.specs.Results.{named_pairs}
use Rattle.ix_kinds.specs.Rows.{table_at}
use Rattle.rule_index.specs.Kind.{create_changes}
use Rattle.rule_index.specs.laws.Shapes.{shaped_appended}
use Rattle.rule_index.specs.laws.Reading.{table_keys}
use Rattle.rule_index.proofs.AddSteps.{appended}
use Rattle.rule_index.proofs.SyncSteps.{created_so}
use Rattle.rule_index.proofs.rules.Rules.create.Goals as goal

pub returns-clause-changes : goal.returns-clause-changes
returns-clause-changes g c = λ m ts holds told.
    let again = reads_hold _ _ m c.in_ok-rows.ensures.reads holds in
    let rows =
    ap (λ (l : List RowKey). map (λ (r : RowKey). r.0) l) c.as_slice-keys.ensures.value ∙ c.in_ok-rows.ensures.rows m holds ∙ rows_read m ts told.only told.stand told.rules c.args.target.now.table ∙ table_keys ts c.args.target.now.table in
    appended (create_changes (named_pairs c.args.thesauri.now) (table_at ts c.args.target.now.table) c.args.index.now c.args.target.now c.args.prefs.now) c.args.batch.now c.new-changes.result c.put_rows.new.changes c.append.new.self c.new-changes.ensures
    (created_so ts c.args.index.now c.args.target.now c.args.prefs.now (named_pairs c.args.thesauri.now) c.as_slice-keys.result.now c.new-changes.result c.put_rules.new.changes c.put_rows.new.changes rows c.in_ok-put_rules.ensures.ok
    (c.in_ok-put_rows.ensures.changes m ts again told)) c.in_ok-append.ensures.ok

pub returns-clause-shaped : goal.returns-clause-shaped
returns-clause-shaped g c = shaped_appended c.args.batch.now c.new-changes.result c.put_rows.new.changes c.append.new.self c.new-changes.ensures (λ shaped. c.in_ok-put_rows.ensures.shaped (c.in_ok-put_rules.ensures.shaped shaped)) c.in_ok-append.ensures.ok
