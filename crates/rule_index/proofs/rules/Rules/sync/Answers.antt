use Rattle.std.proofs.Common.{◌≡◌, List, map, ap, sym, ◌∙◌}
use Rattle.std.proofs.lemmas.Option.{same_Some}
use Rattle.ct_base.specs.declared.numbers.RowKey.{RowKey}
use Rattle.ct_keep.specs.laws.Composing.{reads_hold}
use Rattle.q_reduce.specs.Results.{named_pairs}
use Rattle.ix_kinds.specs.Rows.{table_at}
use Rattle.rule_index.specs.Kind.{sync_changes}
use Rattle.rule_index.specs.laws.Shapes.{shaped_appended}
use Rattle.rule_index.specs.laws.Reading.{entry_of, entry_read, waiting_read}
use Rattle.rule_index.proofs.AddSteps.{appended}
use Rattle.rule_index.proofs.SyncSteps.{none_not, settled_so}
use Rattle.rule_index.proofs.rules.Rules.sync.Goals as goal

pub returns-clause-changes : goal.returns-clause-changes
returns-clause-changes g c = λ m ts x holds told.
    let read = entry_read m ts c.args.index.now x told _ (c.in_ok-entry.ensures.entry m holds) in
    let same : c.in-Some.entry ≡ entry_of x = same_Some _ _ (sym c.in-Some.is ∙ read) in
    let after = reads_hold _ _ m c.in_ok-entry.ensures.reads holds in
    let again = reads_hold _ _ m c.in_ok-rows.ensures.reads after in
    let rows = ap (λ (l : List RowKey). map (λ (r : RowKey). r.0) l) c.as_slice-keys.ensures.value ∙ c.in_ok-rows.ensures.rows m after ∙ waiting_read m ts c.args.index.now x told in
    appended (sync_changes (named_pairs c.args.thesauri.now) (table_at ts x.table) c.args.index.now x) c.args.batch.now c.new-changes.result c.settle_rows.new.changes c.append.new.self c.new-changes.ensures
    (settled_so ts c.args.index.now x (named_pairs c.args.thesauri.now) c.in-Some.entry c.as_slice-keys.result.now c.new-changes.result c.settle_rows.new.changes same rows (c.in_ok-settle_rows.ensures.changes m ts again told.tables))
    c.in_ok-append.ensures.ok

pub returns-in_default-clause-changes : goal.returns-in_default-clause-changes
returns-in_default-clause-changes g c = λ m ts x holds told.
    let read = entry_read m ts c.args.index.now x told _ (c.in_ok-entry.ensures.entry m holds) in
    absurd (none_not _ _ c.in_default.is read)

pub returns-clause-shaped : goal.returns-clause-shaped
returns-clause-shaped g c = shaped_appended c.args.batch.now c.new-changes.result c.settle_rows.new.changes c.append.new.self c.new-changes.ensures c.in_ok-settle_rows.ensures.shaped c.in_ok-append.ensures.ok
