use Rattle.std.proofs.Common.{List, Option, sym, subst, arith}
use Rattle.std.proofs.lemmas.Result.{err_from_is_err_and}
use Rattle.ct_base.specs.declared.lists.Value.{Value}
use Rattle.ct_keep.specs.laws.Composing.{reads_none, reads_on, reads_hold}
use Rattle.db_rows.specs.declared.sources.Source.TheVariants.{Key}
use Rattle.db_rows.specs.Texts.{texts_left}
use Rattle.db_rows.specs.Values.{row_values}
use Rattle.db_rows.specs.laws.Texts.{rises_given, leaves_still, leaves_then}
use Rattle.db_select.specs.declared.sources.FieldSource.TheVariants.{Column}
use Rattle.db_select.proofs.FieldSteps.{HasValues, all_values, field_at, no_values, one_value}
use Rattle.db_select.proofs.fields.field_values.Goals as goal

pub loop-source-init : goal.loop-source-init
loop-source-init g c = record {
  reads = reads_none _ c.requires;
  row = λ m k holds stands own.
      let vs = row_values m.tables c.args.table.now c.args.hit.key.0 in
      subst (λ (values : List (Option Value)). HasValues c.args.hit vs c.args.sources.now 0 c.args.read.now values) (sym c.new-values.ensures.items) (no_values c.args.hit vs c.args.sources.now c.args.read.now own);
  once = λ places among. leaves_still (texts_left places c.args.read.now) (texts_left places c.args.read.now) _ (omega arith);
}

pub loop-source-preserved : goal.loop-source-preserved
loop-source-preserved g c = record {
  reads = reads_on _ _ _ _ c.loop-source.invariant.reads c.in_ok-value.ensures.reads;
  row = λ m k holds stands own.
      let here = reads_hold _ _ k c.loop-source.invariant.reads holds in
      let before = c.loop-source.invariant.row m k holds stands own in
      one_value c.args.hit (row_values m.tables c.args.table.now c.args.hit.key.0) c.args.sources.now
      c.loop-source.source-index c.loop-source.read c.field.new.read c.loop-source.values.items c.push_value.new.values.items (Column Key) c.in_ok-value.value
      before c.loop-source-test.true (c.in_ok-value.ensures.read m k here stands before.own) (c.in_ok-value.ensures.value m k here stands before.own) c.in_ok-push_value.ensures;
  once = λ places among.
      leaves_then _ _ _ _ _ _ (c.loop-source.invariant.once places among)
      (c.in_ok-value.ensures.once places (field_at places c.args.sources.now c.loop-source.source-index (Column Key) c.loop-source-test.true among));
}

pub returns-clause-values : goal.returns-clause-values
returns-clause-values g c = λ m k holds stands own.
    all_values c.args.hit (row_values m.tables c.args.table.now c.args.hit.key.0) c.args.sources.now
    c.loop-source.source-index c.loop-source.read c.loop-source.values.items (c.loop-source.invariant.row m k holds stands own) c.loop-source-test.false

pub returns-clause-read : goal.returns-clause-read
returns-clause-read g c = λ m k holds stands own. (c.loop-source.invariant.row m k holds stands own).own

-- ---- each text once

pub returns-in_err-value-clause-once : goal.returns-in_err-value-clause-once
returns-in_err-value-clause-once g c = λ places among.
    rw (err_from_is_err_and c.from_residual.result c.from_residual.ensures.1).1
    (leaves_then _ _ _ _ _ _ (c.loop-source.invariant.once places among)
    (c.in_err-value.ensures.once places (field_at places c.args.sources.now c.loop-source.source-index (Column Key) c.loop-source-test.true among)))

pub returns-in_err-push_value-clause-once : goal.returns-in_err-push_value-clause-once
returns-in_err-push_value-clause-once g c = λ places among.
    rw (err_from_is_err_and c.from_residual-in_err-push_value.result c.from_residual-in_err-push_value.ensures.1).1
    (rises_given _ _ _ _
    (leaves_then _ _ _ _ _ _ (c.loop-source.invariant.once places among)
    (c.in_ok-value.ensures.once places (field_at places c.args.sources.now c.loop-source.source-index (Column Key) c.loop-source-test.true among))))

pub returns-clause-once : goal.returns-clause-once
returns-clause-once g c = c.loop-source.invariant.once
