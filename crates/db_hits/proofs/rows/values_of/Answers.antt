use Rattle.ct_keep.specs.laws.Composing.{reads_none, reads_on, reads_hold}
use Rattle.db_rows.specs.declared.sources.Source.TheVariants.{Key}
use Rattle.db_rows.specs.Sources.{source_value}
use Rattle.db_rows.specs.Values.{row_values}
use Rattle.db_rows.specs.laws.Texts.{leaves_then, rises_end}
use Rattle.db_hits.proofs.ValueSteps.{all_values, no_values, none_read, one_value, source_at}
use Rattle.db_hits.proofs.rows.values_of.Goals as goal

pub loop-source-init : goal.loop-source-init
loop-source-init g c = record {
  reads = reads_none _ c.requires;
  row = λ m k holds stands.
      let vs = row_values m.tables c.args.table.now c.args.row.0 in
      no_values (source_value c.args.row.0 vs) vs c.args.sources.now c.nothing-read.result c.new-values.result.items (c.nothing-read.ensures vs) c.new-values.ensures.items;
  within = λ places among. none_read places c.nothing-read.result _;
}

pub loop-source-preserved : goal.loop-source-preserved
loop-source-preserved g c = record {
  reads = reads_on _ _ _ _ c.loop-source.invariant.reads c.in_ok-value.ensures.reads;
  row = λ m k holds stands.
      let here = reads_hold _ _ k c.loop-source.invariant.reads holds in
      let before = c.loop-source.invariant.row m k holds stands in
      let vs = row_values m.tables c.args.table.now c.args.row.0 in
      one_value (source_value c.args.row.0 vs) vs c.args.sources.now c.loop-source.source-index c.column_value.new.read c.loop-source.values.items c.push_value.new.values.items Key c.in_ok-value.value
      c.loop-source-test.true before.are (c.in_ok-value.ensures.read m k here stands before.own) (c.in_ok-value.ensures.value m k here stands before.own) c.in_ok-push_value.ensures;
  within = λ places among.
      leaves_then _ _ _ _ _ _ (c.loop-source.invariant.within places among)
      (c.in_ok-value.ensures.once places (source_at places c.args.sources.now c.loop-source.source-index Key c.loop-source-test.true among));
}

pub returns-clause-values : goal.returns-clause-values
returns-clause-values g c = λ m k holds stands.
    let vs = row_values m.tables c.args.table.now c.args.row.0 in
    all_values (source_value c.args.row.0 vs) vs c.args.sources.now c.loop-source.source-index c.loop-source.read c.loop-source.values.items (c.loop-source.invariant.row m k holds stands) c.loop-source-test.false

-- ---- each text once

pub returns-in_err-value-clause-within : goal.returns-in_err-value-clause-within
returns-in_err-value-clause-within g c = λ places among.
    rises_end _ _ _ _
    (leaves_then _ _ _ _ _ _ (c.loop-source.invariant.within places among)
    (c.in_err-value.ensures.once places (source_at places c.args.sources.now c.loop-source.source-index Key c.loop-source-test.true among)))

pub returns-in_err-push_value-clause-within : goal.returns-in_err-push_value-clause-within
returns-in_err-push_value-clause-within g c = λ places among.
    rises_end _ _ _ _
    (leaves_then _ _ _ _ _ _ (c.loop-source.invariant.within places among)
    (c.in_ok-value.ensures.once places (source_at places c.args.sources.now c.loop-source.source-index Key c.loop-source-test.true among)))

pub returns-clause-within : goal.returns-clause-within
returns-clause-within g c = λ places among. rises_end _ _ _ _ (c.loop-source.invariant.within places among)
