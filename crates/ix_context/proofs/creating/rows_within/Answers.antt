use Rattle.std.proofs.Common.{List, map, ap, ◌∙◌}
use Rattle.std.specs.Prelude.{filter}
use Rattle.ct_base.specs.declared.numbers.RowKey.{RowKey}
use Rattle.tb_table.specs.laws.Reading.{rows_read}
use Rattle.ix_context.specs.Indexes.{is_key_in}
use Rattle.ix_context.specs.laws.Reading.{keys_of_table}
use Rattle.ix_context.proofs.creating.rows_within.Goals as goal

pub returns-clause-rows : goal.returns-clause-rows
returns-clause-rows g c = λ m ts holds told.
    let all = ap (λ (l : List RowKey). map (λ (r : RowKey). r.0) l) c.deref.ensures.value ∙ c.in_ok-rows.ensures.rows m holds ∙ rows_read m ts told.only told.stand told.rules c.args.table.now ∙ keys_of_table ts c.args.table.now in
    c.in_ok-kept.ensures ∙ ap (filter (is_key_in c.args.range)) all
