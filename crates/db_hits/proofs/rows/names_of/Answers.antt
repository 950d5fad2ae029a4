use Rattle.db_hits.proofs.NameLaws.{all_names, one_name}
use Rattle.db_hits.proofs.rows.names_of.Goals as goal

pub loop-column-preserved : goal.loop-column-preserved
loop-column-preserved c =
    one_name c.args.parts.now c.args.columns.now c.loop-column.column-index c.column-item.result c.loop-column.names.items c.push_if_named.new.names.items
    c.loop-column-test.true c.column-item.is c.loop-column.invariant c.in_ok-push_if_named.ensures

pub returns : goal.returns
returns c = all_names c.args.parts.now c.args.columns.now c.loop-column.column-index c.loop-column.names.items c.loop-column-test.false c.loop-column.invariant
