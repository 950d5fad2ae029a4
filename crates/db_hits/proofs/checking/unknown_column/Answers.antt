use Rattle.db_hits.specs.Descriptors.{part_columns}
use Rattle.db_hits.proofs.NameLaws.{unknown_here, unknown_later}
use Rattle.db_hits.proofs.checking.unknown_column.Goals as goal

pub returns-in-Some : goal.returns-in-Some
returns-in-Some c =
    unknown_here part_columns c.args.parts.now c.args.columns.now c.loop-part.part-index c.part-item.result c.loop-part-test.true c.part-item.is c.loop-part.invariant c.in-Some.name.now c.in-Some.ensures

pub loop-part-preserved : goal.loop-part-preserved
loop-part-preserved c =
    unknown_later part_columns c.args.parts.now c.args.columns.now c.loop-part.part-index c.part-item.result c.loop-part-test.true c.part-item.is c.loop-part.invariant c.in_default.ensures
