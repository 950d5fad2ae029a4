use Rattle.db_hits.specs.Descriptors.{key_column}
use Rattle.db_hits.proofs.NameLaws.{unknown_here, unknown_later}
use Rattle.db_hits.proofs.checking.unknown_key.Goals as goal

pub returns-in-Some : goal.returns-in-Some
returns-in-Some c =
    unknown_here key_column c.args.keys.now c.args.columns.now c.loop-key.key-index c.key-item.result c.loop-key-test.true c.key-item.is c.loop-key.invariant c.in-Some.name.now c.in-Some.ensures

pub loop-key-preserved : goal.loop-key-preserved
loop-key-preserved c =
    unknown_later key_column c.args.keys.now c.args.columns.now c.loop-key.key-index c.key-item.result c.loop-key-test.true c.key-item.is c.loop-key.invariant c.in_default.ensures
