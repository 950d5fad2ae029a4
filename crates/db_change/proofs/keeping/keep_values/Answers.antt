use Rattle.db_change.specs.Inserting.{IsNumberKept, IsTextKept}
use Rattle.db_change.proofs.AssignSteps.{more_of, all_of}
use Rattle.db_change.proofs.keeping.keep_values.Goals as goal

pub loop-value-preserved : goal.loop-value-preserved
loop-value-preserved c =
    let xs = c.args.values.now in
    let i = c.loop-value.value-index in
    record {
      numbers = more_of IsNumberKept xs i c.value-item.result c.loop-value.invariant.numbers c.loop-value-test.true c.value-item.is c.keep_value.ensures.number;
      texts = more_of IsTextKept xs i c.value-item.result c.loop-value.invariant.texts c.loop-value-test.true c.value-item.is c.keep_value.ensures.text;
    }

pub returns : goal.returns
returns c = record {
  numbers = all_of IsNumberKept c.args.values.now c.loop-value.value-index c.loop-value-test.false c.loop-value.invariant.numbers;
  texts = all_of IsTextKept c.args.values.now c.loop-value.value-index c.loop-value-test.false c.loop-value.invariant.texts;
}
