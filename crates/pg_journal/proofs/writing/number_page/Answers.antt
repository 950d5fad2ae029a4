use Rattle.std.proofs.Common.{◌∙◌, arith}
use Rattle.pg_journal.proofs.BatchPages.{page_step}
use Rattle.pg_journal.proofs.writing.number_page.Goals as goal

pub loop-number-preserved : goal.loop-number-preserved
loop-number-preserved c = record {
  place = omega (arith, c.loop-number.invariant.place);
  bytes = c.put_at.ensures ∙ page_step c.args.numbers.now c.loop-number.bytes c.to_be_bytes.result c.loop-number.number-index c.loop-number.at 0 c.loop-number-test.true (omega (arith, c.requires.few, c.loop-number-test.true)) c.loop-number.invariant.place c.loop-number.invariant.bytes c.to_be_bytes.ensures;
}
