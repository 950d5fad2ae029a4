use Rattle.std.proofs.Common.{◌∙◌, ◌+◌, arith}
use Rattle.ct_site.specs.Disks.{works_then}
use Rattle.ct_site.specs.laws.Writing.{progress_step, progress_failed}
use Rattle.pg_journal.proofs.BatchPages.{area_rest, length-number_page}
use Rattle.pg_journal.proofs.writing.write_numbers.Goals as goal

pub returns-in_err-write-clause-writes : goal.returns-in_err-write-clause-writes
returns-in_err-write-clause-writes g c =
    progress_failed c.args.at c.loop-done.next _ _ _ _ _ _ _ _ _ c.from_residual.ensures.0
    (area_rest c.args.numbers.now c.loop-done.done c.min-end.result _ c.loop-done-test.true c.min-end.ensures c.number_page.ensures) c.loop-done.invariant.progress c.write.ensures.writes

pub loop-done-preserved : goal.loop-done-preserved
loop-done-preserved g c = record {
  most = omega (arith, c.min-end.ensures);
  place = λ less. let here_ = c.loop-done.invariant.place c.loop-done-test.true in omega (arith, here_, less, c.min-end.ensures);
  progress =
      progress_step c.args.at c.loop-done.next (c.loop-done.next + 4096) _ _ _ _ _ _ _
      (area_rest c.args.numbers.now c.loop-done.done c.min-end.result _ c.loop-done-test.true c.min-end.ensures c.number_page.ensures)
      (omega (arith, length-number_page c.args.numbers.now c.loop-done.done c.min-end.result _ c.loop-done-test.true c.min-end.ensures c.number_page.ensures)) c.loop-done.invariant.progress c.in_ok-write.ensures.writes;
  syncs = c.in_ok-write.ensures.syncs ∙ c.loop-done.invariant.syncs;
  works = works_then _ _ _ tt _ c.loop-done.invariant.works c.in_ok-write.ensures.works;
}
