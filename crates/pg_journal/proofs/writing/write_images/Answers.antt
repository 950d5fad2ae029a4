use Rattle.std.proofs.Common.{ℕ, List, length, ◌+◌, ◌*◌, ◌^◌, ◌≡◌, ap, ◌∙◌, arith}
use Rattle.ct_site.specs.Disks.{works_then}
use Rattle.ct_site.specs.laws.Writing.{progress_step, progress_failed}
use Rattle.pg_journal.proofs.BatchPages.{count_of_numbers}
use Rattle.pg_journal.proofs.Homes.{images_left, long_at}
use Rattle.pg_journal.proofs.writing.write_images.Goals as goal

pub returns-in_err-write-clause-writes : goal.returns-in_err-write-clause-writes
returns-in_err-write-clause-writes g c =
    progress_failed c.args.at _ _ _ _ _ _ _ _ _ _ c.from_residual.ensures.0
    (images_left (g.B.ChangedPages.pages c.args.batch.now) c.numbers-i-end.result.now c.loop-i.i c.image.result c.numbers-i-end.ensures.numbers c.loop-i-test.true c.image.ensures) c.loop-i.invariant.progress c.write.ensures.writes

pub loop-i-preserved : goal.loop-i-preserved
loop-i-preserved g c = record {
  progress =
      let long : length c.image.result ≡ 4096 =
      ap (λ (l : List ℕ). length l) c.image.ensures ∙ long_at 2 (2 ^ 32) (g.B.ChangedPages.pages c.args.batch.now) c.loop-i.i c.numbers-i-end.ensures.between
      (omega (arith, c.loop-i-test.true, ap (λ (l : List ℕ). length l) c.numbers-i-end.ensures.numbers, count_of_numbers (g.B.ChangedPages.pages c.args.batch.now))) in
      progress_step c.args.at (c.args.at + 4096 * c.loop-i.i) (c.args.at + 4096 * (c.loop-i.i + 1)) _ _ _ _ _ _ _
      (images_left (g.B.ChangedPages.pages c.args.batch.now) c.numbers-i-end.result.now c.loop-i.i c.image.result c.numbers-i-end.ensures.numbers c.loop-i-test.true c.image.ensures)
      (omega (arith, long)) c.loop-i.invariant.progress c.in_ok-write.ensures.writes;
  syncs = c.in_ok-write.ensures.syncs ∙ c.loop-i.invariant.syncs;
  works = works_then _ _ _ tt _ c.loop-i.invariant.works c.in_ok-write.ensures.works;
}
