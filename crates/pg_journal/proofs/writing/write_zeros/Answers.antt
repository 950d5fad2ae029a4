use Rattle.std.proofs.Common.{refl, ◌∙◌, ◌+◌, arith}
use Rattle.ct_base.specs.laws.Zeros.{take-zeros}
use Rattle.ct_site.specs.Disks.{works_then}
use Rattle.pg_journal.proofs.Zeros.{zeros_step, zeros_short, zeros_within}
use Rattle.pg_journal.proofs.writing.write_zeros.Goals as goal

pub returns-in_err-write-clause-writes : goal.returns-in_err-write-clause-writes
returns-in_err-write-clause-writes g c =
    let piece = take-zeros c.min-more.result 65536 (omega (arith, c.min-more.ensures)) in
    zeros_short c.args.at (c.args.at + c.loop-done.done) c.loop-done.done c.min-more.result c.args.count _ _ _ _ _ _ c.from_residual.ensures.0 c.requires.within refl piece
    (omega (arith, c.min-more.ensures, c.loop-done-test.true)) c.loop-done.invariant.writes c.write.ensures.writes

pub loop-done-preserved : goal.loop-done-preserved
loop-done-preserved g c =
    let piece = take-zeros c.min-more.result 65536 (omega (arith, c.min-more.ensures)) in
    record {
      most = omega (arith, c.min-more.ensures, c.loop-done-test.true);
      within = zeros_within c.args.at c.loop-done.done c.min-more.result _ _ _ piece c.loop-done.invariant.within c.in_ok-write.ensures.writes;
      writes = zeros_step c.args.at (c.args.at + c.loop-done.done) c.loop-done.done c.min-more.result _ _ _ _ _ c.requires.within refl piece c.loop-done.invariant.writes c.in_ok-write.ensures.writes;
      syncs = c.in_ok-write.ensures.syncs ∙ c.loop-done.invariant.syncs;
      works = works_then _ _ _ tt _ c.loop-done.invariant.works c.in_ok-write.ensures.works;
    }
