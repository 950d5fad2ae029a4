use Rattle.std.proofs.Common.{rules, ℕ, List, length, refl, sym, ap, arith, ◌∙◌, ◌≡◌}
use Rattle.pg_journal.specs.Looking.{AreZeros}
use Rattle.ct_base.specs.Zeros.{zeros}
use Rattle.ct_base.specs.laws.Zeros.{take-zeros}
use Rattle.pg_journal.proofs.BatchReads.{ok_of_err, are_zeros}
use Rattle.pg_journal.proofs.batch_reading.read_zeros.Goals as goal

pub returns-in_err-read-clause-is : goal.returns-in_err-read-clause-is
returns-in_err-read-clause-is g c = λ image told. ok_of_err c.from_residual.result _ c.from_residual.ensures.0

pub returns-clause-is : goal.returns-clause-is
returns-clause-is g c = λ image told.
    Rattle.std.proofs.Common.subst (λ (l : List ℕ). AreZeros c.eq.result (length c.args.into.now) l) (c.in_ok-read.ensures.bytes image told)
    (are_zeros c.eq.result _ _ (length c.args.into.now) c.eq.ensures (take-zeros (length c.read.new.into) 4096 (omega (arith, c.requires.few, c.read.auto.into)) ∙ ap zeros c.read.auto.into))
