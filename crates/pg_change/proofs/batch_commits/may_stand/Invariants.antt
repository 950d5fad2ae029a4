use Rattle.std.proofs.Common.{take}
use Rattle.pg_change.specs.Next.{HaveKinds}
use Rattle.pg_change.proofs.batch_commits.may_stand.Given as goal

abbrev pub invariant-loop-i : goal.invariant-loop-i
invariant-loop-i l = record {
  so_far : HaveKinds l.draft.now (take l.i l.numbers);
}
