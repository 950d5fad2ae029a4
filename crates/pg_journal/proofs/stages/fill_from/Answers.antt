use Rattle.std.proofs.Common.{◌+◌, ◌*◌, ◌≤◌, List, ℕ, length, Result, Ok, ◌∙◌, subst, arith}
use Rattle.std.proofs.lemmas.List.{length-replicate}
use Rattle.ct_base.specs.Zeros.{zeros}
use Rattle.ct_site.specs.declared.outside.Failed.{Failed}
use Rattle.ct_site.specs.Disks.{DiskView, Leaves, leaves_then, works_then}
use Rattle.ct_site.specs.Lengths.{IsWithin}
use Rattle.ct_site.specs.Writing.{Writes}
use Rattle.ct_site.specs.laws.Writing.{writes_keep, within_then}
use Rattle.pg_journal.specs.Standing.{IsShut}
use Rattle.pg_journal.proofs.Shut.{shut_behind}
use Rattle.pg_journal.proofs.stages.fill_from.Goals as goal

-- a page more
filled : (at homes : ℕ) (ps : List (List ℕ)) (old mid new : DiskView) (result : Result (Unit {0}) Failed) → 4096 * homes ≤ at → Leaves old mid (IsShut homes ps) → Writes at (zeros 4096) mid new result → Leaves old new (IsShut homes ps)
filled at homes ps old mid new result past leaves writes =
    leaves_then old mid new (IsShut homes ps) leaves (writes_keep (IsShut homes ps) at (zeros 4096) mid new result writes (λ x y shut torn. shut_behind homes at (length (zeros 4096)) ps x y past shut torn) leaves.now)

within_page : (at : ℕ) (old new : DiskView) → IsWithin at old → Writes at (zeros 4096) old new (Ok tt) → IsWithin (at + 4096) new
within_page at old new within writes = subst (λ (n : ℕ). IsWithin (at + n) new) (length-replicate {A = ℕ} 4096 0) (within_then at (zeros 4096) old new within writes)

pub loop-at-preserved : goal.loop-at-preserved
loop-at-preserved g c = record {
  past = omega (arith, c.loop-at.invariant.past);
  within = within_page c.loop-at.at _ _ c.loop-at.invariant.within c.in-Ok.ensures.writes;
  leaves = λ homes ps inside here. filled c.loop-at.at homes ps _ _ _ _ (omega (arith, inside, c.loop-at.invariant.past)) (c.loop-at.invariant.leaves homes ps inside here) c.in-Ok.ensures.writes;
  syncs = c.in-Ok.ensures.syncs ∙ c.loop-at.invariant.syncs;
  works = works_then _ _ _ tt _ c.loop-at.invariant.works c.in-Ok.ensures.works;
}

pub returns-in-Err-clause-moments : goal.returns-in-Err-clause-moments
returns-in-Err-clause-moments g c = λ homes ps inside here. filled c.loop-at.at homes ps _ _ _ _ (omega (arith, inside, c.loop-at.invariant.past)) (c.loop-at.invariant.leaves homes ps inside here) c.in-Err.ensures.writes
