use Rattle.std.proofs.Common.{rules, List, ℕ, subst, refl}
use Rattle.ct_site.specs.Disks.{leaves_none}
use Rattle.ct_site.specs.laws.Lengths.{grows_same}
use Rattle.pg_journal.specs.Births.{IsUnbornAs}
use Rattle.pg_journal.specs.Recovered.{IsUnborn}
use Rattle.pg_journal.proofs.Birth.{cleared_unborn}
use Rattle.pg_journal.proofs.births.clear_where.Goals as goal

pub returns-then-empty-clause-moments : goal.returns-then-empty-clause-moments
returns-then-empty-clause-moments g c = λ image settled unborn. c.clear.ensures.moments image settled (subst (λ e. IsUnbornAs e image) c.if-empty.true unborn)

pub returns-else-empty-clause-moments : goal.returns-else-empty-clause-moments
returns-else-empty-clause-moments g c = λ image settled unborn.
    leaves_none _ _ (λ x left. subst IsUnborn (Rattle.std.proofs.Common.sym (settled.only x left)) (cleared_unborn image (subst (λ e. IsUnbornAs e image) c.if-empty.false unborn)))

pub returns-else-empty-clause-length : goal.returns-else-empty-clause-length
returns-else-empty-clause-length g c = grows_same 12288 _ _ refl
