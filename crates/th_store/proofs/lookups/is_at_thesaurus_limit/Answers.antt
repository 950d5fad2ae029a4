use Rattle.std.proofs.Common.{length, ap, ◌∙◌}
use Rattle.std.specs.Prelude.{nat_le}
use Rattle.th_store.specs.Rules.{thesaurus_limit}
use Rattle.th_store.proofs.CountSteps.{owners_count}
use Rattle.th_store.proofs.lookups.is_at_thesaurus_limit.Goals as goal

pub returns-clause-full : goal.returns-clause-full
returns-clause-full g c = λ m told ts holds.
    c.reach_limit.ensures ∙ ap (nat_le thesaurus_limit) (ap length (c.deref.ensures.value ∙ c.in_ok-names.ensures.owners m told) ∙ owners_count m ts holds)
