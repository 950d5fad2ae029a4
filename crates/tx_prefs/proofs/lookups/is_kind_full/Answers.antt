use Rattle.std.proofs.Common.{length, ap, ◌∙◌}
use Rattle.std.specs.Prelude.{nat_le}
use Rattle.ct_entry.specs.declared.kinds.Kind.{Kind}
use Rattle.ct_entry.specs.Listings.{owners_under}
use Rattle.tx_prefs.specs.Rules.{preference_limit}
use Rattle.tx_prefs.proofs.CountSteps.{named_owners}
use Rattle.tx_prefs.proofs.lookups.is_kind_full.Goals as goal

pub returns-clause-full : goal.returns-clause-full
returns-clause-full g c = λ m told ps holds.
    c.are_most.ensures
    ∙ ap (nat_le preference_limit)
    (ap length (c.deref.ensures.value ∙ c.in_ok-names.ensures.owners m told ∙ ap (λ (k : Kind). owners_under k m) c.entry_kind.ensures) ∙ named_owners m ps c.args.kind holds)
