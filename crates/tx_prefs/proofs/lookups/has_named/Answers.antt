use Rattle.std.proofs.Common.{[], ap, ◌∙◌}
use Rattle.std.specs.Prelude.{is_some}
use Rattle.std.proofs.lemmas.Result.{IfOk-weaker}
use Rattle.ct_entry.specs.declared.kinds.Kind.{Kind}
use Rattle.ct_entry.specs.Keys.{key, at}
use Rattle.tx_prefs.proofs.CountSteps.{named_there}
use Rattle.tx_prefs.proofs.lookups.has_named.Goals as goal

pub returns-clause-there : goal.returns-clause-there
returns-clause-there g c = λ m told.
    IfOk-weaker c.has_entry.result _ _
    (λ there is ps holds. is ∙ ap (λ (k : Kind). is_some (at m (key k c.args.name.now []))) c.entry_kind.ensures ∙ named_there (at m) ps c.args.kind c.args.name.now holds.stand)
    (c.has_entry.ensures.value m told)
