use Rattle.std.proofs.Common.{sym, ◌∙◌}
use Rattle.tx_prefs.proofs.UnknownSteps.{unknown_is}
use Rattle.tx_prefs.proofs.unknown_names.unknown_name.Goals as goal

pub returns-clause-unknown : goal.returns-clause-unknown
returns-clause-unknown g c = λ m told ps holds.
    c.in_ok-unknown.ensures
    ∙ unknown_is c.args.request.now.kind c.args.request.now.name c.in-Some.name ps c.in-Some.is (sym (c.in_ok-is_there.ensures.there m told ps holds) ∙ c.if-is_there.false)
