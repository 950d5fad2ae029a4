use Rattle.std.proofs.Common.{◌∙◌}
use Rattle.ix_search.proofs.Wants.{wanted_where_found}
use Rattle.ix_search.proofs.wanting.is_wanted.Goals as goal

pub returns : goal.returns
returns c = c.is_some.ensures ∙ wanted_where_found (λ x. x.now) c.args.wanted.now c.args.stream c.args.slot.now c.in_ok-found.found c.in_ok-found.ensures
