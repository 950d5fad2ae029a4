use Rattle.std.proofs.Common.{nat_le, ap, ◌∙◌}
use Rattle.std.specs.List.{filter}
use Rattle.ix_spans.proofs.RisingSearches.{from_and_to}
use Rattle.ix_spans.proofs.searching.those_in.Goals as goal

pub returns : goal.returns
returns c = c.up_to.ensures ∙ ap (filter (λ n. nat_le n c.args.hi)) c.from_on.ensures ∙ from_and_to c.args.numbers.now c.args.lo c.args.hi
