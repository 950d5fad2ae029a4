use Rattle.std.proofs.Common.{◌∙◌}
use Rattle.ix_spans.proofs.RisingSearches.{has_searched}
use Rattle.ix_spans.proofs.searching.has_number.Goals as goal

pub returns : goal.returns
returns c = c.is_ok.ensures.value ∙ has_searched c.args.numbers.now c.args.number c.binary_search.result c.requires c.binary_search.ensures.position
