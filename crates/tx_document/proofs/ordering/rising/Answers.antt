use Rattle.std.proofs.Common.{◌∙◌}
use Rattle.tx_document.proofs.SortedInstances.{sorted_is_rising}
use Rattle.tx_document.proofs.ordering.rising.Goals as goal

pub returns : goal.returns
returns c = c.drop_equal.ensures ∙ sorted_is_rising c.args.found.items c.sort.new.instances.items c.sort.ensures.permutation c.in_ok-sort.ensures.sorted
