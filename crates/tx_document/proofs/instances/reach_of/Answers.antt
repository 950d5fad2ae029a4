use Rattle.std.proofs.Common.{sym, ◌∙◌}
use Rattle.tx_document.proofs.TokenRanges.{reach_is}
use Rattle.tx_document.proofs.instances.reach_of.Goals as goal

pub returns : goal.returns
returns c = c.reach_of.ensures ∙ sym (reach_is c.args.span.now c.args.tokens.now c.range_of.result c.range_of.ensures.is)
