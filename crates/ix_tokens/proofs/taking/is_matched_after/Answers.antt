use Rattle.std.proofs.Common.{sym, ◌∙◌}
use Rattle.ix_tokens.proofs.Steps.{tried_again}
use Rattle.ix_tokens.proofs.taking.is_matched_after.Goals as goal

pub returns-in-Some-clause-is : goal.returns-in-Some-clause-is
returns-in-Some-clause-is c = tried_again c.args.pattern.now c.args.literal.now c.args.tried.now c.args.more.now c.in-Some.known c.requires (sym c.known_of.ensures ∙ c.in-Some.is)
