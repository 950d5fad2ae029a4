use Rattle.std.proofs.Common.{rules}
use Rattle.std.specs.Str.{chars}
use Rattle.q_parse.specs.Results.{verdict_of}
use Rattle.q_parse.proofs.Limits.{limits-of}
use Rattle.q_parse.proofs.Verdicts.{grammar-of}
use Rattle.q_parse.proofs.parsing.parse.Goals as goal

pub returns-clause-grammar : goal.returns-clause-grammar
returns-clause-grammar c = grammar-of (verdict_of c.read.result) (chars c.args.text.now) (search rules)

pub returns-clause-limits : goal.returns-clause-limits
returns-clause-limits c = limits-of c.read.result (chars c.args.text.now) (grammar-of (verdict_of c.read.result) (chars c.args.text.now) (search rules))
