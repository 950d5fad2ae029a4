use Rattle.std.proofs.Common.{rules}
use Rattle.std.specs.Str.{chars}
use Rattle.cat_where.specs.Results.{verdict_of}
use Rattle.cat_where.proofs.Verdicts.{grammar_of}
use Rattle.cat_where.proofs.reading.read_where.Goals as goal

pub returns-clause-grammar : goal.returns-clause-grammar
returns-clause-grammar c = grammar_of (verdict_of c.read_lexemes.result) (chars c.args.text.now) (search rules)
