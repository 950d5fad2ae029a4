use Rattle.std.proofs.Common.{rules}
use Rattle.std.specs.Str.{chars}
use Rattle.st_parse.specs.Lexemes.{lexemes}
use Rattle.st_parse.proofs.ReadStatements.{statement-in, refused}
use Rattle.st_parse.proofs.parsing.parse.Goals as goal

pub returns-clause-statement : goal.returns-clause-statement
returns-clause-statement c = statement-in (lexemes (chars c.args.text.now)) c.in_ok-statement.field-0 (search rules)

pub returns-in_err-lexemes-clause-syntax : goal.returns-in_err-lexemes-clause-syntax
returns-in_err-lexemes-clause-syntax c = refused c.from_residual.result (chars c.args.text.now) (search rules)

pub returns-in_err-statement-clause-syntax : goal.returns-in_err-statement-clause-syntax
returns-in_err-statement-clause-syntax c = refused c.from_residual-in_err-statement.result (chars c.args.text.now) (search rules)
