use Rattle.std.proofs.Common.{rules}
use Rattle.std.specs.Str.{chars}
use Rattle.ct_base.specs.Names.{is_name_byte}
use Rattle.st_parse.specs.Lexemes.{run}
use Rattle.st_parse.proofs.Steps.{map-lower, word-shorter, digits-shorter}
use Rattle.st_parse.proofs.lexing.lexeme_at.Goals as goal

pub returns-in_ok-keyword_or_name-clause-shorter : goal.returns-in_ok-keyword_or_name-clause-shorter
returns-in_ok-keyword_or_name-clause-shorter c =
    rw c.in_ok-word.ensures.rest (word-shorter (chars c.args.text.now) (chars c.in-Some.after.now) c.in-Some.c c.in-Some.ensures.chars (search rules))

pub returns-in_ok-digits-clause-shorter : goal.returns-in_ok-digits-clause-shorter
returns-in_ok-digits-clause-shorter c =
    rw c.in_ok-digits.ensures.rest (digits-shorter (chars c.args.text.now) (chars c.in-Some.after.now) c.in-Some.c c.in-Some.ensures.chars (search rules))

pub keyword_or_name-requires : goal.keyword_or_name-requires
keyword_or_name-requires c = rw (c.as_str.ensures.value, c.in_ok-word.ensures.word) (map-lower (run is_name_byte (chars c.args.text.now)))
