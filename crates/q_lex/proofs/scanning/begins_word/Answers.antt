use Rattle.std.proofs.Common.{rules}
use Rattle.std.specs.Str.{chars}
use Rattle.q_lex.proofs.Unclosed.{none-here}
use Rattle.q_lex.proofs.scanning.begins_word.Goals as goal

pub closes-requires : goal.closes-requires
closes-requires c = none-here c.args.none_closes (chars c.args.text.now) (chars c.in-Some.after.now) c.in-Some.c c.requires c.in-Some.ensures.chars (search rules)
