use Rattle.std.proofs.Common.{◌∙◌}
use Rattle.csv_table.proofs.Words.{word_read}
use Rattle.csv_table.proofs.names.is_keyword.Goals as goal

pub returns-in-Ok : goal.returns-in-Ok
returns-in-Ok c = c.is_word.ensures ∙ word_read c.args.word.now c.in-Ok.lexeme _ c.requires c.in-Ok.ensures.gives
