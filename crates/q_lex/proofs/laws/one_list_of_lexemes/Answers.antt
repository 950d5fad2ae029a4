use Rattle.q_lex.proofs.Parts.{lexemes_are_written, one_list}
use Rattle.q_lex.proofs.laws.one_list_of_lexemes.Goals as goal

pub returns : goal.returns
returns c = record { read = lexemes_are_written; one = one_list }
