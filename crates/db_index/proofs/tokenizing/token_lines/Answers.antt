use Rattle.std.proofs.Common.{◌∙◌, sym, ap, List}
use Rattle.std.specs.List.{flat_map}
use Rattle.std.proofs.lemmas.List.{take_all}
use Rattle.tx_lexer.specs.declared.tokens.Token.{Token}
use Rattle.db_cond.specs.Lines.{line}
use Rattle.db_index.specs.Tokenizing.{token_line}
use Rattle.db_state.specs.laws.PrintedLines.{lines_of_some}
use Rattle.db_index.proofs.tokenizing.token_lines.Goals as goal

pub returns : goal.returns
returns c =
    c.loop-token.invariant
    ∙ ap (λ (ts : List Token). flat_map (λ t. line (token_line t)) ts) (take_all c.loop-token.token-index c.args.tokens.now c.loop-token-test.false)
    ∙ sym (lines_of_some token_line c.args.tokens.now (sym c.if-is_empty.ensures))
