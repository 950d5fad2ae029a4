use Rattle.std.proofs.Common.{◌≡◌, take}
use Rattle.std.specs.List.{flat_map}
use Rattle.db_cond.specs.Lines.{line}
use Rattle.db_index.specs.Tokenizing.{token_line}
use Rattle.db_index.proofs.tokenizing.token_lines.Given as goal

abbrev pub invariant-loop-token : goal.invariant-loop-token
invariant-loop-token l = l.lines.items ≡ flat_map (λ t. line (token_line t)) (take l.token-index l.tokens)
