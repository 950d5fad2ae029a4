use Rattle.std.proofs.Common.{◌<◌, sym, ◌∙◌, arith}
use Rattle.tx_chars.specs.laws.AsciiKeys.{words_are_alphanumeric}
use Rattle.tx_chars.proofs.keying.is_word.Goals as goal

pub returns-then-is_ascii : goal.returns-then-is_ascii
returns-then-is_ascii c =
    let low : c.args.c < 128 = grind (arith, c.is_ascii.ensures, c.if-is_ascii.true) in
    c.is_ascii_alphanumeric.ensures.value ∙ sym (words_are_alphanumeric c.args.c low)
