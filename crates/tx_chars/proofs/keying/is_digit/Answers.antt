use Rattle.std.proofs.Common.{◌<◌, sym, ◌∙◌, arith}
use Rattle.tx_chars.specs.laws.AsciiKeys.{digits_are_decimal}
use Rattle.tx_chars.proofs.keying.is_digit.Goals as goal

pub returns-then-is_ascii : goal.returns-then-is_ascii
returns-then-is_ascii c =
    let low : c.args.c < 128 = grind (arith, c.is_ascii.ensures, c.if-is_ascii.true) in
    c.is_ascii_digit.ensures.value ∙ sym (digits_are_decimal c.args.c low)
