use Rattle.std.proofs.Common.{sym, ◌∙◌}
use Rattle.db_arguments.proofs.Digits.{no_parse_no_number}
use Rattle.db_arguments.proofs.numbers.number_of.Goals as goal

pub returns-in_err-number : goal.returns-in_err-number
returns-in_err-number c =
    c.from_residual.ensures
    ∙ sym (no_parse_no_number c.args.least c.args.greatest c.args.value.now c.parse.result c.requires c.parse.ensures.value.0 (sym c.is_number.ensures ∙ c.if-not-is_number.false) (sym c.ok.ensures.value ∙ c.in_err-number.was))
