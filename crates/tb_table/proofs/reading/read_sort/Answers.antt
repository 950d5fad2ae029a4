use Rattle.std.proofs.Common.{◌<◌, ◌^◌, ◌+◌, length, arith}
use Rattle.tb_table.specs.declared.columns.Sort.{Sort}
use Rattle.tb_table.specs.Spelling.{sort_size}
use Rattle.tb_table.proofs.NumberSteps.{too_few}
use Rattle.tb_table.proofs.ColumnSteps.{sort_short}
use Rattle.ct_base.specs.laws.Options.{if_none}
use Rattle.tb_table.proofs.reading.read_sort.Goals as goal

pub returns-in_err-size-clause-none : goal.returns-in_err-size-clause-none
returns-in_err-size-clause-none c =
    let few : length c.args.bytes.now < c.args.at + 1 + 2 = too_few (c.args.at + 1 + 2) (length c.args.bytes.now) c.in_err-size.ensures.enough.1 in
    if_none c.from_residual-in_err-size.result _ (λ (s : Sort) (fits : sort_size s < 2 ^ 16). sort_short c.args.bytes.now c.args.at s (omega arith))
