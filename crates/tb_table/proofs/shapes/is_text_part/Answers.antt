use Rattle.std.proofs.Common.{◌<◌, get_or, arith}
use Rattle.tb_table.proofs.ShapeSteps.{text_part_is}
use Rattle.tb_table.proofs.shapes.is_text_part.Goals as goal

pub returns-in-len1-up : goal.returns-in-len1-up
returns-in-len1-up c = let place : get_or c.args.part.now 0 0 < 256 = omega (arith, c.type_inv.part 0) in text_part_is c.args.part.now c.is_row_part.result c.in-len1-up.len_at_least place c.is_row_part.ensures
