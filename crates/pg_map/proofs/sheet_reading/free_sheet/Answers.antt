use Rattle.std.proofs.Common.{sym, ◌∙◌}
use lib.Pointwise.{bytes_decides}
use Rattle.ct_base.specs.Zeros.{zeros}
use Rattle.pg_map.proofs.SheetReads.{free_bytes}
use Rattle.pg_map.proofs.sheet_reading.free_sheet.Goals as goal

pub returns-then-eq : goal.returns-then-eq
returns-then-eq c = (tt, free_bytes ∙ sym ((bytes_decides c.args.bytes.now (zeros 4096)).0 (sym c.if-eq.ensures)))

pub returns-else-eq : goal.returns-else-eq
returns-else-eq c = λ is.
    let told = (bytes_decides c.args.bytes.now (zeros 4096)).1 (sym is ∙ free_bytes) in
    let other = c.if-eq.ensures in
    cc
