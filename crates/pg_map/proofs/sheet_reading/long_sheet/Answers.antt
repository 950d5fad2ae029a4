use Rattle.std.proofs.Common.{ℕ, ◌+◌, ◌-◌, ◌≡◌, ◌∙◌, arith}
use Rattle.pg_map.proofs.SheetReads.{long_differs}
use Rattle.pg_map.proofs.sheet_reading.long_sheet.Goals as goal

-- the length of the range of bytes that is compared
part : (n : ℕ) → 8 + n - 8 ≡ n
part n = omega arith

pub returns-then-ne : goal.returns-then-ne
returns-then-ne c = λ next used good is.
    let parts = c.long_parts-next.ensures.parts next used good is in
    long_differs c.args.bytes.now c.long_bytes.result c.long_parts-next.result.0 (8 + c.long_parts-next.result.1 - 8) next used c.if-ne.ensures c.long_bytes.ensures parts.0 (part c.long_parts-next.result.1 ∙ parts.1) is
