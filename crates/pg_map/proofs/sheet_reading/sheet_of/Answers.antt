use Rattle.std.proofs.Common.{refl}
use Rattle.std.proofs.lemmas.Result.{IfOk-weaker}
use Rattle.std.specs.Option.{option_map}
use Rattle.pg_map.specs.Sheets.{sheet_kind}
use Rattle.pg_map.proofs.SheetReads.{free_or, slotted_or, long_or, other_first}
use Rattle.pg_map.proofs.sheet_reading.sheet_of.Goals as goal

pub returns-then-kind-eq0 : goal.returns-then-kind-eq0
returns-then-kind-eq0 c = free_or _ c.args.bytes.now _ refl c.if-kind-eq0.true c.free_sheet.ensures

pub returns-then-kind-eq1 : goal.returns-then-kind-eq1
returns-then-kind-eq1 c = slotted_or _ c.args.bytes.now _ refl c.if-kind-eq1.true c.slotted_sheet.ensures

pub returns-then-kind-eq2 : goal.returns-then-kind-eq2
returns-then-kind-eq2 c =
    IfOk-weaker c.long_sheet.result _ _ (λ found is. long_or (option_map sheet_kind found) c.args.bytes.now _ refl c.if-kind-eq2.true is) c.long_sheet.ensures

pub returns : goal.returns
returns c = other_first c.args.bytes.now _ refl c.if-kind-eq0.false c.if-kind-eq1.false c.if-kind-eq2.false
