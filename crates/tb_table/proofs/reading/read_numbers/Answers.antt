use Rattle.std.proofs.Common.{rules, ◌+◌, length, refl, FitsSigned, w64}
use Rattle.std.proofs.lemmas.Int.{to_z-of_z}
use Rattle.tb_table.proofs.NumberSteps.{too_few, more_read, some_left}
use Rattle.tb_table.proofs.reading.read_numbers.Goals as goal

pub numbers-preserved : goal.numbers-preserved
numbers-preserved c =
    let fits : FitsSigned w64 c.in-Some.number.0 = search rules in
    rw (c.in_ok-push.ensures.items, to_z-of_z w64 c.in-Some.number.0 fits)
    (more_read c.args.bytes.now c.numbers.at c.numbers.numbers.items c.in-Some.number.0 c.numbers.invariant fits c.in-Some.ensures.some (c.in-Some.ensures.enough.0 refl))

pub returns-else-at-bytes : goal.returns-else-at-bytes
returns-else-at-bytes c =
    some_left c.args.bytes.now c.numbers.at c.numbers.numbers.items c.numbers.invariant (too_few (c.numbers.at + 8) (length c.args.bytes.now) c.in_default.ensures.enough.1) c.if-at-bytes.false
