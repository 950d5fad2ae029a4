use Rattle.std.proofs.Common.{◌≡◌, sym, ◌∙◌, arith, rules}
use Rattle.ix_rows.specs.FirstBytes.{key_number}
use Rattle.ix_rows.specs.laws.FirstBytes.{number_greater, number_less, number_same}
use Rattle.ix_rows.proofs.term_keys.numbered_cmp.Goals as goal

pub returns-then-number-other : goal.returns-then-number-other
returns-then-number-other c =
    sym (number_less c.args.bytes.now c.args.others.now (search rules) (search rules) (omega (arith, c.if-number-other.true, c.requires.first, c.requires.second)))

pub returns-then-other-number : goal.returns-then-other-number
returns-then-other-number c =
    sym (number_greater c.args.bytes.now c.args.others.now (search rules) (search rules) (omega (arith, c.if-other-number.true, c.requires.first, c.requires.second)))

pub returns-then-others-le-NUMBERED : goal.returns-then-others-le-NUMBERED
returns-then-others-le-NUMBERED c =
    let same : key_number c.args.bytes.now ≡ key_number c.args.others.now =
    omega (arith, c.if-number-other.false, c.if-other-number.false, c.requires.first, c.requires.second) in
    c.cmp.ensures
    ∙ sym (number_same c.args.bytes.now c.args.others.now (search rules) (search rules) c.if-bytes-le-NUMBERED.true c.if-others-le-NUMBERED.true same)
