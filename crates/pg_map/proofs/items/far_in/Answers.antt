use Rattle.std.proofs.Common.{arith, ◌∙◌}
use Rattle.pg_map.proofs.StringEnds.{far_numbers}
use Rattle.pg_map.proofs.items.far_in.Goals as goal

pub returns : goal.returns
returns c = λ item good is. let two = far_numbers c.args.string.now item good is (λ e. omega (arith, e, c.if-string-eq0.false)) in (c.number_at.ensures ∙ two.0, c.number_at-2.ensures ∙ two.1)
