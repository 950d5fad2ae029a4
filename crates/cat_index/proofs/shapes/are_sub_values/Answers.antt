use Rattle.std.proofs.Common.{length, eqb-true, sym, ◌∙◌}
use Rattle.cat_index.proofs.ShapeSteps.{no_values, not_none}
use Rattle.cat_index.proofs.shapes.are_sub_values.Goals as goal

pub returns-then-is_empty : goal.returns-then-is_empty
returns-then-is_empty c =
    no_values c.args.sub c.args.values.now (not_none c.args.sub c.if-sub-eq0.false) (eqb-true (length c.args.values.now) 0 (sym c.is_empty-2.ensures ∙ c.if-is_empty.true))
