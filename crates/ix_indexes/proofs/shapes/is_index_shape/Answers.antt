use Rattle.ix_indexes.proofs.ShapeSteps.{third_shape, not_shaped}
use Rattle.ix_indexes.proofs.shapes.is_index_shape.Goals as goal

pub returns : goal.returns
returns c =
    third_shape c.args.kind c.args.part.now c.args.value.now c.is_rule_shape.result
    (not_shaped c.in_ok-is_context_shape.field-0 c.if-branch.false c.in_ok-is_context_shape.ensures) (not_shaped c.in_ok-is_catalogue_shape.field-0 c.if-branch-2.false c.in_ok-is_catalogue_shape.ensures) c.is_rule_shape.ensures
