use Rattle.std.specs.List.{filter_map}
use Rattle.db_select.proofs.FieldSteps.{one_present}
use Rattle.db_select.proofs.fields.present.Goals as goal

pub loop-value-preserved : goal.loop-value-preserved
loop-value-preserved c =
    one_present c.loop-value.value-iterator.rest.items c.next.new.self.rest.items c.in-Some.value c.loop-value.fields.items c.push_some.new.fields.items (filter_map (λ o. o) c.args.values.items)
    c.in-Some.ensures.steps.0 c.in_ok-push_some.ensures c.loop-value.invariant
