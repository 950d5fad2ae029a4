use Rattle.std.proofs.Common.{[], ◌∷◌, ◌++◌, ℤ, ap, ◌∙◌, w64, rules}
use Rattle.std.proofs.lemmas.Int.{to_z-of_z}
use Rattle.db_change.specs.Inserting.{number_value}
use Rattle.db_change.proofs.NewValues.{filter_none, filter_some}
use Rattle.db_change.proofs.inserting.numbers_in.Goals as goal

pub loop-value-preserved-in_default : goal.loop-value-preserved-in_default
loop-value-preserved-in_default c =
    filter_none number_value c.args.values.now c.loop-value.value-index c.value-item.result c.loop-value.numbers.items
    c.loop-value.invariant c.loop-value-test.true c.value-item.is c.in_default.ensures

pub loop-value-preserved : goal.loop-value-preserved
loop-value-preserved c =
    filter_some number_value c.args.values.now c.loop-value.value-index c.value-item.result c.loop-value.numbers.items
    c.loop-value.invariant c.loop-value-test.true c.value-item.is c.in-Some.number c.push.new.self.items c.in-Some.ensures
    (c.in_ok-push.ensures.items ∙ ap (λ (n : ℤ). c.loop-value.numbers.items ++ n ∷ []) (to_z-of_z w64 c.in-Some.number (search rules)))
