use Rattle.std.proofs.Common.{Some, None, sym, ap, ◌∙◌}
use Rattle.std.proofs.lemmas.Bool.{false≢true}
use Rattle.tx_sets.specs.Sets.{are_sub_indexes}
use Rattle.db_state.specs.laws.Holding.{holds_preferences}
use Rattle.db_index.proofs.AskSteps.{meant_is, set_within}
use Rattle.db_index.proofs.asking.set_meant.Goals as goal

pub returns-in_default-2-clause-set : goal.returns-in_default-2-clause-set
returns-in_default-2-clause-set g c = λ m k holds stands.
    meant_is m.preferences.sets c.args.name.now c.in-Some.name None c.in-Some.is (rw c.in_default-2.is at (c.in_ok-set.ensures.set k holds m.preferences (holds_preferences k m stands)))

pub returns-then-not-are_sub_indexes-clause-set : goal.returns-then-not-are_sub_indexes-clause-set
returns-then-not-are_sub_indexes-clause-set g c = λ m k holds stands.
    let within = set_within m.preferences.sets c.in-Some.name c.in-Some-2.set.items stands.state.preferences.sets
    (rw c.in-Some-2.is at (c.in_ok-set.ensures.set k holds m.preferences (holds_preferences k m stands))) in
    absurd (false≢true (sym c.if-not-are_sub_indexes.true ∙ c.are_sub_indexes.ensures ∙ ap are_sub_indexes c.deref.ensures.value ∙ within))

pub returns-clause-set : goal.returns-clause-set
returns-clause-set g c = λ m k holds stands.
    ap Some c.of.ensures ∙ meant_is m.preferences.sets c.args.name.now c.in-Some.name (Some c.in-Some-2.set.items) c.in-Some.is
    (rw c.in-Some-2.is at (c.in_ok-set.ensures.set k holds m.preferences (holds_preferences k m stands)))
