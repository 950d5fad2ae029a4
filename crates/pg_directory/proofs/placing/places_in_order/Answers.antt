use Rattle.std.proofs.Common.{sym, ap, subst, ◌∙◌, List}
use Rattle.pg_directory.specs.declared.placing.KeyPlace.{KeyPlace}
use Rattle.pg_directory.specs.OpenStore.{ArePlaces}
use Rattle.pg_directory.specs.Placing.{keys_kept, places_kept, rise_in_turn}
use Rattle.pg_directory.proofs.Placings.{are_in_order, key_twice}
use Rattle.pg_directory.proofs.placing.places_in_order.Goals as goal

pub returns-then-not-are_rising-clause-places : goal.returns-then-not-are_rising-clause-places
returns-then-not-are_rising-clause-places g c = λ top pages holds are.
    key_twice pages c.in-Ok.keys.items c.sort_keys.new.keys.items (c.in-Ok.ensures.keys top pages holds are) c.sort_keys.ensures.permutation c.sort_keys.ensures.sorted
    (ap (λ (l : List KeyPlace). rise_in_turn (keys_kept l)) (sym c.deref.ensures.value) ∙ sym c.are_rising.ensures ∙ c.if-not-are_rising.true)

pub returns-clause-places : goal.returns-clause-places
returns-clause-places g c = λ top pages holds are.
    subst (ArePlaces pages) (sym (c.in-Ok-places_of.ensures ∙ ap places_kept c.deref-2.ensures.value))
    (are_in_order pages c.in-Ok.keys.items c.sort_keys.new.keys.items (c.in-Ok.ensures.keys top pages holds are) c.sort_keys.ensures.permutation
    (ap (λ (l : List KeyPlace). rise_in_turn (keys_kept l)) (sym c.deref.ensures.value) ∙ sym c.are_rising.ensures ∙ c.if-not-are_rising.false))
