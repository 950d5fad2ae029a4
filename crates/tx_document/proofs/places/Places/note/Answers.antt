use Rattle.std.proofs.Common.{◌≡◌, ◌∷◌, ℕ, List, Some, None, Vec, sym, ap, ◌∙◌}
use Rattle.std.specs.declared.alloc.Global.{Global}
use Rattle.std.specs.Ordering.{nat_cmp}
use Rattle.std.specs.Cmp.Lexicographic.{slice_cmp}
use Rattle.std.specs.Map.{lookup, set_value}
use Rattle.std.specs.BTreeMap.{BTreeMap, insert_entry, is_at}
use Rattle.ct_base.specs.declared.numbers.Pair.{Pair}
use Rattle.ct_base.specs.laws.Results.{on_ok}
use Rattle.tx_document.proofs.SeenMaps.{place_there, place_new}
use Rattle.tx_document.proofs.places.Places.note.Goals as goal

pub returns-in-Some : goal.returns-in-Some
returns-in-Some c =
    let name = c.args.stream ∷ c.args.token.now in
    let old = c.self.inside.entries.entries in
    let new = (c.get_mut.follows.lender c.add_place.new.others).entries in
    let written = c.get_mut.follows.holds c.add_place.new.others in
    let found : lookup (is_at (λ x. slice_cmp nat_cmp name x)) old ≡ Some c.in-Some.places.now =
    ap (λ (n : List ℕ). lookup (is_at (λ x. slice_cmp nat_cmp n x)) old) (sym c.in_ok-set.ensures) ∙ sym c.in-Some.ensures.value in
    let is : new ≡ set_value (is_at (λ x. slice_cmp nat_cmp name x)) old c.add_place.new.others =
    written.0 ∙ ap (λ (n : List ℕ). set_value (is_at (λ x. slice_cmp nat_cmp n x)) old c.add_place.new.others) c.in_ok-set.ensures in
    on_ok c.add_place.result _ _ (λ more.
    place_there old new name c.in-Some.places.now c.add_place.new.others c.args.self.now c.args.place c.self.invariant written.4 c.self.view_is found is more)
    c.add_place.ensures

pub returns-in_ok-insert-in-None : goal.returns-in_ok-insert-in-None
returns-in_ok-insert-in-None c =
    let name = c.args.stream ∷ c.args.token.now in
    let old = c.self.inside.entries.entries in
    let key = c.in_ok-of-in-None.field-0 in
    let places = c.in_ok-places-in-None in
    let found : lookup (is_at (λ x. slice_cmp nat_cmp name x)) old ≡ None =
    ap (λ (n : List ℕ). lookup (is_at (λ x. slice_cmp nat_cmp n x)) old) (sym c.in_ok-set.ensures) ∙ sym c.in-None.ensures.value in
    let is = c.in_ok-insert-in-None.ensures.entries
    ∙ ap (λ (m : BTreeMap (List ℕ) (Vec Pair Global)). insert_entry (slice_cmp nat_cmp) m.entries key places.places) c.get_mut.follows.holds-at-none in
    place_new old c.insert.new.self.entries key name places.places c.args.self.now c.args.place
    c.self.invariant c.in_ok-insert-in-None.ensures.ordered c.self.view_is found c.in_ok-of-in-None.ensures is places.ensures
