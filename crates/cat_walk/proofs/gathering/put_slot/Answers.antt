use Rattle.std.proofs.Common.{◌≡◌, ◌||◌, ℕ, List, sym, ap, ◌∙◌}
use Rattle.std.specs.Str.{chars}
use Rattle.std.proofs.lemmas.Result.{IfOk-weaker}
use Rattle.ct_keep.specs.laws.Composing.{reads_hold}
use Rattle.q_tree.specs.declared.flats.PatternBit.{PatternBit}
use Rattle.q_tree.specs.declared.flats.Slot.{Slot}
use Rattle.q_tree.specs.declared.flats.Slot.TheVariants.{Takes}
use Rattle.q_tree.specs.Slots.{has_key, has_pattern, takes}
use Rattle.cat_walk.proofs.GatheredPlaces.{adds_as, adds_then, some_end_is}
use Rattle.cat_walk.proofs.gathering.put_slot.Goals as goal

pub returns-in-Any-clause-places : goal.returns-in-Any-clause-places
returns-in-Any-clause-places g c = λ m told.
    IfOk-weaker c.put_pattern.result _ _
    (λ u adds.
    adds_as m c.args.stem.now _ (λ word. takes c.args.slot.now word) c.args.places.now.items c.put_pattern.new.places.items
    (λ word. ap (λ (s : Slot). takes s word) c.in-Any.is ∙ sym (some_end_is (chars word))) adds)
    (c.put_pattern.ensures.places m told)

-- the words that a slot of keys and patterns takes
takes_as : (s : Slot) (ks js : List (List ℕ)) (ps qs : List (List PatternBit)) → s ≡ Takes js qs → ks ≡ js → ps ≡ qs → (word : List ℕ) → takes s word ≡ (has_key ks word || has_pattern ps word)
takes_as s ks js ps qs is keys patterns word =
    ap (λ (t : Slot). takes t word) is
    ∙ ap (λ (l : List (List ℕ)). has_key l word || has_pattern qs word) (sym keys)
    ∙ ap (λ (l : List (List PatternBit)). has_key ks word || has_pattern l word) (sym patterns)

pub returns-in_ok-put_keys-in-Takes-clause-places : goal.returns-in_ok-put_keys-in-Takes-clause-places
returns-in_ok-put_keys-in-Takes-clause-places g c = λ m told.
    let ks = c.as_slice.result.now in
    let ps = c.as_slice-in-Takes.result.now in
    IfOk-weaker c.put_patterns.result _ _
    (λ u adds.
    adds_as m c.args.stem.now (λ word. has_key ks word || has_pattern ps word) (λ word. takes c.args.slot.now word) c.args.places.now.items c.put_patterns.new.places.items
    (takes_as c.args.slot.now ks _ ps _ c.in-Takes.is c.as_slice.ensures c.as_slice-in-Takes.ensures)
    (adds_then m c.args.stem.now (λ word. has_key ks word) (λ word. has_pattern ps word) c.args.places.now.items c.put_keys.new.places.items c.put_patterns.new.places.items (c.in_ok-put_keys-in-Takes.ensures.places m told) adds))
    (c.put_patterns.ensures.places m (reads_hold _ _ m c.in_ok-put_keys-in-Takes.ensures.reads told))
