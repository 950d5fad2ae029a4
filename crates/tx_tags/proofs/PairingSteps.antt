-- Tags taken from the last one to the first.
use Rattle.std.proofs.Common.{◌≡◌, ◌+◌, ◌<◌, ◌≤◌, ℕ, Bool, true, false, List, [], ◌∷◌, length, map, drop, get_or, slice_set, sym, subst, refl, ap, ◌∙◌, arith, inl, inr}
use Rattle.std.specs.Prelude.{◌==◌}
use Rattle.std.proofs.lemmas.Bool.{eqb-true, cases_eq}
use Rattle.std.proofs.lemmas.List.{drop_more, get_or-map, get_or-set_same, get_or-set_other}
use Rattle.tx_tags.specs.declared.tags.TagView.{TagView}
use Rattle.tx_tags.specs.declared.pairing.Pairing.{Pairing}
use Rattle.tx_tags.specs.declared.pairing.Span.{Span}
use Rattle.tx_tags.specs.Stacks.{IsPairing, Takes, found_of}
use Rattle.tx_tags.specs.laws.Stacks.{takes_tag, passes_tag}

pub one_more : (tags : List TagView) (i at : ℕ) (t : TagView) → i + 1 ≡ at → at ≤ length tags → t ≡ get_or tags i t → drop i tags ≡ t ∷ drop at tags
one_more tags i at t next within is = drop_more tags i t (omega (arith, next, within)) ∙ ap (λ x. x ∷ drop (i + 1) tags) (sym is) ∙ ap (λ n. t ∷ drop n tags) next

differs : (a b : ℕ) → (a ≡ b → ⊥) → (a == b) ≡ false
differs a b h = go (a == b) refl
  where
    go : (t : Bool) → (a == b) ≡ t → t ≡ false
    go true e = absurd (h (eqb-true a b e))
    go false e = refl

-- of many pairings the one with the tag's number takes it
pub all_take : (count end : ℕ) (ps : List Pairing) (t : TagView) (ts : List TagView) (old new : Pairing) → length ps ≡ count → t.tag < count → old ≡ get_or ps t.tag old → Takes end t old new
    → ((k : ℕ) (d : Pairing) → k < count → IsPairing k end ts (get_or ps k d)) → (k : ℕ) (d : Pairing) → k < count → IsPairing k end (t ∷ ts) (get_or (slice_set ps t.tag new) k d)
all_take count end ps t ts old new long within is by so_far k d few = elim (cases_eq t.tag k) [
  | inl same ↦
      subst (λ (p : Pairing). IsPairing k end (t ∷ ts) p) (sym (ap (λ n. get_or (slice_set ps t.tag new) n d) (sym same) ∙ get_or-set_same ps t.tag new d (omega (arith, long, within))))
      (takes_tag k end t ts old new same by (subst (λ (p : Pairing). IsPairing k end ts p) (ap (λ n. get_or ps n old) (sym same) ∙ sym is) (so_far k old few)))
  | inr other ↦
      subst (λ (p : Pairing). IsPairing k end (t ∷ ts) p) (sym (get_or-set_other ps t.tag k new d (λ same. other (sym same))))
      (passes_tag k end t ts (get_or ps k d) (differs t.tag k other) (so_far k d few))
]

pub all_pass : (count end : ℕ) (ps : List Pairing) (t : TagView) (ts : List TagView) → count ≤ t.tag → ((k : ℕ) (d : Pairing) → k < count → IsPairing k end ts (get_or ps k d))
    → (k : ℕ) (d : Pairing) → k < count → IsPairing k end (t ∷ ts) (get_or ps k d)
all_pass count end ps t ts beyond so_far k d few = passes_tag k end t ts (get_or ps k d) (differs t.tag k (λ same. absurd (omega (arith, same, beyond, few)))) (so_far k d few)

-- what a list of pairings found
pub found_at : (ps : List Pairing) (k : ℕ) (want : List Span) → k < length ps → ((d : Pairing) → found_of (get_or ps k d) ≡ want) → get_or (map found_of ps) k [] ≡ want
found_at [] k want within is = absurd (omega (arith, within))
found_at (p ∷ ps) k want within is = get_or-map found_of (p ∷ ps) k p [] within ∙ is p
