-- Which pairs of a thesaurus have a term, by their places in the list.
use Rattle.std.specs.Prelude.{ℕ, ◌≡◌, ◌==◌, Bool, true, false, List, [], ◌∷◌, ◌++◌, Option, Some, None, String, Vec, bytes_eq, codes, refl}
use Rattle.std.specs.Bool.{if◌then◌else◌}
use Rattle.std.specs.List.{list_any, slice_get}
use Rattle.std.specs.Option.{option_map_or}
use Rattle.std.specs.declared.alloc.Global.{Global}
use Rattle.std.specs.BTreeMap.{BTreeMap, get_by_text}
use Rattle.q_tree.specs.declared.queries.Relation.{Relation}
use Rattle.th_graph.specs.declared.pairs.TermPair.{TermPair}
use Rattle.th_graph.specs.Expansions.{next_of}

-- the places by the terms
abbrev pub TermPlaces : Type 0
TermPlaces = BTreeMap (String Global) (Vec ℕ Global)

-- the places that were noted for a term
abbrev pub noted_places : List ℕ → TermPlaces → List ℕ
noted_places term m = option_map_or (λ v. v.items) (get_by_text m term) []

abbrev pub is_noted : TermPlaces → List ℕ → ℕ → Bool
is_noted m term place = list_any (λ j. j == place) (noted_places term m)

-- those of each term, after a place more was noted for one of them
abbrev pub with_place : List ℕ → ℕ → TermPlaces → List ℕ → List ℕ
with_place term place m t = if bytes_eq t term then noted_places t m ++ place ∷ [] else noted_places t m

-- Each pair is noted for both of its terms. What is noted beside does no harm, since a place is looked at before it is believed.
abbrev pub AreNoted : List TermPair → TermPlaces → Type 0
AreNoted ps m = (i : ℕ) (p : TermPair) → slice_get ps i ≡ Some p → (is_noted m p.first i ≡ true) × (is_noted m p.second i ≡ true)

-- whether a pair stands at a place and passes a test
abbrev pub passes : (TermPair → Bool) → Option TermPair → Bool
passes test None = false
passes test (Some p) = test p

abbrev pub passes_at : List TermPair → (TermPair → Bool) → ℕ → Bool
passes_at ps test i = passes test (slice_get ps i)

-- where the pair at a place leads from a term, if one stands there
abbrev pub next_by : Relation → List ℕ → Option TermPair → List (List ℕ)
next_by relation term None = []
next_by relation term (Some p) = next_of relation term p

abbrev pub next_at : List TermPair → Relation → List ℕ → ℕ → List (List ℕ)
next_at ps relation term i = next_by relation term (slice_get ps i)

-- ---- computed examples

-- a place more for `dog` is none for `cat`
for_dog : (m : TermPlaces) → with_place (codes "dog") 3 m (codes "dog") ≡ noted_places (codes "dog") m ++ 3 ∷ []
for_dog m = refl

not_for_cat : (m : TermPlaces) → with_place (codes "dog") 3 m (codes "cat") ≡ noted_places (codes "cat") m
not_for_cat m = refl

-- no pair stands behind the last
none_behind : (p : TermPair) → passes_at (p ∷ []) (λ _. true) 1 ≡ false
none_behind p = refl
