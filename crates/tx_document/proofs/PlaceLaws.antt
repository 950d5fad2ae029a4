-- What noting places one by one comes to.
use Rattle.std.proofs.Common.{◌≡◌, ℕ, Bool, true, false, cond, List, [], ◌∷◌, ◌++◌, Option, Some, None, refl, sym, ap, ◌∙◌, append_assoc}
use Rattle.std.specs.Prelude.{bytes_eq, flat_map}
use Rattle.std.proofs.lemmas.List.{append-nil}
use Rattle.std.specs.Ordering.{nat_cmp}
use Rattle.std.specs.Cmp.Lexicographic.{slice_cmp}
use Rattle.std.specs.FinMap.{get, empty, get-empty, get-insert, same_map}
use Rattle.std.proofs.lemmas.Cmp.{nat_list_cmp_total}
use Rattle.std.proofs.lemmas.Map.Lookups.{exact_bytes}
use Rattle.std.proofs.lemmas.Map.Text.{is_eq-slice_cmp}
use Rattle.std.proofs.lemmas.Slice.Eq.{bytes_eq-Decides}
use Rattle.ct_base.specs.declared.numbers.Pair.{Pair}
use Rattle.tx_document.specs.declared.views.WordView.{WordView}
use Rattle.tx_document.specs.Entries.{DocumentPlace, place_map, places_under, word_places}
use Rattle.tx_document.specs.Places.{PlaceMap, had, with_place, with_places, with_word_places}
use Rattle.tx_document.specs.Promises.{if_any}
use Rattle.tx_document.specs.laws.Found.{get-place_map}

with_places_twice : (m : PlaceMap) (xs ys : List DocumentPlace) → with_places m (xs ++ ys) ≡ with_places (with_places m xs) ys
with_places_twice m [] ys = refl
with_places_twice m (x ∷ xs) ys = with_places_twice (with_place m x.0 x.1) xs ys

get-with_place : (m : PlaceMap) (name : List ℕ) (p : Pair) (q : List ℕ) → get (with_place m name p) q ≡ cond (bytes_eq q name) (Some (had (get m name) ++ p ∷ [])) (get m q)
get-with_place m name p q =
    get-insert nat_list_cmp_total m name (had (get m name) ++ p ∷ []) q
    ∙ ap (λ (b : Bool). cond b (Some (had (get m name) ++ p ∷ [])) (get m q)) (is_eq-slice_cmp q name)

-- further places behind those that a name had
abbrev joined : Option (List Pair) → List Pair → Option (List Pair)
joined None ps = if_any ps
joined (Some qs) ps = Some (qs ++ ps)

joined_none : (o : Option (List Pair)) → joined o [] ≡ o
joined_none None = refl
joined_none (Some ps) = ap (λ (l : List Pair). Some l) (append-nil ps)

joined_more : (o : Option (List Pair)) (p : Pair) (ps : List Pair) → joined (Some (had o ++ p ∷ [])) ps ≡ joined o (p ∷ ps)
joined_more None p ps = refl
joined_more (Some qs) p ps = ap (λ (l : List Pair). Some l) (append_assoc qs (p ∷ []) ps)

with_places_at : (xs : List DocumentPlace) (m : PlaceMap) (q : List ℕ) → get (with_places m xs) q ≡ joined (get m q) (places_under q xs)
with_places_at [] m q = sym (joined_none (get m q))
with_places_at (x ∷ xs) m q =
    with_places_at xs (with_place m x.0 x.1) q
    ∙ ap (λ (o : Option (List Pair)). joined o (places_under q xs)) (get-with_place m x.0 x.1 q)
    ∙ here (bytes_eq q x.0) refl
  where
    here : (b : Bool) → bytes_eq q x.0 ≡ b
        → joined (cond b (Some (had (get m x.0) ++ x.1 ∷ [])) (get m q)) (places_under q xs) ≡ joined (get m q) (cond b (x.1 ∷ places_under q xs) (places_under q xs))
    here true is =
        joined_more (get m x.0) x.1 (places_under q xs)
        ∙ ap (λ (k : List ℕ). joined (get m k) (x.1 ∷ places_under q xs)) (sym ((bytes_eq-Decides q x.0).0 is))
    here false is = refl

-- what all places come to
pub with_places-place_map : (xs : List DocumentPlace) → with_places empty xs ≡ place_map xs
with_places-place_map xs = same_map nat_list_cmp_total exact_bytes (with_places empty xs) (place_map xs) (λ q.
    with_places_at xs empty q
    ∙ ap (λ (o : Option (List Pair)). joined o (places_under q xs)) (get-empty (slice_cmp nat_cmp) q)
    ∙ sym (get-place_map xs q))

with_words_places : (m : PlaceMap) (ws : List WordView) → with_word_places m ws ≡ with_places m (flat_map word_places ws)
with_words_places m [] = refl
with_words_places m (w ∷ ws) = with_words_places (with_places m (word_places w)) ws ∙ sym (with_places_twice m (word_places w) (flat_map word_places ws))

-- the places of words, and then those of sections
pub noted : (none words all : PlaceMap) (ws : List WordView) (ys : List DocumentPlace) → none ≡ empty → words ≡ with_word_places none ws → all ≡ with_places words ys → all ≡ place_map (flat_map word_places ws ++ ys)
noted none words all ws ys from first second =
    second ∙ ap (λ (m : PlaceMap). with_places m ys) (first ∙ ap (λ (m : PlaceMap). with_word_places m ws) from ∙ with_words_places empty ws)
    ∙ sym (with_places_twice empty (flat_map word_places ws) ys) ∙ with_places-place_map (flat_map word_places ws ++ ys)
