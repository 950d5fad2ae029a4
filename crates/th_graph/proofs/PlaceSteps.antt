-- What stands at the places that were noted for a term is what all pairs have of it.
use Rattle.std.proofs.Common.{◌≡◌, ℕ, zero, suc, Bool, true, false, cond, List, [], ◌∷◌, ◌++◌, length, Option, Some, None, refl, sym, ap, subst, ◌∙◌, ◌⊎◌, inl, inr}
use Rattle.std.specs.Prelude.{◌&&◌, ◌||◌, ◌==◌}
use Rattle.std.specs.List.{list_any, flat_map, slice_get}
use Rattle.std.specs.Str.{bytes_eq}
use Rattle.std.proofs.lemmas.Bool.{false≢true, and_parts, eq-eqb, eqb-true, or_cases}
use Rattle.std.proofs.lemmas.List.Folds.{list_any-append}
use Rattle.std.proofs.lemmas.Slice.Eq.{bytes_eq-Decides}
use Rattle.ct_base.specs.laws.Bools.{same_tests}
use Rattle.q_tree.specs.declared.queries.Relation.{Relation}
use Rattle.q_tree.specs.declared.queries.Relation.TheVariants.{Syn, Broader, Narrower, Preferred}
use Rattle.th_graph.specs.declared.pairs.PairKind.{PairKind}
use Rattle.th_graph.specs.declared.pairs.PairKind.TheVariants.{Synonyms, ToBroader, ToPreferred}
use Rattle.th_graph.specs.declared.pairs.TermPair.{TermPair}
use Rattle.th_graph.specs.Rising.{is_among_terms}
use Rattle.th_graph.specs.Pairs.{has_term_pair, term_pair, same_kind, same_term_pair}
use Rattle.th_graph.specs.Relating.{has_preferred, prefers}
use Rattle.th_graph.specs.Expansions.{backward, forward, next_of, next_terms}
use Rattle.th_graph.specs.Places.{AreNoted, is_noted, next_at, next_by, passes, passes_at, TermPlaces, noted_places, with_place}
use Rattle.th_graph.proofs.Lists.{among_flat, any_alike, any_from, any_where}

passing : (test : TermPair → Bool) (o : Option TermPair) → passes test o ≡ true → (p : TermPair) × (o ≡ Some p) × (test p ≡ true)
passing test None h = absurd (false≢true h)
passing test (Some p) h = (p, refl, h)

-- where each pair that passes has its place among these, one of these passes exactly where a pair does
pub found_at : (test : TermPair → Bool) (ps : List TermPair) (places : List ℕ) → ((i : ℕ) (p : TermPair) → slice_get ps i ≡ Some p → test p ≡ true → list_any (λ j. j == i) places ≡ true)
    → list_any (passes_at ps test) places ≡ list_any test ps
found_at test ps places noted = same_tests _ _ there back
  where
    there : list_any (passes_at ps test) places ≡ true → list_any test ps ≡ true
    there h =
        let w = any_where (passes_at ps test) places h in
        let at = passing test (slice_get ps w.1.0) w.1.2 in
        any_from test ps w.1.0 at.0 at.1 at.2

    at_place : (i : ℕ) (p : TermPair) → slice_get ps i ≡ Some p → test p ≡ true → (j : ℕ) → (j == i) ≡ true → passes_at ps test j ≡ true
    at_place i p at holds j same = let e : j ≡ i = eqb-true j i same in ap (passes_at ps test) e ∙ ap (passes test) at ∙ holds

    back : list_any test ps ≡ true → list_any (passes_at ps test) places ≡ true
    back h =
        let w = any_where test ps h in
        let n = any_where (λ j. j == w.0) places (noted w.0 w.1.0 w.1.1 w.1.2) in
        any_from (passes_at ps test) places n.0 n.1.0 n.1.1 (at_place w.0 w.1.0 w.1.1 w.1.2 n.1.0 n.1.2)

module _ (ps : List TermPair) (m : TermPlaces) (noted : AreNoted ps m) where
  first_noted : (t : List ℕ) (i : ℕ) (p : TermPair) → slice_get ps i ≡ Some p → bytes_eq t p.first ≡ true → list_any (λ j. j == i) (noted_places t m) ≡ true
  first_noted t i p at same = subst (λ (x : List ℕ). is_noted m x i ≡ true) (sym ((bytes_eq-Decides t p.first).0 same)) (noted i p at).0

  second_noted : (t : List ℕ) (i : ℕ) (p : TermPair) → slice_get ps i ≡ Some p → bytes_eq t p.second ≡ true → list_any (λ j. j == i) (noted_places t m) ≡ true
  second_noted t i p at same = subst (λ (x : List ℕ). is_noted m x i ≡ true) (sym ((bytes_eq-Decides t p.second).0 same)) (noted i p at).1

  -- ---- a pair

  pub pair_by_first : (k : PairKind) (a b : List ℕ) → list_any (passes_at ps (same_term_pair (term_pair k a b))) (noted_places a m) ≡ has_term_pair (term_pair k a b) ps
  pair_by_first k a b = found_at (same_term_pair (term_pair k a b)) ps (noted_places a m)
      (λ i p at same. first_noted a i p at (and_parts (bytes_eq a p.first) (bytes_eq b p.second) (and_parts (same_kind k p.kind) (bytes_eq a p.first && bytes_eq b p.second) same).1).0)

  pub pair_by_second : (k : PairKind) (a b : List ℕ) → list_any (passes_at ps (same_term_pair (term_pair k a b))) (noted_places b m) ≡ has_term_pair (term_pair k a b) ps
  pair_by_second k a b = found_at (same_term_pair (term_pair k a b)) ps (noted_places b m)
      (λ i p at same. second_noted b i p at (and_parts (bytes_eq a p.first) (bytes_eq b p.second) (and_parts (same_kind k p.kind) (bytes_eq a p.first && bytes_eq b p.second) same).1).1)

  pub preferred_by_places : (a : List ℕ) → list_any (passes_at ps (prefers a)) (noted_places a m) ≡ has_preferred a ps
  preferred_by_places a = found_at (prefers a) ps (noted_places a m) (λ i p at is. first_noted a i p at (and_parts (same_kind ToPreferred p.kind) (bytes_eq a p.first) is).1)

  -- ---- what is next

  -- where a test of a kind and of a term gives something, the term passed
  of_test : (k e : Bool) (q x : List ℕ) → is_among_terms q (cond (k && e) (x ∷ []) []) ≡ true → e ≡ true
  of_test true true q x h = refl
  of_test true false q x h = absurd (false≢true h)
  of_test false e q x h = absurd (false≢true h)

  of_forward : (kind : PairKind) (t q : List ℕ) (p : TermPair) → is_among_terms q (forward kind t p) ≡ true → bytes_eq t p.first ≡ true
  of_forward kind t q p h = of_test (same_kind kind p.kind) (bytes_eq t p.first) q p.second h

  of_backward : (kind : PairKind) (t q : List ℕ) (p : TermPair) → is_among_terms q (backward kind t p) ≡ true → bytes_eq t p.second ≡ true
  of_backward kind t q p h = of_test (same_kind kind p.kind) (bytes_eq t p.second) q p.first h

  next_noted : (r : Relation) (t q : List ℕ) (i : ℕ) (p : TermPair) → slice_get ps i ≡ Some p → is_among_terms q (next_of r t p) ≡ true → list_any (λ j. j == i) (noted_places t m) ≡ true
  next_noted Syn t q i p at h = go (or_cases (is_among_terms q (forward Synonyms t p)) (is_among_terms q (backward Synonyms t p)) (sym (list_any-append (bytes_eq q) (forward Synonyms t p) (backward Synonyms t p)) ∙ h))
    where
      go : ((is_among_terms q (forward Synonyms t p) ≡ true) ⊎ (is_among_terms q (backward Synonyms t p) ≡ true)) → list_any (λ j. j == i) (noted_places t m) ≡ true
      go (inl f) = first_noted t i p at (of_forward Synonyms t q p f)
      go (inr f) = second_noted t i p at (of_backward Synonyms t q p f)
  next_noted Broader t q i p at h = first_noted t i p at (of_forward ToBroader t q p h)
  next_noted Narrower t q i p at h = second_noted t i p at (of_backward ToBroader t q p h)
  next_noted Preferred t q i p at h = first_noted t i p at (of_forward ToPreferred t q p h)

  by_test : (r : Relation) (t q : List ℕ) (o : Option TermPair) → is_among_terms q (next_by r t o) ≡ passes (λ p. is_among_terms q (next_of r t p)) o
  by_test r t q None = refl
  by_test r t q (Some p) = refl

  pub next_by_places : (r : Relation) (t q : List ℕ) → is_among_terms q (flat_map (next_at ps r t) (noted_places t m)) ≡ is_among_terms q (next_terms ps r t)
  next_by_places r t q =
      among_flat (next_at ps r t) q (noted_places t m)
      ∙ any_alike (λ i. is_among_terms q (next_at ps r t i)) (passes_at ps (λ p. is_among_terms q (next_of r t p))) (noted_places t m) (λ i. by_test r t q (slice_get ps i))
      ∙ found_at (λ p. is_among_terms q (next_of r t p)) ps (noted_places t m) (λ i p at is. next_noted r t q i p at is)
      ∙ sym (among_flat (next_of r t) q ps)

-- ---- one pair more

noted_more : (old new : TermPlaces) (t : List ℕ) (place : ℕ) → ((q : List ℕ) → noted_places q new ≡ with_place t place old q)
    → (q : List ℕ) (i : ℕ) → is_noted old q i ≡ true → is_noted new q i ≡ true
noted_more old new t place adds q i h = ap (list_any (λ j. j == i)) (adds q) ∙ go (bytes_eq q t)
  where
    go : (b : Bool) → list_any (λ j. j == i) (cond b (noted_places q old ++ place ∷ []) (noted_places q old)) ≡ true
    go true = list_any-append (λ j. j == i) (noted_places q old) (place ∷ []) ∙ ap (λ (b : Bool). b || list_any (λ j. j == i) (place ∷ [])) h
    go false = h

noted_now : (old new : TermPlaces) (t : List ℕ) (place : ℕ) → ((q : List ℕ) → noted_places q new ≡ with_place t place old q) → is_noted new t place ≡ true
noted_now old new t place adds =
    ap (list_any (λ j. j == place)) (adds t ∙ ap (λ (b : Bool). cond b (noted_places t old ++ place ∷ []) (noted_places t old)) ((bytes_eq-Decides t t).1 refl))
    ∙ list_any-append (λ j. j == place) (noted_places t old) (place ∷ [])
    ∙ last (list_any (λ j. j == place) (noted_places t old))
  where
    last : (b : Bool) → (b || ((place == place) || false)) ≡ true
    last true = refl
    last false = ap (λ (b : Bool). b || false) (eq-eqb place place refl)

pub record Notes (old new : TermPlaces) (t : List ℕ) (place : ℕ) : Type 0 where
  pub adds : (q : List ℕ) → noted_places q new ≡ with_place t place old q

-- more places do no harm
pub still_noted : (ps : List TermPair) (old new : TermPlaces) (t : List ℕ) (place : ℕ) → Notes old new t place → AreNoted ps old → AreNoted ps new
still_noted ps old new t place notes noted = λ i p at. (noted_more old new t place notes.adds p.first i (noted i p at).0, noted_more old new t place notes.adds p.second i (noted i p at).1)

pub same_noted : (ps : List TermPair) (old new : TermPlaces) → ((q : List ℕ) → noted_places q new ≡ noted_places q old) → AreNoted ps old → AreNoted ps new
same_noted ps old new same noted = λ i p at. (ap (list_any (λ j. j == i)) (same p.first) ∙ (noted i p at).0, ap (list_any (λ j. j == i)) (same p.second) ∙ (noted i p at).1)

-- the last of a list, or one of the others
at_end : (ps : List TermPair) (x p : TermPair) (i : ℕ) → slice_get (ps ++ x ∷ []) i ≡ Some p → (slice_get ps i ≡ Some p) ⊎ ((i ≡ length ps) × (x ≡ p))
at_end [] x p zero at = inr (refl, cc)
at_end [] x p (suc i) at = let wrong : None ≡ Some p = at in cc
at_end (y ∷ ps) x p zero at = inl at
at_end (y ∷ ps) x p (suc i) at = go (at_end ps x p i at)
  where
    go : ((slice_get ps i ≡ Some p) ⊎ ((i ≡ length ps) × (x ≡ p))) → (slice_get (y ∷ ps) (suc i) ≡ Some p) ⊎ ((suc i ≡ length (y ∷ ps)) × (x ≡ p))
    go (inl at) = inl at
    go (inr last) = inr (ap suc last.0, last.1)

pub one_more : (ps : List TermPair) (x : TermPair) (old mid new : TermPlaces) → Notes old mid x.first (length ps) → Notes mid new x.second (length ps) → AreNoted ps old → AreNoted (ps ++ x ∷ []) new
one_more ps x old mid new first second noted = λ i p at. go i p (at_end ps x p i at)
  where
    go : (i : ℕ) (p : TermPair) → ((slice_get ps i ≡ Some p) ⊎ ((i ≡ length ps) × (x ≡ p))) → (is_noted new p.first i ≡ true) × (is_noted new p.second i ≡ true)
    go i p (inl at) = still_noted ps mid new x.second (length ps) second (still_noted ps old mid x.first (length ps) first noted) i p at
    go i p (inr last) = subst (λ (y : TermPair). (is_noted new y.first i ≡ true) × (is_noted new y.second i ≡ true)) last.1
        (subst (λ (k : ℕ). (is_noted new x.first k ≡ true) × (is_noted new x.second k ≡ true)) (sym last.0)
        (noted_more mid new x.second (length ps) second.adds x.first (length ps) (noted_now old mid x.first (length ps) first.adds), noted_now mid new x.second (length ps) second.adds))
