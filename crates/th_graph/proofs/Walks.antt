-- What is computed as the terms within some steps is what walks of so many steps reach.
use Rattle.std.proofs.Common.{◌≡◌, ◌+◌, ◌*◌, ◌<◌, ◌≤◌, ◌-◌, ℕ, zero, suc, Bool, true, false, cond, List, [], ◌∷◌, length, refl, sym, ap, subst, ◌∙◌, arith, ◌⊎◌, inl, inr}
use Rattle.std.specs.Prelude.{◌&&◌, ◌||◌}
use Rattle.std.specs.List.{flat_map, AllByRecursion, IsDistinct}
use Rattle.std.specs.Str.{bytes_eq}
use Rattle.std.proofs.lemmas.Bool.{false≢true, or_parts, or_cases, or_left, or_right}
use Rattle.std.proofs.lemmas.List.Folds.{list_any-append}
use Rattle.std.proofs.lemmas.Cmp.{nat_list_eq_equiv}
use Rattle.std.proofs.lemmas.Map.Made.{length-le_from_is_member}
use Rattle.std.proofs.lemmas.Slice.Eq.{bytes_eq-Decides}
use Rattle.ct_base.specs.laws.Bools.{or_false}
use Rattle.q_tree.specs.declared.queries.Relation.{Relation}
use Rattle.q_tree.specs.declared.queries.Relation.TheVariants.{Syn, Broader, Narrower, Preferred}
use Rattle.th_graph.specs.declared.pairs.PairKind.{PairKind}
use Rattle.th_graph.specs.declared.pairs.PairKind.TheVariants.{Synonyms, ToBroader, ToPreferred}
use Rattle.th_graph.specs.declared.pairs.TermPair.{TermPair}
use Rattle.th_graph.specs.Rising.{is_among_terms, rise}
use Rattle.th_graph.specs.laws.Rising.{among_with_terms, with_terms_rise, with_terms_grow, with_terms_length, first_once, rest_rises}
use Rattle.th_graph.specs.Pairs.{term_pair, same_kind, same_term_pair}
use Rattle.th_graph.specs.Expansions.{backward, step_limit, forward, is_step_of, IsWalk, next_of, next_terms, widened, terms_within}
use Rattle.th_graph.proofs.Lists.{among_flat, among_one, any_alike, any_either, one_among}

-- ---- one pair

pub among_forward : (kind : PairKind) (t q : List ℕ) (p : TermPair) → is_among_terms q (forward kind t p) ≡ same_term_pair (term_pair kind t q) p
among_forward kind t q p = go (same_kind kind p.kind) (bytes_eq t p.first)
  where
    go : (k e : Bool) → is_among_terms q (cond (k && e) (p.second ∷ []) []) ≡ (k && (e && bytes_eq q p.second))
    go true true = or_false (bytes_eq q p.second)
    go true false = refl
    go false e = refl

pub among_backward : (kind : PairKind) (t q : List ℕ) (p : TermPair) → is_among_terms q (backward kind t p) ≡ same_term_pair (term_pair kind q t) p
among_backward kind t q p = go (same_kind kind p.kind) (bytes_eq t p.second)
  where
    alone : (s : Bool) → (s || false) ≡ (s && true)
    alone true = refl
    alone false = refl

    none : (s : Bool) → false ≡ (s && false)
    none true = refl
    none false = refl

    go : (k e : Bool) → is_among_terms q (cond (k && e) (p.first ∷ []) []) ≡ (k && (bytes_eq q p.first && e))
    go true true = alone (bytes_eq q p.first)
    go true false = none (bytes_eq q p.first)
    go false e = refl

-- what is next is one step away
pub next_is_step : (ps : List TermPair) (r : Relation) (t q : List ℕ) → is_among_terms q (next_terms ps r t) ≡ is_step_of ps r t q
next_is_step ps Syn t q =
    among_flat (next_of Syn t) q ps
    ∙ any_alike (λ (p : TermPair). is_among_terms q (next_of Syn t p)) (λ p. same_term_pair (term_pair Synonyms t q) p || same_term_pair (term_pair Synonyms q t) p) ps
    (λ p. list_any-append (bytes_eq q) (forward Synonyms t p) (backward Synonyms t p)
    ∙ ap (λ (b : Bool). b || is_among_terms q (backward Synonyms t p)) (among_forward Synonyms t q p)
    ∙ ap (λ (b : Bool). same_term_pair (term_pair Synonyms t q) p || b) (among_backward Synonyms t q p))
    ∙ any_either (same_term_pair (term_pair Synonyms t q)) (same_term_pair (term_pair Synonyms q t)) ps
next_is_step ps Broader t q = among_flat (next_of Broader t) q ps ∙ any_alike (λ (p : TermPair). is_among_terms q (next_of Broader t p)) (same_term_pair (term_pair ToBroader t q)) ps (among_forward ToBroader t q)
next_is_step ps Narrower t q = among_flat (next_of Narrower t) q ps ∙ any_alike (λ (p : TermPair). is_among_terms q (next_of Narrower t p)) (same_term_pair (term_pair ToBroader q t)) ps (among_backward ToBroader t q)
next_is_step ps Preferred t q = among_flat (next_of Preferred t) q ps ∙ any_alike (λ (p : TermPair). is_among_terms q (next_of Preferred t p)) (same_term_pair (term_pair ToPreferred t q)) ps (among_forward ToPreferred t q)

module _ (ps : List TermPair) (r : Relation) where
  abbrev pub nexts : List (List ℕ) → List (List ℕ)
  nexts ts = flat_map (next_terms ps r) ts

  -- what is next to one of them
  pub next_to : (ts : List (List ℕ)) (c b : List ℕ) → is_among_terms c ts ≡ true → is_among_terms b (next_terms ps r c) ≡ true → is_among_terms b (nexts ts) ≡ true
  next_to ts c b there step = among_flat (next_terms ps r) b ts ∙ among_one (λ x. is_among_terms b (next_terms ps r x)) c ts there step

  pub next_from : (ts : List (List ℕ)) (b : List ℕ) → is_among_terms b (nexts ts) ≡ true → (c : List ℕ) × (is_among_terms c ts ≡ true) × (is_among_terms b (next_terms ps r c) ≡ true)
  next_from ts b h = one_among (λ x. is_among_terms b (next_terms ps r x)) ts (sym (among_flat (next_terms ps r) b ts) ∙ h)

  -- what was found stays, and what is next is found
  pub widened_keeps : (ts : List (List ℕ)) (b : List ℕ) → is_among_terms b ts ≡ true → is_among_terms b (widened ps r ts) ≡ true
  widened_keeps ts b h = among_with_terms b ts (nexts ts) ∙ or_right (is_among_terms b (nexts ts)) (is_among_terms b ts) h

  pub widened_adds : (ts : List (List ℕ)) (c b : List ℕ) → is_among_terms c ts ≡ true → is_among_terms b (next_terms ps r c) ≡ true → is_among_terms b (widened ps r ts) ≡ true
  widened_adds ts c b there step = among_with_terms b ts (nexts ts) ∙ or_left (is_among_terms b (nexts ts)) (is_among_terms b ts) (next_to ts c b there step)

  module _ (a : List ℕ) where
    pub within_zero : terms_within ps r 0 a ≡ a ∷ []
    unfolding terms_within
    within_zero = refl

    pub within_next : (n : ℕ) → terms_within ps r (suc n) a ≡ widened ps r (terms_within ps r n a)
    unfolding terms_within
    within_next n = refl

    pub within_rises : (n : ℕ) → rise (terms_within ps r n a) ≡ true
    within_rises zero = ap rise within_zero
    within_rises (suc n) = ap rise (within_next n) ∙ with_terms_rise (terms_within ps r n a) (nexts (terms_within ps r n a)) (within_rises n)

    -- ---- walks

    pub start_within : (n : ℕ) → is_among_terms a (terms_within ps r n a) ≡ true
    start_within zero = ap (is_among_terms a) within_zero ∙ or_left (bytes_eq a a) false ((bytes_eq-Decides a a).1 refl)
    start_within (suc n) = ap (is_among_terms a) (within_next n) ∙ widened_keeps (terms_within ps r n a) a (start_within n)

    pub walk_found : (m n : ℕ) (b : List ℕ) → m ≤ n → IsWalk ps r m a b → is_among_terms b (terms_within ps r n a) ≡ true
    walk_found zero n b few walk = subst (λ (x : List ℕ). is_among_terms x (terms_within ps r n a) ≡ true) walk (start_within n)
    walk_found (suc m) zero b few walk = absurd (omega (arith, few))
    walk_found (suc m) (suc n) b few walk =
        ap (is_among_terms b) (within_next n)
        ∙ widened_adds (terms_within ps r n a) walk.0 b (walk_found m n walk.0 (omega (arith, few)) walk.1) (next_is_step ps r walk.0 b ∙ walk.2)

    pub found_walk : (n : ℕ) (b : List ℕ) → is_among_terms b (terms_within ps r n a) ≡ true → (m : ℕ) × (m ≤ n) × IsWalk ps r m a b
    found_walk zero b h =
        let same : bytes_eq b a ≡ true = sym (or_false (bytes_eq b a)) ∙ sym (ap (is_among_terms b) within_zero) ∙ h in
        (0, omega arith, sym ((bytes_eq-Decides b a).0 same))
    found_walk (suc n) b h = go (found_walk n) (or_cases (is_among_terms b (nexts W)) (is_among_terms b W) (sym (among_with_terms b W (nexts W)) ∙ sym (ap (is_among_terms b) (within_next n)) ∙ h))
      where
        W : List (List ℕ)
        W = terms_within ps r n a

        go : ((c : List ℕ) → is_among_terms c W ≡ true → (m : ℕ) × (m ≤ n) × IsWalk ps r m a c) → ((is_among_terms b (nexts W) ≡ true) ⊎ (is_among_terms b W ≡ true)) → (m : ℕ) × (m ≤ suc n) × IsWalk ps r m a b
        go earlier (inl next) =
            let c = next_from W b next in
            let before = earlier c.0 c.1 in
            (suc before.0, (let l = before.1 in omega (arith, l)), (c.0, before.2, sym (next_is_step ps r c.0 b) ∙ c.2))
        go earlier (inr there) = let w = earlier b there in (w.0, (let l = w.1 in omega (arith, l)), w.2)

    -- ---- once no step leads further, none does later

    pub stays : (n : ℕ) → widened ps r (terms_within ps r n a) ≡ terms_within ps r n a → (j : ℕ) → terms_within ps r (j + n) a ≡ terms_within ps r n a
    stays n closed zero = let e : 0 + n ≡ n = omega arith in ap (λ (k : ℕ). terms_within ps r k a) e
    stays n closed (suc j) =
        let e : suc j + n ≡ suc (j + n) = omega arith in
        ap (λ (k : ℕ). terms_within ps r k a) e ∙ within_next (j + n) ∙ ap (widened ps r) (stays n closed j) ∙ closed

    pub closed_later : (n m : ℕ) → widened ps r (terms_within ps r n a) ≡ terms_within ps r n a → n ≤ m → terms_within ps r m a ≡ terms_within ps r n a
    closed_later n m closed le = let e : m ≡ (m - n) + n = omega (arith, le) in ap (λ (k : ℕ). terms_within ps r k a) e ∙ stays n closed (m - n)

    pub grows : (n : ℕ) → (widened ps r (terms_within ps r n a) ≡ terms_within ps r n a) ⊎ (n + 1 ≤ length (terms_within ps r n a))
    grows zero = inr (let l = ap length within_zero in omega (arith, l))
    grows (suc n) = go (grows n) (with_terms_grow (terms_within ps r n a) (nexts (terms_within ps r n a)))
      where
        W : List (List ℕ)
        W = terms_within ps r n a

        closed : widened ps r W ≡ W → widened ps r (terms_within ps r (suc n) a) ≡ terms_within ps r (suc n) a
        closed same = ap (widened ps r) (within_next n) ∙ ap (widened ps r) same ∙ sym (within_next n)

        go : ((widened ps r W ≡ W) ⊎ (n + 1 ≤ length W)) → ((widened ps r W ≡ W) ⊎ (length W < length (widened ps r W)))
            → (widened ps r (terms_within ps r (suc n) a) ≡ terms_within ps r (suc n) a) ⊎ (suc n + 1 ≤ length (terms_within ps r (suc n) a))
        go (inl same) more = inl (closed same)
        go (inr long) (inl same) = inl (closed same)
        go (inr long) (inr more) = inr (let l = ap length (within_next n) in omega (arith, l, long, more))

    longer_by : (n j : ℕ) → length (terms_within ps r n a) ≤ length (terms_within ps r (j + n) a)
    longer_by n zero = let e : 0 + n ≡ n = omega arith in let l = ap (λ (k : ℕ). length (terms_within ps r k a)) e in omega (arith, l)
    longer_by n (suc j) =
        let e : suc j + n ≡ suc (j + n) = omega arith in
        let l = ap (λ (k : ℕ). length (terms_within ps r k a)) e in
        let next = ap length (within_next (j + n)) in
        let rest = longer_by n j in
        let more = with_terms_length (terms_within ps r (j + n) a) (nexts (terms_within ps r (j + n) a)) in
        omega (arith, l, next, rest, more)

    pub longer : (n m : ℕ) → n ≤ m → length (terms_within ps r n a) ≤ length (terms_within ps r m a)
    longer n m le = let e : m ≡ (m - n) + n = omega (arith, le) in subst (λ (k : ℕ). length (terms_within ps r n a) ≤ length (terms_within ps r k a)) (sym e) (longer_by n (m - n))

    -- ---- there are no more terms than those of the pairs, and the first one

    abbrev ends : List TermPair → List (List ℕ)
    ends xs = flat_map (λ (p : TermPair). p.first ∷ p.second ∷ []) xs

    ends_length : (xs : List TermPair) → length (ends xs) ≡ 2 * length xs
    ends_length [] = refl
    ends_length (x ∷ xs) = let rest = ends_length xs in omega (arith, rest)

    among_chosen : (k : Bool) (x b : List ℕ) → is_among_terms b (cond k (x ∷ []) []) ≡ true → bytes_eq b x ≡ true
    among_chosen true x b h = sym (or_false (bytes_eq b x)) ∙ h
    among_chosen false x b h = absurd (false≢true h)

    of_forward : (kind : PairKind) (c b : List ℕ) (p : TermPair) → is_among_terms b (forward kind c p) ≡ true → is_among_terms b (p.first ∷ p.second ∷ []) ≡ true
    of_forward kind c b p h = or_right (bytes_eq b p.first) (bytes_eq b p.second || false) (or_left (bytes_eq b p.second) false (among_chosen (same_kind kind p.kind && bytes_eq c p.first) p.second b h))

    of_backward : (kind : PairKind) (c b : List ℕ) (p : TermPair) → is_among_terms b (backward kind c p) ≡ true → is_among_terms b (p.first ∷ p.second ∷ []) ≡ true
    of_backward kind c b p h = or_left (bytes_eq b p.first) (bytes_eq b p.second || false) (among_chosen (same_kind kind p.kind && bytes_eq c p.second) p.first b h)

    of_next : (s : Relation) (c b : List ℕ) (p : TermPair) → is_among_terms b (next_of s c p) ≡ true → is_among_terms b (p.first ∷ p.second ∷ []) ≡ true
    of_next Syn c b p h = go (or_cases (is_among_terms b (forward Synonyms c p)) (is_among_terms b (backward Synonyms c p)) (sym (list_any-append (bytes_eq b) (forward Synonyms c p) (backward Synonyms c p)) ∙ h))
      where
        go : ((is_among_terms b (forward Synonyms c p) ≡ true) ⊎ (is_among_terms b (backward Synonyms c p) ≡ true)) → is_among_terms b (p.first ∷ p.second ∷ []) ≡ true
        go (inl f) = of_forward Synonyms c b p f
        go (inr f) = of_backward Synonyms c b p f
    of_next Broader c b p h = of_forward ToBroader c b p h
    of_next Narrower c b p h = of_backward ToBroader c b p h
    of_next Preferred c b p h = of_forward ToPreferred c b p h

    next_is_end : (xs : List TermPair) (c b : List ℕ) → is_among_terms b (flat_map (next_of r c) xs) ≡ true → is_among_terms b (ends xs) ≡ true
    next_is_end [] c b h = absurd (false≢true h)
    next_is_end (p ∷ xs) c b h =
        list_any-append (bytes_eq b) (p.first ∷ p.second ∷ []) (ends xs)
        ∙ go (next_is_end xs c b) (or_cases (is_among_terms b (next_of r c p)) (is_among_terms b (flat_map (next_of r c) xs)) (sym (list_any-append (bytes_eq b) (next_of r c p) (flat_map (next_of r c) xs)) ∙ h))
      where
        go : (is_among_terms b (flat_map (next_of r c) xs) ≡ true → is_among_terms b (ends xs) ≡ true) → ((is_among_terms b (next_of r c p) ≡ true) ⊎ (is_among_terms b (flat_map (next_of r c) xs) ≡ true)) → (is_among_terms b (p.first ∷ p.second ∷ []) || is_among_terms b (ends xs)) ≡ true
        go later (inl here) = or_left (is_among_terms b (p.first ∷ p.second ∷ [])) (is_among_terms b (ends xs)) (of_next r c b p here)
        go later (inr rest) = or_right (is_among_terms b (p.first ∷ p.second ∷ [])) (is_among_terms b (ends xs)) (later rest)

    walk_ends : (m : ℕ) (b : List ℕ) → IsWalk ps r m a b → is_among_terms b (a ∷ ends ps) ≡ true
    walk_ends zero b walk = or_left (bytes_eq b a) (is_among_terms b (ends ps)) ((bytes_eq-Decides b a).1 (sym walk))
    walk_ends (suc m) b walk = or_right (bytes_eq b a) (is_among_terms b (ends ps)) (next_is_end ps walk.0 b (next_is_step ps r walk.0 b ∙ walk.2))

    none_equal : (t : List ℕ) (ts : List (List ℕ)) → is_among_terms t ts ≡ false → AllByRecursion (λ y. bytes_eq t y ≡ false) ts
    none_equal t [] h = tt
    none_equal t (u ∷ us) h = let parts = or_parts (bytes_eq t u) (is_among_terms t us) h in (parts.0, none_equal t us parts.1)

    distinct : (ts : List (List ℕ)) → rise ts ≡ true → IsDistinct bytes_eq ts
    unfolding IsDistinct
    distinct [] h = tt
    distinct (t ∷ ts) h = (none_equal t ts (first_once t ts h), distinct ts (rest_rises t ts h))

    pub bounded : (n : ℕ) → length (terms_within ps r n a) ≤ step_limit ps
    bounded n =
        let few = length-le_from_is_member {eq = bytes_eq} nat_list_eq_equiv (terms_within ps r n a) (a ∷ ends ps) (distinct (terms_within ps r n a) (within_rises n))
        (λ q there. let w = found_walk n q there in walk_ends w.0 q w.2) in
        let l = ends_length ps in
        omega (arith, few, l)

    pub limit_closed : widened ps r (terms_within ps r (step_limit ps) a) ≡ terms_within ps r (step_limit ps) a
    limit_closed = go (grows (step_limit ps))
      where
        go : ((widened ps r (terms_within ps r (step_limit ps) a) ≡ terms_within ps r (step_limit ps) a) ⊎ (step_limit ps + 1 ≤ length (terms_within ps r (step_limit ps) a))) → widened ps r (terms_within ps r (step_limit ps) a) ≡ terms_within ps r (step_limit ps) a
        go (inl closed) = closed
        go (inr long) = let few = bounded (step_limit ps) in absurd (omega (arith, few, long))
