-- What is ruled out has no score: phrases, terms, operands, operators and sections.
use Rattle.std.specs.Prelude.{ℕ, ◌≡◌, ◌-◌, ◌+◌, ◌/◌, ◌≤◌, min, max, nat_le, nat_lt, eqb, Bool, true, false, ◌&&◌, List, [], ◌∷◌, map, length, filter, Option, Some, None, refl}
use Rattle.std.proofs.Common.{◌⊎◌, inl, inr, sym, ap, subst, ◌∙◌, arith}
use Rattle.std.specs.Bool.{if◌then◌else◌}
use Rattle.std.specs.List.{flat_map, list_any, list_all}
use Rattle.std.proofs.lemmas.Bool.{and_cases, and_right, or_parts}
use Rattle.std.proofs.Math.Nat.{zero-mul}
use Rattle.ct_base.specs.declared.numbers.Pair.{Pair}
use Rattle.ix_spans.specs.Occurrences.{Slots, fits_at, occurs_at, is_start, pairs_from, phrase_pairs, term_score, term_pairs, choices, is_pair_inside}
use Rattle.ix_lists.specs.Seeking.{has_any}
use Rattle.q_tree.specs.declared.queries.Op.{Op}
use Rattle.q_tree.specs.declared.queries.Op.TheVariants.{Or, And, Not, Minus}
use Rattle.q_tree.specs.declared.flats.SumStep.{SumStep}
use Rattle.q_tree.specs.Scores.{unless, operated, weighted, if_above, near_score, greatest_within, define_score}
use Rattle.ix_cursor.specs.MayScore.{may_fit, may_occur, may_match, may_join}

none_of : {X : Type 0} (xs : List X) → has_any xs ≡ false → xs ≡ []
none_of [] h = refl
none_of (x ∷ xs) h = let wrong : true ≡ false = h in cc

-- ---- phrases

pub no_occurrence : (ss : Slots) (p : ℕ) → may_occur ss ≡ false → occurs_at ss p ≡ false
no_occurrence [] p h = h
no_occurrence (None ∷ ss) p h = no_occurrence ss (p + 1) h
no_occurrence (Some ps ∷ ss) p h = go (λ k. no_occurrence ss (p + 1) k) (and_cases (has_any ps) (may_occur ss) h)
  where
    go : (may_occur ss ≡ false → occurs_at ss (p + 1) ≡ false) → (has_any ps ≡ false) ⊎ (may_occur ss ≡ false) → occurs_at (Some ps ∷ ss) p ≡ false
    go later (inl none) = ap (λ qs. fits_at (Some qs) p && occurs_at ss (p + 1)) (none_of ps none)
    go later (inr rest) = and_right (fits_at (Some ps) p) (occurs_at ss (p + 1)) (later rest)

none_passes : (f : ℕ → Bool) (ps : List ℕ) → ((p : ℕ) → f p ≡ false) → filter f ps ≡ []
none_passes f [] h = refl
none_passes f (p ∷ ps) h = ap (λ (b : Bool). if b then p ∷ filter f ps else filter f ps) (h p) ∙ none_passes f ps h

pub no_phrase_pairs : (ss : Slots) (lo hi : ℕ) → may_occur ss ≡ false → phrase_pairs ss lo hi ≡ []
no_phrase_pairs [] lo hi h = refl
no_phrase_pairs (None ∷ ss) lo hi h = refl
no_phrase_pairs (Some ps ∷ ss) lo hi h = go (and_cases (has_any ps) (may_occur ss) h)
  where
    go : (has_any ps ≡ false) ⊎ (may_occur ss ≡ false) → phrase_pairs (Some ps ∷ ss) lo hi ≡ []
    go (inl none) = ap (λ qs. phrase_pairs (Some qs ∷ ss) lo hi) (none_of ps none)
    go (inr rest) = ap (pairs_from (length ss)) (none_passes (is_start ss lo hi) ps (λ p. and_right (nat_le lo p && nat_le (p + length ss) hi) (occurs_at ss (p + 1)) (no_occurrence ss (p + 1) rest)))

-- ---- terms and operands

pub no_term_pairs : (ss : List Slots) (lo hi : ℕ) → may_match ss ≡ false → term_pairs ss lo hi ≡ []
no_term_pairs [] lo hi h = refl
no_term_pairs (s ∷ ss) lo hi h =
    let p = or_parts (may_occur s) (may_match ss) h in
    rw (no_phrase_pairs s lo hi p.0) (no_term_pairs ss lo hi p.1)

pub no_term_score : (ss : List Slots) (lo hi : ℕ) → may_match ss ≡ false → term_score ss lo hi ≡ 0
no_term_score [] lo hi h = refl
no_term_score (s ∷ ss) lo hi h =
    let p = or_parts (may_occur s) (may_match ss) h in
    rw (no_phrase_pairs s lo hi p.0, no_term_score ss lo hi p.1) refl

no_more : (o : List Pair) → flat_map (λ (p : Pair). map (λ (c : List Pair). p ∷ c) []) o ≡ []
no_more [] = refl
no_more (p ∷ o) = no_more o

no_choice : (os : List (List Slots)) (lo hi : ℕ) → list_all may_match os ≡ false → choices (map (λ o. term_pairs o lo hi) os) ≡ []
no_choice [] lo hi h = let wrong : true ≡ false = h in cc
no_choice (o ∷ os) lo hi h = go (λ k. no_choice os lo hi k) (and_cases (may_match o) (list_all may_match os) h)
  where
    go : (list_all may_match os ≡ false → choices (map (λ o. term_pairs o lo hi) os) ≡ []) → (may_match o ≡ false) ⊎ (list_all may_match os ≡ false) → choices (map (λ o. term_pairs o lo hi) (o ∷ os)) ≡ []
    go later (inl none) = rw (no_term_pairs o lo hi none) refl
    go later (inr none) = rw (later none) (no_more (term_pairs o lo hi))

pub no_near_score : (os : List (List Slots)) (span : ℕ) (ordered : Bool) (lo hi : ℕ) → list_all may_match os ≡ false → near_score os span ordered lo hi ≡ 0
no_near_score os span ordered lo hi h = rw (no_choice os lo hi h) refl

pub no_define_score : (ss : List Slots) (sum : List SumStep) (lo hi : ℕ) → may_match ss ≡ false → define_score ss sum lo hi ≡ 0
no_define_score ss sum lo hi h = rw (no_term_pairs ss lo hi h) refl

-- ---- operators

unless_nothing : (b : ℕ) → unless 0 b ≡ 0
unless_nothing b = go (eqb b 0)
  where
    go : (t : Bool) → ◌≡◌ {A = ℕ} (if t then 0 else 0) 0
    go true = refl
    go false = refl

pub nothing_joined : (op : Op) (x y : Bool) (a b : ℕ) → (x ≡ false → a ≡ 0) → (y ≡ false → b ≡ 0) → may_join op x y ≡ false → operated op a b ≡ 0
nothing_joined And x y a b first second h = go (and_cases x y h)
  where
    go : (x ≡ false) ⊎ (y ≡ false) → min a b ≡ 0
    go (inl none) = let zero = first none in omega (arith, zero)
    go (inr none) = let zero = second none in omega (arith, zero)
nothing_joined Or x y a b first second h =
    let p = or_parts x y h in
    let zero = first p.0 in
    let other = second p.1 in
    omega (arith, zero, other)
nothing_joined Not x y a b first second h = ap (λ n. unless n b) (first h) ∙ unless_nothing b
nothing_joined Minus x y a b first second h = let zero = first h in omega (arith, zero)

pub nothing_weighted : (w a : ℕ) → a ≡ 0 → weighted w a ≡ 0
nothing_weighted w a none = ap (weighted w) none ∙ ap (λ n. min 100 ((n + 9) / 10)) (zero-mul w)

pub nothing_above : (n a : ℕ) → a ≡ 0 → if_above n a ≡ 0
nothing_above n a none = ap (if_above n) none ∙ go (nat_lt n 0)
  where
    go : (t : Bool) → ◌≡◌ {A = ℕ} (if t then 0 else 0) 0
    go true = refl
    go false = refl

-- ---- sections

nothing_inside : (f : ℕ → ℕ → ℕ) (lo hi : ℕ) (ps : List Pair) → ((l h : ℕ) → f l h ≡ 0) → greatest_within f lo hi ps ≡ 0
nothing_inside f lo hi [] none = refl
nothing_inside f lo hi (p ∷ ps) none = rw (none p.first p.last, nothing_inside f lo hi ps none) (go (is_pair_inside lo hi p))
  where
    go : (b : Bool) → ◌≡◌ {A = ℕ} (max (if b then 0 else 0) 0) 0
    go true = refl
    go false = refl

pub nothing_within : (f : ℕ → ℕ → ℕ) (may : Bool) (lo hi : ℕ) (ps : List Pair) → (may ≡ false → (l h : ℕ) → f l h ≡ 0) → (has_any ps && may) ≡ false → greatest_within f lo hi ps ≡ 0
nothing_within f may lo hi ps none h = go (and_cases (has_any ps) may h)
  where
    go : (has_any ps ≡ false) ⊎ (may ≡ false) → greatest_within f lo hi ps ≡ 0
    go (inl k) = ap (greatest_within f lo hi) (none_of ps k)
    go (inr k) = nothing_inside f lo hi ps (none k)
