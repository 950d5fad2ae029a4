-- A list that rises is known by its members.
use Rattle.std.proofs.Common.{ℕ, ◌≡◌, ◌≤◌, ◌<◌, ◌⊎◌, ◌||◌, inl, inr, eqb, Bool, true, false, cond, List, [], ◌∷◌, refl, sym, ap, subst, ◌∙◌, arith}
use Rattle.std.specs.List.{filter}
use Rattle.std.proofs.lemmas.Bool.{cases_lt, eqb-true, eq-eqb, ne_eqb}
use Rattle.ix_spans.specs.Occurrences.{has_number}
use Rattle.ix_spans.specs.Rising.{Above, Rising}

apart : (a b : ℕ) → b < a → eqb a b ≡ false
apart a b lt = ne_eqb a b (λ e. omega (arith, lt, e))

pub above_lower : (m n : ℕ) (ps : List ℕ) → m ≤ n → Above n ps → Above m ps
above_lower m n [] le h = tt
above_lower m n (p ∷ ps) le h = let f = h.0 in (omega (arith, f, le), h.1)

pub above_rises : (p : ℕ) (ps : List ℕ) → Above p ps → Rising ps
above_rises p [] h = tt
above_rises p (q ∷ ps) h = h.1

-- what isn't above the number isn't in the list
pub above_not : (n p : ℕ) (ps : List ℕ) → p ≤ n → Above n ps → has_number ps p ≡ false
above_not n p [] le h = refl
above_not n p (q ∷ ps) le h =
    let f = h.0 in
    rw (apart q p (omega (arith, f, le))) (above_not q p ps (omega (arith, f, le)) h.1)

pub has_first : (p : ℕ) (ps : List ℕ) → has_number (p ∷ ps) p ≡ true
has_first p ps = rw (eq-eqb p p refl) refl

-- a number below the first of the list isn't in it
below_not : (n q : ℕ) (qs : List ℕ) → n < q → Above q qs → has_number (q ∷ qs) n ≡ false
below_not n q qs lt h = rw (apart q n lt) (above_not q n qs (omega (arith, lt)) h)

-- where two lists begin alike and have the same members, what follows has too
tails_same : (p : ℕ) (ps qs : List ℕ) → Above p ps → Above p qs → ((n : ℕ) → has_number (p ∷ ps) n ≡ has_number (p ∷ qs) n) → (n : ℕ) → has_number ps n ≡ has_number qs n
tails_same p ps qs a b same n = go (eqb p n) refl
  where
    go : (t : Bool) → eqb p n ≡ t → has_number ps n ≡ has_number qs n
    go true e = let is = eqb-true p n e in above_not p n ps (omega (arith, is)) a ∙ sym (above_not p n qs (omega (arith, is)) b)
    go false e = ap (λ t. t || has_number ps n) (sym e) ∙ same n ∙ ap (λ t. t || has_number qs n) e

-- two rising lists with the same members are one
pub one_list : (ps qs : List ℕ) → Rising ps → Rising qs → ((n : ℕ) → has_number ps n ≡ has_number qs n) → ps ≡ qs
one_list [] [] a b same = refl
one_list [] (q ∷ qs) a b same = let wrong : false ≡ true = same q ∙ has_first q qs in cc
one_list (p ∷ ps) [] a b same = let wrong : true ≡ false = sym (has_first p ps) ∙ same p in cc
one_list (p ∷ ps) (q ∷ qs) a b same = go (one_list ps qs) (cases_lt p q) (cases_lt q p)
  where
    go : (Rising ps → Rising qs → ((n : ℕ) → has_number ps n ≡ has_number qs n) → ps ≡ qs) → (p < q) ⊎ (q ≤ p) → (q < p) ⊎ (p ≤ q) → p ∷ ps ≡ q ∷ qs
    go rest (inl l) y = let wrong : true ≡ false = sym (has_first p ps) ∙ same p ∙ below_not p q qs l b in cc
    go rest (inr l) (inl k) = let wrong : false ≡ true = sym (below_not q p ps k a) ∙ same q ∙ has_first q qs in cc
    go rest (inr l) (inr k) =
        let one : q ≡ p = omega (arith, l, k) in
        let b' : Above p qs = subst (λ n. Above n qs) one b in
        ap (λ n. n ∷ ps) (sym one) ∙ ap (λ xs. q ∷ xs) (rest (above_rises p ps a) (above_rises p qs b') (tails_same p ps qs a b' (λ n. same n ∙ ap (λ m. has_number (m ∷ qs) n) one)))

-- what is left of a list that rises does
filter_above : (t : ℕ → Bool) (n : ℕ) (ps : List ℕ) → Above n ps → Above n (filter t ps)
filter_above t n [] h = tt
filter_above t n (p ∷ ps) h = go (t p) (filter_above t p ps h.1)
  where
    go : (b : Bool) → Above p (filter t ps) → Above n (cond b (p ∷ filter t ps) (filter t ps))
    go true rest = (h.0, rest)
    go false rest = let f = h.0 in above_lower n p (filter t ps) (omega (arith, f)) rest

pub filter_rises : (t : ℕ → Bool) (ps : List ℕ) → Rising ps → Rising (filter t ps)
filter_rises t [] h = tt
filter_rises t (p ∷ ps) h = go (t p) (filter_above t p ps h)
  where
    go : (b : Bool) → Above p (filter t ps) → Rising (cond b (p ∷ filter t ps) (filter t ps))
    go true rest = rest
    go false rest = above_rises p (filter t ps) rest
