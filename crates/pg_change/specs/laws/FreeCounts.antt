-- As many pages are free as are listed, so all others are used.
use Rattle.std.proofs.Common.{◌≡◌, ◌≢◌, ◌≤◌, ◌<◌, ◌+◌, ◌==◌, ℕ, zero, suc, Bool, true, false, cond, List, [], ◌∷◌, length, refl, sym, ap, ◌∙◌, ⊎_elim, arith}
use Rattle.std.proofs.lemmas.Bool.{cases_lt, eq-eqb, eqb-true, false≢true}
use Rattle.pg_map.specs.Kinds.{Kind, Free, Slotted, Long}
use Rattle.pg_plan.specs.FreePlaces.{ListsFree, times_listed, one_if_free, free_at, used_pages}

-- how many of the first so many pages are free
abbrev free_below : List Kind → ℕ → ℕ
free_below ks zero = 0
free_below ks (suc n) = free_below ks n + free_at ks n

-- how often places below this one are listed
abbrev listed_below : List ℕ → ℕ → ℕ
listed_below places zero = 0
listed_below places (suc n) = listed_below places n + times_listed places n

same_below : (ks : List Kind) (places : List ℕ) (n : ℕ) → ListsFree ks places → listed_below places n ≡ free_below ks n
same_below ks places zero lists = refl
same_below ks places (suc n) lists = let rest = same_below ks places n lists in let here = lists.each n in omega (arith, rest, here)

first_below : (k : Kind) (ks : List Kind) (n : ℕ) → free_below (k ∷ ks) (suc n) ≡ one_if_free k + free_below ks n
first_below k ks zero = omega arith
first_below k ks (suc n) = let rest = first_below k ks n in omega (arith, rest)

free_and_used : (ks : List Kind) → free_below ks (length ks) + used_pages ks ≡ length ks
free_and_used [] = refl
free_and_used (Free ∷ ks) = let first = first_below Free ks (length ks) in let rest = free_and_used ks in omega (arith, first, rest)
free_and_used (Slotted ss ∷ ks) = let first = first_below (Slotted ss) ks (length ks) in let rest = free_and_used ks in omega (arith, first, rest)
free_and_used (Long next bytes ∷ ks) = let first = first_below (Long next bytes) ks (length ks) in let rest = free_and_used ks in omega (arith, first, rest)

none_past : (ks : List Kind) (at : ℕ) → length ks ≤ at → free_at ks at ≡ 0
none_past [] at past = refl
none_past (k ∷ ks) zero past = absurd (omega (arith, past))
none_past (k ∷ ks) (suc at) past = none_past ks at (omega (arith, past))

one_listed : (x : ℕ) (xs : List ℕ) → times_listed (x ∷ xs) x ≡ 1 + times_listed xs x
one_listed x xs = ap (λ (b : Bool). cond b 1 0 + times_listed xs x) (eq-eqb x x refl)

-- one place more is listed once below each bound that is greater
one_more : (x : ℕ) (xs : List ℕ) (n : ℕ) → (n ≤ x → listed_below (x ∷ xs) n ≡ listed_below xs n) × (x < n → listed_below (x ∷ xs) n ≡ 1 + listed_below xs n)
one_more x xs zero = (λ past. refl, λ less. absurd (omega (arith, less)))
one_more x xs (suc n) = of (x == n) refl (one_more x xs n)
  where
    of : (b : Bool) → (x == n) ≡ b → (n ≤ x → listed_below (x ∷ xs) n ≡ listed_below xs n) × (x < n → listed_below (x ∷ xs) n ≡ 1 + listed_below xs n)
        → (suc n ≤ x → listed_below (x ∷ xs) (suc n) ≡ listed_below xs (suc n)) × (x < suc n → listed_below (x ∷ xs) (suc n) ≡ 1 + listed_below xs (suc n))
    of true is rest =
        let here : times_listed (x ∷ xs) n ≡ 1 + times_listed xs n = ap (λ (b : Bool). cond b 1 0 + times_listed xs n) is in
        let same : x ≡ n = eqb-true x n is in
        let none = rest.0 (omega (arith, same)) in
        (λ past. absurd (omega (arith, past, same)), λ less. omega (arith, here, none))
    of false is rest =
        let here : times_listed (x ∷ xs) n ≡ 0 + times_listed xs n = ap (λ (b : Bool). cond b 1 0 + times_listed xs n) is in
        let other : x ≢ n = λ same. false≢true (sym is ∙ eq-eqb x n same) in (
          λ past. let none = rest.0 (omega (arith, past)) in omega (arith, here, none),
          λ less. let one = rest.1 (⊎_elim (λ under. under) (λ past. absurd (other (omega (arith, past, less)))) (cases_lt x n)) in omega (arith, here, one),
        )

all_below : (places : List ℕ) (n : ℕ) → ((at : ℕ) → n ≤ at → times_listed places at ≡ 0) → listed_below places n ≡ length places
all_below [] zero none = refl
all_below [] (suc n) none = let rest = all_below [] n (λ at past. refl) in omega (arith, rest)
all_below (x ∷ xs) n none =
    let rest = all_below xs n (λ at past. let z = none at past in omega (arith, z)) in
    ⊎_elim
    (λ less. let more = (one_more x xs n).1 less in omega (arith, more, rest))
    (λ past. absurd (let z = none x past in let one = one_listed x xs in omega (arith, z, one)))
    (cases_lt x n)

pub used_and_listed : (ks : List Kind) (places : List ℕ) → ListsFree ks places → used_pages ks + length places ≡ length ks
used_and_listed ks places lists =
    let all = all_below places (length ks) (λ at past. lists.each at ∙ none_past ks at past) in
    let same = same_below ks places (length ks) lists in
    let both = free_and_used ks in
    omega (arith, all, same, both)
