-- Whether a character belongs to a set is told by a binary search.
use Rattle.std.specs.Ordering.{nat_cmp}
use Rattle.std.specs.Prelude.{◌||◌, ◌==◌, nat_lt}
use Rattle.std.specs.List.Sorted.{IsBinarySearchResult}
use Rattle.std.specs.Result.{is_ok}
use Rattle.std.proofs.Common.{◌≡◌, ◌≢◌, ℕ, zero, suc, ◌≤◌, ◌<◌, Bool, true, false, List, [], ◌∷◌, length, get_or, Result, Ok, Err, refl, sym, arith, inl, inr}
use Rattle.std.proofs.lemmas.Bool.{and_parts, cases_lt, ltb-true}
use Rattle.std.proofs.lemmas.List.Sorted.{searched}
use Rattle.tx_lexer.specs.CharSets.{has, above, rises}

-- each of those that rise above a character is greater
least : (low : ℕ) (cs : List ℕ) (j : ℕ) → above low cs ≡ true → j < length cs → low < get_or cs j 0
least low [] j h within = absurd (omega (arith, within))
least low (c ∷ cs) zero h within = ltb-true low c (and_parts (nat_lt low c) (above c cs) h).0
least low (c ∷ cs) (suc j) h within =
    let parts = and_parts (nat_lt low c) (above c cs) h in
    let rest = least c cs j parts.1 (omega (arith, within)) in
    omega (arith, rest, ltb-true low c parts.0)

in_order : (c : ℕ) (cs : List ℕ) (i j : ℕ) → above c cs ≡ true → i ≤ j → j < length (c ∷ cs) → get_or (c ∷ cs) i 0 ≤ get_or (c ∷ cs) j 0
in_order c cs zero zero h before within = omega arith
in_order c cs zero (suc j) h before within = let more = least c cs j h (omega (arith, within)) in omega (arith, more)
in_order c cs (suc i) zero h before within = absurd (omega (arith, before))
in_order c [] (suc i) (suc j) h before within = absurd (omega (arith, within))
in_order c (d ∷ ds) (suc i) (suc j) h before within = in_order d ds i j (and_parts (nat_lt c d) (above d ds) h).1 (omega (arith, before)) (omega (arith, within))

rise : (cs : List ℕ) → rises cs ≡ true → (i j : ℕ) → i ≤ j → j < length cs → get_or cs i 0 ≤ get_or cs j 0
rise [] h i j before within = absurd (omega (arith, within))
rise (c ∷ cs) h i j before within = in_order c cs i j h before within

here : (c d : ℕ) (cs : List ℕ) → d ≡ c → has (d ∷ cs) c ≡ true
here c d cs h = grind arith

later : (b : Bool) (cs : List ℕ) (c : ℕ) → has cs c ≡ true → (b || has cs c) ≡ true
later true cs c h = refl
later false cs c h = h

has_at : (cs : List ℕ) (c i : ℕ) → i < length cs → get_or cs i 0 ≡ c → has cs c ≡ true
has_at [] c i within is = absurd (omega (arith, within))
has_at (d ∷ cs) c zero within is = here c d cs is
has_at (d ∷ cs) c (suc i) within is = later (d == c) cs c (has_at cs c i (omega (arith, within)) is)

other : (c d : ℕ) (cs : List ℕ) → d ≢ c → has cs c ≡ false → has (d ∷ cs) c ≡ false
other c d cs h rest = grind arith

none_at : (cs : List ℕ) (c : ℕ) → ((k : ℕ) → k < length cs → get_or cs k 0 ≢ c) → has cs c ≡ false
none_at [] c h = refl
none_at (d ∷ cs) c h = other c d cs (h 0 (omega arith)) (none_at cs c (λ k within. h (suc k) (omega (arith, within))))

pub has_searched : (cs : List ℕ) (c : ℕ) (r : Result ℕ ℕ) → rises cs ≡ true → IsBinarySearchResult (λ y. nat_cmp y c) cs r → is_ok r ≡ has cs c
has_searched cs c (Ok i) h is = let f = searched cs c (Ok i) is (rise cs h) in sym (has_at cs c i f.0 f.1)
has_searched cs c (Err i) h is =
    let f = searched cs c (Err i) is (rise cs h) in
    sym (none_at cs c (λ k within same. elim (cases_lt k i) [
      | inl before ↦ let b = f.1 k before in omega (arith, b, same)
      | inr after ↦ let a = f.2 k after within in omega (arith, a, same)
    ]))
