-- The numbers of pages that are taken rise, and are those of free pages.
use Rattle.std.specs.Prelude.{Bool, cond}
use Rattle.std.proofs.Common.{◌≡◌, ⊎_elim, ℕ, zero, suc, ◌+◌, ◌-◌, ◌≤◌, ◌<◌, List, [], ◌∷◌, ◌++◌, length, length-append, take, get_or, refl, sym, ap, subst, ◌∙◌, arith}
use Rattle.std.proofs.lemmas.Bool.{lt-ltb, le-ltb, cases_lt}
use Rattle.std.proofs.lemmas.List.{take_all, take-append-le}
use Rattle.pg_map.specs.Kinds.{Each}
use Rattle.pg_map.specs.Holding.{times}
use Rattle.pg_map.specs.laws.Loose.{times-append, times_here}
use Rattle.pg_directory.specs.Trees.{IsPage}
use Rattle.pg_directory.specs.Written.{PageWrite, write_numbers, AreWrites}
use Rattle.pg_directory.specs.Numbering.{number_taken, numbers_from, homes_taken, AreRising}

-- ---- numbers that rise

pub rising_take : (k low end : ℕ) (ns : List ℕ) → AreRising low end ns → AreRising low end (take k ns)
rising_take zero low end ns rise = tt
rising_take (suc k) low end [] rise = tt
rising_take (suc k) low end (n ∷ ns) rise = (rise.0, rise.1, rising_take k (suc n) end ns rise.2)

rising_wider : (low end more : ℕ) (ns : List ℕ) → end ≤ more → AreRising low end ns → AreRising low more ns
rising_wider low end more [] le rise = tt
rising_wider low end more (n ∷ ns) le rise = (rise.0, omega (arith, rise.1, le), rising_wider (suc n) end more ns le rise.2)

rising_more : (low end n : ℕ) (ns : List ℕ) → low ≤ end → end ≤ n → AreRising low end ns → AreRising low (suc n) (ns ++ n ∷ [])
rising_more low end n [] small le rise = (omega (arith, small, le), omega arith, tt)
rising_more low end n (m ∷ ns) small le rise = (rise.0, omega (arith, rise.1, le), rising_more (suc m) end n ns (omega (arith, rise.1)) le rise.2)

pub rising_at : (low end : ℕ) (ns : List ℕ) (i : ℕ) → AreRising low end ns → i < length ns → (low ≤ get_or ns i 0) × (get_or ns i 0 < end)
rising_at low end [] i rise less = absurd (omega (arith, less))
rising_at low end (n ∷ ns) zero rise less = (rise.0, rise.1)
rising_at low end (n ∷ ns) (suc i) rise less = let r = rising_at (suc n) end ns i rise.2 (omega (arith, less)) in (omega (arith, r.0, rise.0), r.1)

rising_next : (low end : ℕ) (ns : List ℕ) (i : ℕ) → AreRising low end ns → suc i < length ns → get_or ns i 0 < get_or ns (suc i) 0
rising_next low end [] i rise less = absurd (omega (arith, less))
rising_next low end (n ∷ ns) zero rise less = (rising_at (suc n) end ns 0 rise.2 (omega (arith, less))).0
rising_next low end (n ∷ ns) (suc i) rise less = rising_next (suc n) end ns i rise.2 (omega (arith, less))

-- pages that may stand in a store, under such numbers, may be written
pub writes_rising : (low end : ℕ) (ws : List PageWrite) → AreRising low end (write_numbers ws) → Each (λ (w : PageWrite). IsPage w.1) ws → AreWrites low end ws
writes_rising low end [] rise good = tt
writes_rising low end (w ∷ ws) rise good = (rise.0, rise.1, good.0, writes_rising (suc w.0) end ws rise.2 good.1)

-- ---- those that are taken

pub taken_free : (free : List ℕ) (homes n : ℕ) → n < length free → number_taken free homes n ≡ get_or free n 0 + 3
taken_free free homes n less = ap (λ (b : Bool). cond b (get_or free n 0 + 3) (homes + (n - length free))) (lt-ltb n (length free) less)

pub taken_new : (free : List ℕ) (homes n : ℕ) → length free ≤ n → number_taken free homes n ≡ homes + (n - length free)
taken_new free homes n high = ap (λ (b : Bool). cond b (get_or free n 0 + 3) (homes + (n - length free))) (le-ltb n (length free) high)

pub length-taken : (free : List ℕ) (homes n : ℕ) → length (numbers_from free homes n) ≡ n
length-taken free homes zero = refl
length-taken free homes (suc n) = omega (arith, length-taken free homes n, length-append (numbers_from free homes n) (number_taken free homes n ∷ []))

pub take_taken : (free : List ℕ) (homes k n : ℕ) → k ≤ n → take k (numbers_from free homes n) ≡ numbers_from free homes k
take_taken free homes k zero le = let e : k ≡ 0 = omega (arith, le) in ap (λ (j : ℕ). take j (numbers_from free homes 0)) e ∙ ap (numbers_from free homes) (sym e)
take_taken free homes k (suc n) le = ⊎_elim
    (λ less. take-append-le k (numbers_from free homes n) (number_taken free homes n ∷ []) (omega (arith, less, length-taken free homes n)) ∙ take_taken free homes k n (omega (arith, less)))
    (λ high. let e : k ≡ suc n = omega (arith, le, high) in
    ap (λ (j : ℕ). take j (numbers_from free homes (suc n))) e ∙ take_all (suc n) (numbers_from free homes (suc n)) (omega (arith, length-taken free homes (suc n))) ∙ ap (numbers_from free homes) (sym e))
    (cases_lt k (suc n))

-- they rise, and lie below the number of home pages then
module _ (free : List ℕ) (homes : ℕ) (rise : AreRising 0 (homes - 3) free) (least : 3 ≤ homes) where
  -- an end of the numbers so far: the next one isn't below it
  abbrev end_at : ℕ → ℕ
  end_at n = number_taken free homes n

  next_above : (n : ℕ) → number_taken free homes n < number_taken free homes (suc n)
  next_above n = ⊎_elim
      (λ less. let r = rising_next 0 (homes - 3) free n rise less in omega (arith, r, taken_free free homes n (omega (arith, less)), taken_free free homes (suc n) less))
      (λ high. ⊎_elim
      (λ here. let r = (rising_at 0 (homes - 3) free n rise here).1 in omega (arith, r, least, here, taken_free free homes n here, taken_new free homes (suc n) high))
      (λ past. omega (arith, past, taken_new free homes n past, taken_new free homes (suc n) high))
      (cases_lt n (length free)))
      (cases_lt (suc n) (length free))

  low_first : (n : ℕ) → 3 ≤ number_taken free homes n
  low_first n = ⊎_elim (λ less. omega (arith, taken_free free homes n less)) (λ high. omega (arith, least, taken_new free homes n high)) (cases_lt n (length free))

  rising_to : (n : ℕ) → AreRising 3 (number_taken free homes n) (numbers_from free homes n)
  rising_to zero = tt
  rising_to (suc n) =
      rising_wider 3 (suc (number_taken free homes n)) (number_taken free homes (suc n)) (numbers_from free homes (suc n)) (next_above n)
      (rising_more 3 (number_taken free homes n) (number_taken free homes n) (numbers_from free homes n) (low_first n) (omega arith) (rising_to n))

  below_homes : (n : ℕ) → number_taken free homes n < homes_taken free homes (suc n)
  below_homes n = ⊎_elim
      (λ less. let r = (rising_at 0 (homes - 3) free n rise less).1 in omega (arith, r, least, taken_free free homes n less))
      (λ high. omega (arith, high, taken_new free homes n high))
      (cases_lt n (length free))

  pub taken_rise : (n : ℕ) → AreRising 3 (homes_taken free homes n) (numbers_from free homes n)
  taken_rise zero = tt
  taken_rise (suc n) =
      rising_wider 3 (suc (number_taken free homes n)) (homes_taken free homes (suc n)) (numbers_from free homes (suc n)) (below_homes n)
      (rising_more 3 (number_taken free homes n) (number_taken free homes n) (numbers_from free homes n) (low_first n) (omega arith) (rising_to n))

-- each page that is new is taken
pub new_taken : (free : List ℕ) (homes n i : ℕ) → homes ≤ i → i < homes_taken free homes n → 1 ≤ times i (numbers_from free homes n)
new_taken free homes zero i low high = absurd (omega (arith, low, high))
new_taken free homes (suc n) i low high = ⊎_elim
    (λ less. let s = new_taken free homes n i low less in omega (arith, s, times-append i (numbers_from free homes n) (number_taken free homes n ∷ [])))
    (λ last.
    let e : number_taken free homes n ≡ i = taken_new free homes n (omega (arith, low, high, last)) ∙ omega (arith, low, high, last) in
    let one : times i (number_taken free homes n ∷ []) ≡ 1 = subst (λ (k : ℕ). times i (k ∷ []) ≡ 1) (sym e) (times_here i []) in
    omega (arith, one, times-append i (numbers_from free homes n) (number_taken free homes n ∷ [])))
    (cases_lt i (homes_taken free homes n))

-- each number that is taken has what those of the free pages and those behind all have
pub each_taken : (P : ℕ → Type 0) (free : List ℕ) (homes n : ℕ) → ((k : ℕ) → k < length free → P (get_or free k 0 + 3)) → ((i : ℕ) → homes ≤ i → P i) → Each P (numbers_from free homes n)
each_taken P free homes zero has new = tt
each_taken P free homes (suc n) has new = both (numbers_from free homes n) (each_taken P free homes n has new) (⊎_elim
    (λ less. subst P (sym (taken_free free homes n less)) (has n less))
    (λ high. subst P (sym (taken_new free homes n high)) (new (homes + (n - length free)) (omega arith)))
    (cases_lt n (length free)))
  where
    both : (ns : List ℕ) → Each P ns → P (number_taken free homes n) → Each P (ns ++ number_taken free homes n ∷ [])
    both [] each last = (last, tt)
    both (m ∷ ns) each last = (each.0, both ns each.1 last)
