-- The free pages that a new directory leaves.
use Rattle.std.specs.Prelude.{map}
use Rattle.std.proofs.Common.{◌≡◌, ◌⊎◌, inl, inr, ⊎_elim, ℕ, zero, suc, ◌+◌, ◌-◌, ◌≤◌, ◌<◌, List, [], ◌∷◌, ◌++◌, length, take, take-suc, drop, get_or, refl, sym, ap, subst, ◌∙◌, arith}
use Rattle.std.proofs.lemmas.Bool.{cases_lt, cases_eq}
use Rattle.std.proofs.lemmas.List.{take_all, take-append-drop}
use Rattle.pg_map.specs.Holding.{times}
use Rattle.pg_map.specs.Kinds.{Each, Free}
use Rattle.pg_map.specs.laws.Loose.{times_here, times_other, times-append as times-both}
use Rattle.pg_directory.specs.Numbering.{number_taken, numbers_from, homes_taken, AreRising}
use Rattle.pg_directory.specs.Trees.{StorePage, Plain, kind_of, page_at}
use Rattle.pg_directory.specs.laws.Numbering.{taken_free, taken_new, new_taken}
use Rattle.pg_directory.specs.laws.Written.{page_past}
use Rattle.pg_plan.specs.FreePlaces.{times_listed, one_if_free, free_at, ListsFree}
use Rattle.pg_heap.proofs.Freeing.{times-append, one_here, one_elsewhere}
use Rattle.pg_heap.proofs.Frees.{listed_numbers, free_within, free_past}

-- a page of a number is taken as often as its place is among the first free ones, where it was there before
one_taken : (x at : ℕ) → times (3 + at) ((x + 3) ∷ []) ≡ times_listed (x ∷ []) at
one_taken x at = ⊎_elim
    (λ same. let e : 3 + at ≡ x + 3 = omega (arith, same) in
    subst (λ (k : ℕ). times k ((x + 3) ∷ []) ≡ 1) (sym e) (times_here (x + 3) []) ∙ sym (one_here x at same))
    (λ other. times_other (3 + at) (x + 3) [] (λ e. other (omega (arith, e))) ∙ sym (one_elsewhere x at other))
    (cases_eq x at)

pub taken_before : (free : List ℕ) (homes at k : ℕ) → 3 + at < homes → times (3 + at) (numbers_from free homes k) ≡ times_listed (take k free) at
taken_before free homes at zero low = refl
taken_before free homes at (suc k) low =
    let r = taken_before free homes at k low in
    let both = times-both (3 + at) (numbers_from free homes k) (number_taken free homes k ∷ []) in
    ⊎_elim
    (λ less.
    let own = ap (λ (n : ℕ). times (3 + at) (n ∷ [])) (taken_free free homes k less) ∙ one_taken (get_or free k 0) at in
    let parts = ap (λ (l : List ℕ). times_listed l at) (take-suc free k 0 less) ∙ times-append (take k free) (get_or free k 0 ∷ []) at in
    omega (arith, r, both, own, parts))
    (λ past.
    let own = times_other (3 + at) (number_taken free homes k) [] (λ e. let n = taken_new free homes k past in omega (arith, e, n, low)) in
    let same = ap (λ (l : List ℕ). times_listed l at) (take_all (suc k) free (omega (arith, past)) ∙ sym (take_all k free past)) in
    omega (arith, r, both, own, same))
    (cases_lt k (length free))

-- numbers that rise come once, within their bounds
none_of_rising : (low end n : ℕ) (ns : List ℕ) → AreRising low end ns → (n < low) ⊎ (end ≤ n) → times n ns ≡ 0
none_of_rising low end n [] rise out = refl
none_of_rising low end n (m ∷ ns) rise out =
    times_other n m ns (λ e. ⊎_elim (λ less. omega (arith, e, less, rise.0)) (λ high. omega (arith, e, high, rise.1)) out)
    ∙ none_of_rising (suc m) end n ns rise.2 (⊎_elim (λ less. inl (omega (arith, less, rise.0))) (λ high. inr high) out)

once_of_rising : (low end n : ℕ) (ns : List ℕ) → AreRising low end ns → times n ns ≤ 1
once_of_rising low end n [] rise = omega arith
once_of_rising low end n (m ∷ ns) rise = ⊎_elim
    (λ same.
    let none = none_of_rising (suc m) end n ns rise.2 (inl (omega (arith, same))) in
    let here = subst (λ (k : ℕ). times n (k ∷ ns) ≡ 1 + times n ns) (sym same) (times_here n ns) in
    omega (arith, none, here))
    (λ other. let o = times_other n m ns other in let r = once_of_rising (suc m) end n ns rise.2 in omega (arith, o, r))
    (cases_eq m n)

none_listed : (low end at : ℕ) (ns : List ℕ) → AreRising low end ns → end ≤ at → times_listed ns at ≡ 0
none_listed low end at [] rise past = refl
none_listed low end at (m ∷ ns) rise past =
    let here = one_elsewhere m at (λ e. omega (arith, e, rise.1, past)) in
    let rest = none_listed (suc m) end at ns rise.2 past in
    let both = times-append (m ∷ []) ns at in
    omega (arith, here, rest, both)

-- those that are left, and those of the directory, which are all that were taken
pub left_listed : (ps qs : List StorePage) (free numbers : List ℕ) (k : ℕ) → AreRising 0 (length ps) free → ListsFree (map kind_of ps) free → 3 + length qs ≡ homes_taken free (3 + length ps) k
    → ((i : ℕ) → 3 ≤ i → kind_of (page_at qs i) ≡ kind_of (page_at ps i)) → AreRising 3 (homes_taken free (3 + length ps) k) (numbers_from free (3 + length ps) k)
    → Each (λ (n : ℕ). 3 ≤ n) numbers → ((i : ℕ) → times i numbers ≡ times i (numbers_from free (3 + length ps) k)) → ListsFree (map kind_of qs) (drop k free ++ map (λ (n : ℕ). n - 3) numbers)
left_listed ps qs free numbers k rise lists long same taken low often = record { each = λ at. sums at }
  where
    parts : (at : ℕ) → times_listed free at ≡ times_listed (take k free) at + times_listed (drop k free) at
    parts at = ap (λ (l : List ℕ). times_listed l at) (sym (take-append-drop k free)) ∙ times-append (take k free) (drop k free) at

    own : (at : ℕ) → times_listed (drop k free ++ map (λ (n : ℕ). n - 3) numbers) at ≡ times_listed (drop k free) at + times (3 + at) (numbers_from free (3 + length ps) k)
    own at = times-append (drop k free) (map (λ (n : ℕ). n - 3) numbers) at ∙ ap (λ (n : ℕ). times_listed (drop k free) at + n) (listed_numbers numbers at low ∙ often (3 + at))

    kind_here : (at : ℕ) → kind_of (get_or qs at (Plain Free)) ≡ kind_of (get_or ps at (Plain Free))
    kind_here at = let e : (3 + at) - 3 ≡ at = omega arith in subst (λ (n : ℕ). kind_of (get_or qs n (Plain Free)) ≡ kind_of (get_or ps n (Plain Free))) e (same (3 + at) (omega arith))

    more : length ps ≤ length qs
    more = omega (arith, long)

    sums : (at : ℕ) → times_listed (drop k free ++ map (λ (n : ℕ). n - 3) numbers) at ≡ free_at (map kind_of qs) at
    sums at = ⊎_elim
        (λ before.
        let a = taken_before free (3 + length ps) at k (omega (arith, before)) in
        let b = free_within qs at (omega (arith, before, more)) ∙ ap one_if_free (kind_here at) ∙ sym (free_within ps at before) ∙ sym (lists.each at) in
        omega (arith, a, b, own at, parts at))
        (λ behind.
        let none = none_listed 0 (length ps) at free rise behind in
        ⊎_elim
        (λ new.
        let some = new_taken free (3 + length ps) k (3 + at) (omega (arith, behind)) (omega (arith, new, long)) in
        let once = once_of_rising 3 (homes_taken free (3 + length ps) k) (3 + at) (numbers_from free (3 + length ps) k) taken in
        let kind = kind_here at ∙ ap kind_of (let e : (3 + at) - 3 ≡ at = omega arith in subst (λ (n : ℕ). get_or ps n (Plain Free) ≡ Plain Free) e (page_past ps (3 + at) (omega (arith, behind)))) in
        let b = free_within qs at new ∙ ap one_if_free kind in
        omega (arith, some, once, b, own at, parts at, none))
        (λ past.
        let gone = none_of_rising 3 (homes_taken free (3 + length ps) k) (3 + at) (numbers_from free (3 + length ps) k) taken (inr (omega (arith, past, long))) in
        let b = free_past qs at past in
        omega (arith, gone, b, own at, parts at, none))
        (cases_lt at (length qs)))
        (cases_lt at (length ps))
