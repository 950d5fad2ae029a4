-- The free pages of a store that was loaded, beside those of its directory.
use Rattle.std.specs.Prelude.{Bool, true, false, cond, map, ◌==◌}
use Rattle.std.proofs.Common.{◌≡◌, inl, inr, ℕ, zero, suc, ◌+◌, ◌-◌, ◌≤◌, ◌<◌, List, [], ◌∷◌, ◌++◌, length, get_or, refl, sym, ap, subst, ◌∙◌, arith}
use Rattle.std.proofs.lemmas.Bool.{cases_lt, eqb-true, eq-eqb, false≢true, ne_eqb}
use Rattle.std.specs.List.{Contains}
use Rattle.pg_map.specs.Holding.{times}
use Rattle.pg_map.specs.Kinds.{Each, Free, Slotted, Long}
use Rattle.pg_directory.specs.Levels.{pages_of, HasLevels}
use Rattle.pg_directory.specs.Trees.{StorePage, Plain, Directory, kind_of, key_at, page_at, one_if_directory, HasNoDirectory}
use Rattle.pg_directory.specs.Unused.{one_unused, unused_to}
use Rattle.pg_directory.specs.declared.entries.Child.{Child}
use Rattle.pg_directory.specs.declared.entries.EntryAt.{EntryAt}
use Rattle.pg_directory.specs.laws.Counting.{rising_differ}
use Rattle.pg_directory.specs.laws.Listing.{first_in, later_in}
use Rattle.pg_directory.specs.laws.Visiting.{are_met}
use Rattle.pg_plan.specs.FreePlaces.{times_listed, one_if_free, free_at, ListsFree}
use Rattle.pg_heap.proofs.Freeing.{times-append}

-- ---- the places of numbers

pub listed_numbers : (ns : List ℕ) (at : ℕ) → Each (λ (n : ℕ). 3 ≤ n) ns → times_listed (map (λ (n : ℕ). n - 3) ns) at ≡ times (3 + at) ns
listed_numbers [] at low = refl
listed_numbers (n ∷ ns) at low = of (n == 3 + at) refl (listed_numbers ns at low.1)
  where
    of : (b : Bool) → (n == 3 + at) ≡ b → times_listed (map (λ (n : ℕ). n - 3) ns) at ≡ times (3 + at) ns → times_listed (map (λ (n : ℕ). n - 3) (n ∷ ns)) at ≡ times (3 + at) (n ∷ ns)
    of true is rest =
        let same : n - 3 ≡ at = let e = eqb-true n (3 + at) is in omega (arith, e) in
        let a = ap (λ (b : Bool). cond b 1 0 + times_listed (map (λ (n : ℕ). n - 3) ns) at) (eq-eqb (n - 3) at same) in
        let b = ap (λ (b : Bool). cond b (1 + times (3 + at) ns) (times (3 + at) ns)) is in
        omega (arith, a, b, rest)
    of false is rest =
        let l = low.0 in
        let apart : (n - 3 ≡ at) → ⊥ = λ e. let same : n ≡ 3 + at = omega (arith, e, l) in false≢true (sym is ∙ eq-eqb n (3 + at) same) in
        let a = ap (λ (b : Bool). cond b 1 0 + times_listed (map (λ (n : ℕ). n - 3) ns) at) (ne_eqb (n - 3) at apart) in
        let b = ap (λ (b : Bool). cond b (1 + times (3 + at) ns) (times (3 + at) ns)) is in
        omega (arith, a, b, rest)

-- ---- the places of free pages

-- 1 where a page is free and of no directory
one_if_unused : StorePage → ℕ
one_if_unused (Plain Free) = 1
one_if_unused (Plain (Slotted ss)) = 0
one_if_unused (Plain (Long next bytes)) = 0
one_if_unused (Directory d) = 0

listed_here : (p : StorePage) (at : ℕ) → times_listed (one_unused p at) at ≡ one_if_unused p
unfolding one_if_unused
listed_here (Plain Free) at = ap (λ (b : Bool). cond b 1 0 + 0) (eq-eqb at at refl)
listed_here (Plain (Slotted ss)) at = refl
listed_here (Plain (Long next bytes)) at = refl
listed_here (Directory d) at = refl

listed_elsewhere : (p : StorePage) (n at : ℕ) → (n ≡ at → ⊥) → times_listed (one_unused p n) at ≡ 0
listed_elsewhere (Plain Free) n at apart = ap (λ (b : Bool). cond b 1 0 + 0) (ne_eqb n at apart)
listed_elsewhere (Plain (Slotted ss)) n at apart = refl
listed_elsewhere (Plain (Long next bytes)) n at apart = refl
listed_elsewhere (Directory d) n at apart = refl

unused_past : (pages : List StorePage) (n at : ℕ) → n ≤ at → times_listed (unused_to pages n) at ≡ 0
unused_past pages zero at past = refl
unused_past pages (suc n) at past =
    let a = times-append (unused_to pages n) (one_unused (get_or pages n (Plain Free)) n) at in
    let b = unused_past pages n at (omega (arith, past)) in
    let c = listed_elsewhere (get_or pages n (Plain Free)) n at (λ e. omega (arith, e, past)) in
    omega (arith, a, b, c)

unused_within : (pages : List StorePage) (n at : ℕ) → at < n → times_listed (unused_to pages n) at ≡ one_if_unused (get_or pages at (Plain Free))
unused_within pages zero at less = absurd (omega (arith, less))
unused_within pages (suc n) at less = elim (cases_lt at n) [
  | inl earlier ↦
      let a = times-append (unused_to pages n) (one_unused (get_or pages n (Plain Free)) n) at in
      let b = unused_within pages n at earlier in
      let c = listed_elsewhere (get_or pages n (Plain Free)) n at (λ e. omega (arith, e, earlier)) in
      omega (arith, a, b, c)
  | inr last ↦
      let same : n ≡ at = omega (arith, less, last) in
      let a = times-append (unused_to pages n) (one_unused (get_or pages n (Plain Free)) n) at in
      let b = unused_past pages n at (omega (arith, last)) in
      let c = ap (λ (k : ℕ). times_listed (one_unused (get_or pages k (Plain Free)) k) at) same ∙ listed_here (get_or pages at (Plain Free)) at in
      omega (arith, a, b, c)
]

-- ---- free pages, to the map

free_kind : (p : StorePage) → one_if_free (kind_of p) ≡ one_if_unused p + one_if_directory p
unfolding one_if_unused
free_kind (Plain Free) = refl
free_kind (Plain (Slotted ss)) = refl
free_kind (Plain (Long next bytes)) = refl
free_kind (Directory d) = refl

pub free_within : (pages : List StorePage) (at : ℕ) → at < length pages → free_at (map kind_of pages) at ≡ one_if_free (kind_of (get_or pages at (Plain Free)))
free_within [] at less = absurd (omega (arith, less))
free_within (p ∷ pages) zero less = refl
free_within (p ∷ pages) (suc at) less = free_within pages at (omega (arith, less))

pub free_past : (pages : List StorePage) (at : ℕ) → length pages ≤ at → free_at (map kind_of pages) at ≡ 0
free_past [] at past = refl
free_past (p ∷ pages) zero past = absurd (omega (arith, past))
free_past (p ∷ pages) (suc at) past = free_past pages at (omega (arith, past))

page_past : (pages : List StorePage) (at : ℕ) → length pages ≤ at → get_or pages at (Plain Free) ≡ Plain Free
page_past [] at past = refl
page_past (p ∷ pages) zero past = absurd (omega (arith, past))
page_past (p ∷ pages) (suc at) past = page_past pages at (omega (arith, past))

-- Free pages and those of the directory, each once, are the free ones to the map.
pub free_listed : (pages : List StorePage) (numbers : List ℕ) → Each (λ (n : ℕ). 3 ≤ n) numbers → ((i : ℕ) → 3 ≤ i → times i numbers ≡ one_if_directory (page_at pages i))
    → ListsFree (map kind_of pages) (unused_to pages (length pages) ++ map (λ (n : ℕ). n - 3) numbers)
free_listed pages numbers low once = record {
  each = λ at. elim (cases_lt at (length pages)) [
    | inl within ↦
        let n : (3 + at) - 3 ≡ at = omega arith in
        let a = times-append (unused_to pages (length pages)) (map (λ (n : ℕ). n - 3) numbers) at in
        let b = unused_within pages (length pages) at within in
        let c = listed_numbers numbers at low ∙ once (3 + at) (omega arith) ∙ ap (λ (k : ℕ). one_if_directory (get_or pages k (Plain Free))) n in
        let d = free_within pages at within ∙ free_kind (get_or pages at (Plain Free)) in
        omega (arith, a, b, c, d)
    | inr past ↦
        let n : (3 + at) - 3 ≡ at = omega arith in
        let a = times-append (unused_to pages (length pages)) (map (λ (n : ℕ). n - 3) numbers) at in
        let b = unused_past pages (length pages) at past in
        let c = listed_numbers numbers at low ∙ once (3 + at) (omega arith) ∙ ap (λ (k : ℕ). one_if_directory (get_or pages k (Plain Free))) n ∙ ap one_if_directory (page_past pages at past) in
        let d = free_past pages at past in
        omega (arith, a, b, c, d)
  ];
}

-- the pages of a directory stand behind the root
pub levels_low : (pages : List StorePage) (top : ℕ) (inner : List ℕ) (leaves : List Child) (es : List EntryAt) → HasLevels pages top inner leaves es → Each (λ (n : ℕ). 3 ≤ n) (inner ++ pages_of leaves)
levels_low pages top inner leaves es h =
    let met = are_met pages h.level (record { page = top; least = h.least } ∷ []) inner leaves es h.leads h.are (rising_differ (key_at pages) es h.order) in
    each (inner ++ pages_of leaves) (λ k has. (met.levels k has).low)
  where
    each : (ns : List ℕ) → ((k : ℕ) → Contains ns k → 3 ≤ k) → Each (λ (n : ℕ). 3 ≤ n) ns
    each [] low = tt
    each (n ∷ ns) low = (low n (first_in n ns), each ns (λ k has. low k (later_in n k ns has)))

-- of a store with a directory
pub directed_free : (pages : List StorePage) (top : ℕ) (inner : List ℕ) (leaves : List Child) (es : List EntryAt) → HasLevels pages top inner leaves es → ListsFree (map kind_of pages) (unused_to pages (length pages) ++ map (λ (n : ℕ). n - 3) (inner ++ pages_of leaves))
directed_free pages top inner leaves es h = free_listed pages (inner ++ pages_of leaves) (levels_low pages top inner leaves es h) h.once

-- of one without
pub undirected_free : (pages : List StorePage) (top : ℕ) (inner : List ℕ) (leaves : List Child) → HasNoDirectory pages top → inner ≡ [] → leaves ≡ [] → ListsFree (map kind_of pages) (unused_to pages (length pages) ++ map (λ (n : ℕ). n - 3) (inner ++ pages_of leaves))
undirected_free pages top inner leaves none no_inner no_leaves =
    subst (λ (l : List ℕ). ListsFree (map kind_of pages) (unused_to pages (length pages) ++ map (λ (n : ℕ). n - 3) (l ++ pages_of leaves))) (sym no_inner)
    (subst (λ (l : List Child). ListsFree (map kind_of pages) (unused_to pages (length pages) ++ map (λ (n : ℕ). n - 3) ([] ++ pages_of l))) (sym no_leaves) (free_listed pages [] tt (λ i low. sym (none.no i low))))
