-- The list of free pages, while pages are taken and freed.
use Rattle.std.specs.Prelude.{Bool, cond}
use Rattle.std.proofs.Common.{◌≤◌, ◌<◌, ◌≡◌, ⊎_elim, ℕ, zero, suc, ◌+◌, List, [], ◌∷◌, ◌++◌, length, get_or, set, refl, sym, ap, subst, ◌∙◌, arith}
use Rattle.std.proofs.lemmas.Bool.{cases_eq, eq-eqb, ne_eqb}
use Rattle.pg_map.specs.Kinds.{Kind, Free, Slotted, Long}
use Rattle.pg_plan.specs.FreePlaces.{times_listed, one_if_free, free_at, ListsFree, used_pages}

-- ---- how often a place is listed

pub times-append : (xs ys : List ℕ) (at : ℕ) → times_listed (xs ++ ys) at ≡ times_listed xs at + times_listed ys at
times-append [] ys at = omega arith
times-append (x ∷ xs) ys at = of _ _ _ _ (times-append xs ys at)
  where
    of : (a b c d : ℕ) → a ≡ b + c → d + a ≡ d + b + c
    of a b c d e = omega (arith, e)

pub one_here : (x at : ℕ) → x ≡ at → times_listed (x ∷ []) at ≡ 1
one_here x at is = ap (λ (b : Bool). cond b 1 0 + 0) (eq-eqb x at is)

pub one_elsewhere : (x at : ℕ) → (x ≡ at → ⊥) → times_listed (x ∷ []) at ≡ 0
one_elsewhere x at apart = ap (λ (b : Bool). cond b 1 0 + 0) (ne_eqb x at apart)

-- ---- whether a page is free

free_set_here : (ks : List Kind) (at : ℕ) (k : Kind) → at < length ks → free_at (set ks at k) at ≡ one_if_free k
free_set_here [] at k less = absurd (omega (arith, less))
free_set_here (j ∷ ks) zero k less = refl
free_set_here (j ∷ ks) (suc at) k less = free_set_here ks at k (omega (arith, less))

free_set_elsewhere : (ks : List Kind) (at i : ℕ) (k : Kind) → (at ≡ i → ⊥) → free_at (set ks at k) i ≡ free_at ks i
free_set_elsewhere [] at i k apart = refl
free_set_elsewhere (j ∷ ks) zero zero k apart = absurd (apart refl)
free_set_elsewhere (j ∷ ks) zero (suc i) k apart = refl
free_set_elsewhere (j ∷ ks) (suc at) zero k apart = refl
free_set_elsewhere (j ∷ ks) (suc at) (suc i) k apart = free_set_elsewhere ks at i k (λ e. apart (ap suc e))

pub record IsFreeAt (kinds : List Kind) (at : ℕ) : Type 0 where
  pub within : at < length kinds
  pub free : get_or kinds at Free ≡ Free

free_there : (ks : List Kind) (at : ℕ) → 1 ≤ free_at ks at → IsFreeAt ks at
free_there [] at some = absurd (omega (arith, some))
free_there (Free ∷ ks) zero some = record { within = omega arith; free = refl }
free_there (Slotted ss ∷ ks) zero some = absurd (omega (arith, some))
free_there (Long next bytes ∷ ks) zero some = absurd (omega (arith, some))
free_there (k ∷ ks) (suc at) some = let r = free_there ks at some in record { within = let w = r.within in omega (arith, w); free = r.free }

free_none : (ks : List Kind) (at : ℕ) → (get_or ks at Free ≡ Free → ⊥) → free_at ks at ≡ 0
free_none [] at used = refl
free_none (Free ∷ ks) zero used = absurd (used refl)
free_none (Slotted ss ∷ ks) zero used = refl
free_none (Long next bytes ∷ ks) zero used = refl
free_none (k ∷ ks) (suc at) used = free_none ks at used

free_once : (ks : List Kind) (at : ℕ) → free_at ks at ≤ 1
free_once [] at = omega arith
free_once (Free ∷ ks) zero = omega arith
free_once (Slotted ss ∷ ks) zero = omega arith
free_once (Long next bytes ∷ ks) zero = omega arith
free_once (k ∷ ks) (suc at) = free_once ks at

free_out : (ks : List Kind) (at : ℕ) → length ks ≤ at → free_at ks at ≡ 0
free_out [] at less = refl
free_out (k ∷ ks) zero less = absurd (omega (arith, less))
free_out (k ∷ ks) (suc at) less = free_out ks at (omega (arith, less))

free_got : (ks : List Kind) (at : ℕ) → at < length ks → free_at ks at ≡ one_if_free (get_or ks at Free)
free_got [] at less = absurd (omega (arith, less))
free_got (k ∷ ks) zero less = refl
free_got (k ∷ ks) (suc at) less = free_got ks at (omega (arith, less))

end_here : (ks : List Kind) → free_at (ks ++ Free ∷ []) (length ks) ≡ 1
end_here [] = refl
end_here (k ∷ ks) = end_here ks

end_elsewhere : (ks : List Kind) (i : ℕ) → (length ks ≡ i → ⊥) → free_at (ks ++ Free ∷ []) i ≡ free_at ks i
end_elsewhere [] zero apart = absurd (apart refl)
end_elsewhere [] (suc i) apart = refl
end_elsewhere (k ∷ ks) zero apart = refl
end_elsewhere (k ∷ ks) (suc i) apart = end_elsewhere ks i (λ e. apart (ap suc e))

-- ---- the steps

-- the place that was listed last is that of a free page
pub last_is_free : (ks : List Kind) (places : List ℕ) (at : ℕ) → ListsFree ks (places ++ at ∷ []) → IsFreeAt ks at
last_is_free ks places at l = free_there ks at (of _ _ _ _ (l.each at) (times-append places (at ∷ []) at) (one_here at at refl))
  where
    of : (a b c d : ℕ) → a ≡ d → a ≡ b + c → c ≡ 1 → 1 ≤ d
    of a b c d e f g = omega (arith, e, f, g)

-- it is listed no more, and then is used
pub used_up : (ks ls : List Kind) (places : List ℕ) (at : ℕ) (k : Kind) → ListsFree ks (places ++ at ∷ []) → one_if_free k ≡ 0 → ls ≡ set ks at k → ListsFree ls places
used_up ks ls places at k l full is = subst (λ (x : List Kind). ListsFree x places) (sym is) (record { each = λ i. ⊎_elim (λ here_. subst (λ (n : ℕ). times_listed places n ≡ free_at (set ks at k) n) here_ there) (λ apart. elsewhere i apart) (cases_eq at i) })
  where
    none : (a b c d : ℕ) → a ≡ d → a ≡ b + c → c ≡ 1 → d ≤ 1 → b ≡ 0
    none a b c d e f g h = omega (arith, e, f, g, h)

    there : times_listed places at ≡ free_at (set ks at k) at
    there = none _ _ _ _ (l.each at) (times-append places (at ∷ []) at) (one_here at at refl) (free_once ks at) ∙ sym (free_set_here ks at k (last_is_free ks places at l).within ∙ full)

    same_ : (a b c : ℕ) → a ≡ b + c → c ≡ 0 → b ≡ a
    same_ a b c f g = omega (arith, f, g)

    elsewhere : (i : ℕ) → (at ≡ i → ⊥) → times_listed places i ≡ free_at (set ks at k) i
    elsewhere i apart = same_ _ _ _ (times-append places (at ∷ []) i) (one_elsewhere at i apart) ∙ l.each i ∙ sym (free_set_elsewhere ks at i k apart)

-- a page is freed, and listed
pub given_back : (ks ls : List Kind) (places : List ℕ) (at : ℕ) → ListsFree ks places → at < length ks → (get_or ks at Free ≡ Free → ⊥) → ls ≡ set ks at Free → ListsFree ls (places ++ at ∷ [])
given_back ks ls places at l within used is = subst (λ (x : List Kind). ListsFree x (places ++ at ∷ [])) (sym is) (record { each = λ i. times-append places (at ∷ []) i ∙ ⊎_elim (λ here_. subst (λ (n : ℕ). times_listed places n + times_listed (at ∷ []) n ≡ free_at (set ks at Free) n) here_ there) (λ apart. elsewhere i apart) (cases_eq at i) })
  where
    one : (a b : ℕ) → a ≡ 0 → b ≡ 1 → a + b ≡ 1
    one a b e f = omega (arith, e, f)

    there : times_listed places at + times_listed (at ∷ []) at ≡ free_at (set ks at Free) at
    there = one _ _ (l.each at ∙ free_none ks at used) (one_here at at refl) ∙ sym (free_set_here ks at Free within)

    same_ : (a b : ℕ) → b ≡ 0 → a + b ≡ a
    same_ a b f = omega (arith, f)

    elsewhere : (i : ℕ) → (at ≡ i → ⊥) → times_listed places i + times_listed (at ∷ []) i ≡ free_at (set ks at Free) i
    elsewhere i apart = same_ _ _ (one_elsewhere at i apart) ∙ l.each i ∙ sym (free_set_elsewhere ks at i Free apart)

pub given_more : (ks ls : List Kind) (places more : List ℕ) (at : ℕ) → ListsFree ks places → at < length ks → (get_or ks at Free ≡ Free → ⊥) → ls ≡ set ks at Free → more ≡ places ++ at ∷ [] → ListsFree ls more
given_more ks ls places more at l within used is put = subst (ListsFree ls) (sym put) (given_back ks ls places at l within used is)

-- a page that isn't free becomes another that isn't
pub used_still : (ks ls : List Kind) (places : List ℕ) (at : ℕ) (k : Kind) → ListsFree ks places → at < length ks → (get_or ks at Free ≡ Free → ⊥) → one_if_free k ≡ 0 → ls ≡ set ks at k → ListsFree ls places
used_still ks ls places at k l within used full is = subst (λ (x : List Kind). ListsFree x places) (sym is) (record {
  each = λ i. l.each i ∙ ⊎_elim (λ here_. subst (λ (n : ℕ). free_at ks n ≡ free_at (set ks at k) n) here_ (free_none ks at used ∙ sym (free_set_here ks at k within ∙ full))) (λ apart. sym (free_set_elsewhere ks at i k apart)) (cases_eq at i);
})

-- one free page more, where there was none
pub added_free : (ks ls : List Kind) (places : List ℕ) → ListsFree ks places → places ≡ [] → ls ≡ ks ++ Free ∷ [] → ListsFree ls (places ++ length ks ∷ [])
added_free ks ls places l none is = subst (λ (x : List Kind). ListsFree x (places ++ length ks ∷ [])) (sym is) (record { each = λ i. times-append places (length ks ∷ []) i ∙ ap (λ (p : List ℕ). times_listed p i + times_listed (length ks ∷ []) i) none ∙ ⊎_elim (λ here_. subst (λ (n : ℕ). 0 + times_listed (length ks ∷ []) n ≡ free_at (ks ++ Free ∷ []) n) here_ there) (λ apart. elsewhere i apart) (cases_eq (length ks) i) })
  where
    one : (b : ℕ) → b ≡ 1 → 0 + b ≡ 1
    one b f = omega (arith, f)

    there : 0 + times_listed (length ks ∷ []) (length ks) ≡ free_at (ks ++ Free ∷ []) (length ks)
    there = one _ (one_here (length ks) (length ks) refl) ∙ sym (end_here ks)

    zero_ : (b : ℕ) → b ≡ 0 → 0 + b ≡ 0
    zero_ b f = omega (arith, f)

    elsewhere : (i : ℕ) → (length ks ≡ i → ⊥) → 0 + times_listed (length ks ∷ []) i ≡ free_at (ks ++ Free ∷ []) i
    elsewhere i apart = zero_ _ (one_elsewhere (length ks) i apart) ∙ sym (ap (λ (p : List ℕ). times_listed p i) none) ∙ l.each i ∙ sym (end_elsewhere ks i apart)

-- ---- how many pages are used

pub used_set : (ks : List Kind) (at : ℕ) (k : Kind) → used_pages (set ks at k) ≤ used_pages ks + 1
used_set [] at k = omega arith
used_set (Free ∷ ks) zero Free = omega arith
used_set (Free ∷ ks) zero (Slotted ss) = omega arith
used_set (Free ∷ ks) zero (Long next bytes) = omega arith
used_set (Slotted us ∷ ks) zero Free = omega arith
used_set (Slotted us ∷ ks) zero (Slotted ss) = omega arith
used_set (Slotted us ∷ ks) zero (Long next bytes) = omega arith
used_set (Long n b ∷ ks) zero Free = omega arith
used_set (Long n b ∷ ks) zero (Slotted ss) = omega arith
used_set (Long n b ∷ ks) zero (Long next bytes) = omega arith
used_set (Free ∷ ks) (suc at) k = used_set ks at k
used_set (Slotted ss ∷ ks) (suc at) k = let e = used_set ks at k in omega (arith, e)
used_set (Long next bytes ∷ ks) (suc at) k = let e = used_set ks at k in omega (arith, e)

pub used_over : (ks : List Kind) (at : ℕ) (k : Kind) → (get_or ks at Free ≡ Free → ⊥) → used_pages (set ks at k) ≤ used_pages ks
used_over [] at k used = omega arith
used_over (Free ∷ ks) zero k used = absurd (used refl)
used_over (Slotted us ∷ ks) zero Free used = omega arith
used_over (Slotted us ∷ ks) zero (Slotted ss) used = omega arith
used_over (Slotted us ∷ ks) zero (Long next bytes) used = omega arith
used_over (Long n b ∷ ks) zero Free used = omega arith
used_over (Long n b ∷ ks) zero (Slotted ss) used = omega arith
used_over (Long n b ∷ ks) zero (Long next bytes) used = omega arith
used_over (Free ∷ ks) (suc at) k used = used_over ks at k used
used_over (Slotted ss ∷ ks) (suc at) k used = let e = used_over ks at k used in omega (arith, e)
used_over (Long next bytes ∷ ks) (suc at) k used = let e = used_over ks at k used in omega (arith, e)

pub used_end : (ks : List Kind) → used_pages (ks ++ Free ∷ []) ≡ used_pages ks
used_end [] = refl
used_end (Free ∷ ks) = used_end ks
used_end (Slotted ss ∷ ks) = ap suc (used_end ks)
used_end (Long next bytes ∷ ks) = ap suc (used_end ks)

pub used_most : (ks : List Kind) → used_pages ks ≤ length ks
used_most [] = omega arith
used_most (Free ∷ ks) = let e = used_most ks in omega (arith, e)
used_most (Slotted ss ∷ ks) = let e = used_most ks in omega (arith, e)
used_most (Long next bytes ∷ ks) = let e = used_most ks in omega (arith, e)

pub used_all : (ks : List Kind) (places : List ℕ) → ListsFree ks places → places ≡ [] → used_pages ks ≡ length ks
used_all ks places l none = of ks (λ at. sym (l.each at) ∙ ap (λ (p : List ℕ). times_listed p at) none)
  where
    of : (ks : List Kind) → ((at : ℕ) → free_at ks at ≡ 0) → used_pages ks ≡ length ks
    of [] each = refl
    of (Free ∷ ks) each = let e = each 0 in absurd (omega (arith, e))
    of (Slotted ss ∷ ks) each = ap suc (of ks (λ at. each (suc at)))
    of (Long next bytes ∷ ks) each = ap suc (of ks (λ at. each (suc at)))
