-- Lists in order that have the same members, and the parts of a list whose members are apart.
use Rattle.std.specs.Prelude.{ℕ, zero, suc, ◌≡◌, ◌+◌, Bool, true, false, cond, List, [], ◌∷◌, map, filter, take, drop, length, ◌≤◌, refl}
use Rattle.std.specs.declared.cmp.Ordering.{Ordering}
use Rattle.std.specs.declared.cmp.Ordering.TheVariants.{Less, Equal, Greater}
use Rattle.std.specs.Ordering.{nat_cmp, is_lt}
use Rattle.std.specs.Cmp.Lexicographic.{slice_cmp}
use Rattle.std.proofs.Common.{sym, ap, subst, ◌∙◌, inl, inr, arith}
use Rattle.std.proofs.lemmas.Bool.{and_parts}
use Rattle.std.proofs.lemmas.Cmp.{nat_list_cmp_total}
use Rattle.ct_keep.specs.laws.RisingKeys.{below}
use Rattle.ct_entry.specs.Lists.{IsIn, AreApart}
use Rattle.ct_entry.specs.laws.Lists.{in_filter}
use Rattle.ix_repack.specs.Terms.{is_less}
use Rattle.ix_repack.specs.laws.Order.{Rising, AllAbove, above_in, in_above, not_itself}

-- ---- in order

less_than_itself : (a : List ℕ) → is_less a a ≡ true → ⊥
less_than_itself a h = let wrong : true ≡ false = sym h ∙ not_itself a in cc

not_both : (a b : List ℕ) → is_less a b ≡ true → is_less b a ≡ true → ⊥
not_both a b p q = less_than_itself a (ap is_lt (nat_list_cmp_total.trans a b a (less _ p) (less _ q)))
  where
    less : (o : Ordering) → is_lt o ≡ true → o ≡ Less
    less Less h = refl
    less Equal h = let wrong : false ≡ true = h in cc
    less Greater h = let wrong : false ≡ true = h in cc

abbrev IsUp : List (List ℕ) → Type 0
IsUp [] = Unit {0}
IsUp (t ∷ ts) = AllAbove t ts × IsUp ts

up_of : (ts : List (List ℕ)) → Rising ts ≡ true → IsUp ts
up_of [] up = tt
up_of (t ∷ ts) up = let p = and_parts (below (slice_cmp nat_cmp) t (map {B = List ℕ × Unit {0}} (λ u. (u, tt)) ts)) (Rising ts) up in (above_in t ts p.0, up_of ts p.1)

pub in_kept : {A : Type 0} (q : A → Bool) (x : A) (xs : List A) → IsIn x xs → q x ≡ true → IsIn x (filter q xs)
in_kept q x [] h passes = absurd h
in_kept q x (y ∷ ys) h passes = elim h [ inl e ↦ subst (λ (b : Bool). IsIn x (cond b (y ∷ filter q ys) (filter q ys))) (sym (ap q (sym e) ∙ passes)) (inl e) | inr r ↦ go (q y) (in_kept q x ys r passes) ]
  where
    go : (b : Bool) → IsIn x (filter q ys) → IsIn x (cond b (y ∷ filter q ys) (filter q ys))
    go true rest = inr rest
    go false rest = rest

module _ (q : List ℕ → Bool) where
  above_filter : (t : List ℕ) (us : List (List ℕ)) → AllAbove t us → AllAbove t (filter q us)
  above_filter t [] above = tt
  above_filter t (u ∷ us) above = go (q u) (above_filter t us above.1)
    where
      go : (b : Bool) → AllAbove t (filter q us) → AllAbove t (cond b (u ∷ filter q us) (filter q us))
      go true rest = (above.0, rest)
      go false rest = rest

  up_filter : (ts : List (List ℕ)) → IsUp ts → IsUp (filter q ts)
  up_filter [] up = tt
  up_filter (t ∷ ts) up = go (q t) (up_filter ts up.1)
    where
      go : (b : Bool) → IsUp (filter q ts) → IsUp (cond b (t ∷ filter q ts) (filter q ts))
      go true rest = (above_filter t ts up.0, rest)
      go false rest = rest

-- lists in order with the same members are one
one_list : (xs ys : List (List ℕ)) → IsUp xs → IsUp ys → ((u : List ℕ) → IsIn u xs → IsIn u ys) → ((u : List ℕ) → IsIn u ys → IsIn u xs) → xs ≡ ys
one_list [] [] up down to from = refl
one_list [] (y ∷ ys) up down to from = absurd (from y (inl refl))
one_list (x ∷ xs) [] up down to from = absurd (to x (inl refl))
one_list (x ∷ xs) (y ∷ ys) up down to from =
    let rest = one_list xs ys up.1 down.1 (λ u h. elim (to u (inr h)) [ inl e ↦ absurd (less_than_itself x (ap (is_less x) (first ∙ sym e) ∙ in_above x u xs up.0 h)) | inr r ↦ r ])
    (λ u h. elim (from u (inr h)) [ inl e ↦ absurd (less_than_itself y (ap (is_less y) (sym first ∙ sym e) ∙ in_above y u ys down.0 h)) | inr r ↦ r ]) in
    λ j. first j ∷ rest j
  where
    first : x ≡ y
    first = elim (to x (inl refl)) [ inl e ↦ e | inr r ↦ elim (from y (inl refl)) [ inl e ↦ sym e | inr s ↦ absurd (not_both x y (in_above x y xs up.0 s) (in_above y x ys down.0 r)) ] ]

-- LISTS IN ORDER with the same members that pass a test have the same ones of them
pub same_filtered : (q : List ℕ → Bool) (xs ys : List (List ℕ)) → Rising xs ≡ true → Rising ys ≡ true
    → ((u : List ℕ) → q u ≡ true → IsIn u xs → IsIn u ys) → ((u : List ℕ) → q u ≡ true → IsIn u ys → IsIn u xs) → filter q xs ≡ filter q ys
same_filtered q xs ys up down to from =
    one_list (filter q xs) (filter q ys) (up_filter q xs (up_of xs up)) (up_filter q ys (up_of ys down))
    (λ u h. let i = in_filter q u xs h in in_kept q u ys (to u i.1 i.0) i.1) (λ u h. let i = in_filter q u ys h in in_kept q u xs (from u i.1 i.0) i.1)

-- ---- apart

module _ {A : Type 0} where
  in_drop : (n : ℕ) (x : A) (xs : List A) → IsIn x (drop n xs) → IsIn x xs
  in_drop zero x xs h = h
  in_drop (suc n) x [] h = absurd h
  in_drop (suc n) x (y ∷ ys) h = inr (in_drop n x ys h)

  pub in_first : (n : ℕ) (x : A) (xs : List A) → IsIn x (take n xs) → IsIn x xs
  in_first zero x xs h = absurd h
  in_first (suc n) x [] h = absurd h
  in_first (suc n) x (y ∷ ys) h = elim h [ inl e ↦ inl e | inr r ↦ inr (in_first n x ys r) ]

  -- where there are some behind the first so many, these are as many
  pub first_counted : (n : ℕ) (xs : List A) → 1 ≤ length (drop n xs) → n + length (drop n xs) ≡ length xs
  first_counted zero xs some = omega arith
  first_counted (suc n) [] some = absurd (omega (arith, some))
  first_counted (suc n) (x ∷ xs) some = let rest = first_counted n xs some in omega (arith, rest)

  -- and where there are none, the first so many are all
  pub first_all : (n : ℕ) (xs : List A) → drop n xs ≡ [] → take n xs ≡ xs
  first_all zero xs none = sym none
  first_all (suc n) [] none = refl
  first_all (suc n) (x ∷ xs) none = ap (λ (l : List A). x ∷ l) (first_all n xs none)

  -- of the first so many none is behind them
  pub parts_apart : (n : ℕ) (x : A) (xs : List A) → AreApart xs → IsIn x (take n xs) → IsIn x (drop n xs) → ⊥
  parts_apart zero x xs apart h k = absurd h
  parts_apart (suc n) x [] apart h k = absurd h
  parts_apart (suc n) x (y ∷ ys) apart h k = elim h [ inl e ↦ apart.0 (subst (λ (z : A). IsIn z ys) e (in_drop n x ys k)) | inr r ↦ parts_apart n x ys apart.1 r k ]
