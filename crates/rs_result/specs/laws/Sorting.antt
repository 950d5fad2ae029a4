-- What holds of lists in order.
use Rattle.std.proofs.Common.{◌≡◌, zero, suc, ◌+◌, Bool, true, false, cond, ◌⊎◌, inl, inr, ⊎_elim, List, [], ◌∷◌, length, map, All, Contains, refl, sym, ap, ap₂, subst, ◌∙◌, arith, true≢false, IsPermutation, IsSorted}
use Rattle.std.specs.declared.cmp.Ordering.{Ordering}
use Rattle.std.specs.declared.cmp.Ordering.TheVariants.{Less, Equal, Greater}
use Rattle.std.specs.Ordering.{eq_by_cmp, is_eq, is_lt, ordering_reverse}
use Rattle.std.specs.Cmp.{IsStrictWeakOrder, IsTotalOrder}
use Rattle.std.specs.List.{AllByRecursion, IsDistinct}
use Rattle.std.specs.List.Sorted.{IsStrictlySortedBy}
use Rattle.std.proofs.lemmas.Cmp.{eq_by_cmp_equiv, tied_itself}
use Rattle.std.proofs.lemmas.List.Elements.{All-cons, All-contains, All-contains_itself, All-from_recursion, All-weaker, Contains-append_left, Contains-append_right, Contains-push, recursion_from_All}
use Rattle.std.proofs.lemmas.List.Sorted.{All-permutation, Contains-permutation, IsPermutation-cons, IsPermutation-middle, IsPermutation-refl, IsPermutation-sym, IsPermutation-trans, length_permutation, ranks_by}
use Rattle.std.proofs.lemmas.Map.Keys.{IsDistinct-IsPermutation, apart_from_distinct, sorted_from_all_adjacent, sorted_head, sorted_tail}
use Rattle.rs_result.specs.Sorting.{HasOneOrder, insert_by, sorted_by}

-- ---- members

module _ {X : Type 0} where
  first_member : (x : X) (xs : List X) → Contains (x ∷ xs) x
  first_member x xs = Contains-append_left (x ∷ []) xs x (Contains-push [] x)

  later_member : (x : X) (xs : List X) (z : X) → Contains xs z → Contains (x ∷ xs) z
  later_member x xs z c = Contains-append_right (x ∷ []) xs z c

  one_of : (x : X) (xs : List X) (z : X) → Contains (x ∷ xs) z → (z ≡ x) ⊎ Contains xs z
  one_of x xs z =
      let P : X → Type 0 = λ y. (y ≡ x) ⊎ Contains xs y in
      All-contains P (x ∷ xs) z (All-cons P x xs (inl refl) (All-weaker (Contains xs) P (λ y c. inr c) xs (All-contains_itself xs)))

  no_member : (z : X) → Contains [] z → ⊥
  no_member z c = let within = c.1 in omega arith

-- ---- the same elements

module _ {X : Type 0} (cmp : X → X → Ordering) where
  insert_permutes : (x : X) (ys : List X) → IsPermutation (x ∷ ys) (insert_by cmp x ys)
  insert_permutes x [] = IsPermutation-refl (x ∷ [])
  insert_permutes x (y ∷ ys) =
      elim (is_lt (cmp y x)) as (λ b. IsPermutation (x ∷ y ∷ ys) (cond b (y ∷ insert_by cmp x ys) (x ∷ y ∷ ys))) [
        | true ↦ IsPermutation-trans _ _ _ (IsPermutation-sym _ _ (IsPermutation-middle (y ∷ []) x ys)) (IsPermutation-cons y _ _ (insert_permutes x ys))
        | false ↦ IsPermutation-refl _
      ]

  pub sorted_permutes : (xs : List X) → IsPermutation xs (sorted_by cmp xs)
  sorted_permutes [] = IsPermutation-refl []
  sorted_permutes (x ∷ xs) = IsPermutation-trans _ _ _ (IsPermutation-cons x _ _ (sorted_permutes xs)) (insert_permutes x (sorted_by cmp xs))

  pub sorted_length : (xs : List X) → length (sorted_by cmp xs) ≡ length xs
  sorted_length xs = length_permutation xs _ (sorted_permutes xs)

  -- ---- in order

  -- the list doesn't begin with less than x
  abbrev pub IsAtMostFirst : X → List X → Type 0
  IsAtMostFirst x [] = Unit {0}
  IsAtMostFirst x (y ∷ ys) = is_lt (cmp y x) ≡ false

  -- what `IsSorted` says, element by element
  abbrev pub Rises : List X → Type 0
  Rises [] = Unit {0}
  Rises (x ∷ xs) = IsAtMostFirst x xs × Rises xs

  -- x before y, where y isn't above it, and before what follows y
  still_first : (x y : X) (zs : List X) → is_lt (cmp x y) ≡ false → IsAtMostFirst y zs → IsAtMostFirst y (insert_by cmp x zs)
  still_first x y [] low first = low
  still_first x y (z ∷ zs) low first = elim (is_lt (cmp z x)) as (λ b. IsAtMostFirst y (cond b (z ∷ insert_by cmp x zs) (x ∷ z ∷ zs))) [ true ↦ first | false ↦ low ]

  insert_rises : IsStrictWeakOrder (λ x y. is_lt (cmp x y)) → (x : X) (ys : List X) → Rises ys → Rises (insert_by cmp x ys)
  insert_rises order x [] up = (tt, tt)
  insert_rises order x (y ∷ ys) up = go (is_lt (cmp y x)) refl (insert_rises order x ys up.1)
    where
      go : (b : Bool) → is_lt (cmp y x) ≡ b → Rises (insert_by cmp x ys) → Rises (cond b (y ∷ insert_by cmp x ys) (x ∷ y ∷ ys))
      go true e more = (still_first x y ys (order.one_way y x e) up.0, more)
      go false e more = (e, up)

  pub sorted_rises : IsStrictWeakOrder (λ x y. is_lt (cmp x y)) → (xs : List X) → Rises (sorted_by cmp xs)
  sorted_rises order [] = tt
  sorted_rises order (x ∷ xs) = insert_rises order x (sorted_by cmp xs) (sorted_rises order xs)

  in_order_cons : (x : X) (xs : List X) → IsAtMostFirst x xs → IsSorted cmp xs → IsSorted cmp (x ∷ xs)
  in_order_cons x [] first up k d from until = absurd (omega (arith, until))
  in_order_cons x (y ∷ ys) first up zero d from until = first
  in_order_cons x (y ∷ ys) first up (suc k) d from until = let e : suc k + 1 ≡ suc (k + 1) = omega arith in rw e (up k d (omega arith) (omega arith))

  in_order_from_rises : (xs : List X) → Rises xs → IsSorted cmp xs
  in_order_from_rises [] up = λ k d from until. absurd (omega (arith, until))
  in_order_from_rises (x ∷ xs) up = in_order_cons x xs up.0 (in_order_from_rises xs up.1)

  pub rises_from_in_order : (xs : List X) → IsSorted cmp xs → Rises xs
  rises_from_in_order [] up = tt
  rises_from_in_order (x ∷ []) up = (tt, tt)
  rises_from_in_order (x ∷ y ∷ ys) up =
      (up 0 x (omega arith) (omega arith), rises_from_in_order (y ∷ ys) (λ k d from until. let e : suc k + 1 ≡ suc (k + 1) = omega arith in rw e at (up (suc k) d (omega arith) (omega arith))))

  pub sorted_in_order : IsStrictWeakOrder (λ x y. is_lt (cmp x y)) → (xs : List X) → IsSorted cmp (sorted_by cmp xs)
  sorted_in_order order xs = in_order_from_rises _ (sorted_rises order xs)

  insert_first : (x : X) (xs : List X) → IsAtMostFirst x xs → insert_by cmp x xs ≡ x ∷ xs
  insert_first x [] first = refl
  insert_first x (y ∷ ys) first = ap (λ (b : Bool). cond b (y ∷ insert_by cmp x ys) (x ∷ y ∷ ys)) first

  pub rising_stays : (xs : List X) → Rises xs → sorted_by cmp xs ≡ xs
  rising_stays [] up = refl
  rising_stays (x ∷ xs) up = ap (insert_by cmp x) (rising_stays xs up.1) ∙ insert_first x xs up.0

  pub in_order_stays : (xs : List X) → IsSorted cmp xs → sorted_by cmp xs ≡ xs
  in_order_stays xs up = rising_stays xs (rises_from_in_order xs up)

-- ---- one order only

module _ {X : Type 0} (cmp : X → X → Ordering) (total : IsTotalOrder cmp) where
  less_from : (a b : X) → is_lt (cmp b a) ≡ false → is_eq (cmp a b) ≡ false → cmp a b ≡ Less
  less_from a b low apart = go (cmp a b) refl
    where
      go : (o : Ordering) → cmp a b ≡ o → cmp a b ≡ Less
      go Less e = e
      go Equal e = absurd (true≢false (sym (ap is_eq e) ∙ apart))
      go Greater e = absurd (true≢false (sym (ap is_lt (total.antisymm b a ∙ ap ordering_reverse e)) ∙ low))

  not_itself : (x z : X) → cmp x z ≡ Less → z ≡ x → ⊥
  not_itself x z low e = true≢false (sym (ap is_eq (tied_itself total x)) ∙ ap is_eq (subst (λ w. cmp x w ≡ Less) e low))

  not_both : (x y : X) → cmp x y ≡ Less → cmp y x ≡ Less → ⊥
  not_both x y e f = true≢false (sym (ap is_lt e) ∙ ap is_lt (total.antisymm x y ∙ ap ordering_reverse f))

  strictly : (xs : List X) → IsSorted cmp xs → IsDistinct (eq_by_cmp cmp) xs → IsStrictlySortedBy cmp xs
  unfolding IsStrictlySortedBy
  strictly [] up apart = tt
  strictly (x ∷ xs) up apart =
      sorted_from_all_adjacent total (x ∷ xs) x (λ k until. less_from _ _ (up k x (omega arith) until) (apart_from_distinct (eq_by_cmp cmp) (x ∷ xs) k (k + 1) x apart (omega arith) until))

  below : (x : X) (xs : List X) (z : X) → IsStrictlySortedBy cmp (x ∷ xs) → Contains xs z → cmp x z ≡ Less
  below x xs z up = All-contains (λ w. cmp x w ≡ Less) xs z (All-from_recursion _ xs (sorted_head cmp x xs up))

  one_head : (x y : X) (xs ys : List X) → IsStrictlySortedBy cmp (x ∷ xs) → IsStrictlySortedBy cmp (y ∷ ys) → Contains (y ∷ ys) x → Contains (x ∷ xs) y → x ≡ y
  one_head x y xs ys up rise a b =
      ⊎_elim (λ e. e) (λ c. ⊎_elim (λ e. sym e) (λ d. absurd (not_both x y (below x xs y up d) (below y ys x rise c))) (one_of x xs y b)) (one_of y ys x a)

  -- a member of the one rest is one of the other
  in_rest : (x y : X) (xs ys : List X) → x ≡ y → IsStrictlySortedBy cmp (x ∷ xs) → ((z : X) → Contains (x ∷ xs) z → Contains (y ∷ ys) z) → (z : X) → Contains xs z → Contains ys z
  in_rest x y xs ys head up each z c = ⊎_elim (λ e. absurd (not_itself x z (below x xs z up c) (e ∙ sym head))) (λ d. d) (one_of y ys z (each z (later_member x xs z c)))

  same_members : (xs ys : List X) → IsStrictlySortedBy cmp xs → IsStrictlySortedBy cmp ys → ((z : X) → Contains xs z → Contains ys z) → ((z : X) → Contains ys z → Contains xs z) → xs ≡ ys
  same_members [] [] up rise there back = refl
  same_members [] (y ∷ ys) up rise there back = absurd (no_member y (back y (first_member y ys)))
  same_members (x ∷ xs) [] up rise there back = absurd (no_member x (there x (first_member x xs)))
  same_members (x ∷ xs) (y ∷ ys) up rise there back =
      let head = one_head x y xs ys up rise (there x (first_member x xs)) (back y (first_member y ys)) in
      ap₂ ◌∷◌ head (same_members xs ys (sorted_tail cmp x xs up) (sorted_tail cmp y ys rise) (in_rest x y xs ys head up there) (in_rest y x ys xs (sym head) rise back))

  -- where none of the elements tie, no other list has them in order
  pub one_order : (xs : List X) → IsDistinct (eq_by_cmp cmp) xs → HasOneOrder cmp xs
  one_order xs apart ys same up =
      let flips = (eq_by_cmp_equiv total).symm in
      let made = sorted_permutes cmp xs in
      same_members ys (sorted_by cmp xs)
      (strictly ys up (IsDistinct-IsPermutation (eq_by_cmp cmp) flips xs ys same apart))
      (strictly _ (sorted_in_order cmp (ranks_by total (λ x. x)) xs) (IsDistinct-IsPermutation (eq_by_cmp cmp) flips xs _ made apart))
      (λ z c. Contains-permutation xs _ z made (Contains-permutation ys xs z (IsPermutation-sym xs ys same) c))
      (λ z c. Contains-permutation xs ys z same (Contains-permutation _ xs z (IsPermutation-sym xs _ made) c))

-- ---- other comparisons

module _ {X : Type 0} (c d : X → X → Ordering) where
  insert_agrees : (x : X) (ys : List X) → AllByRecursion (λ y. c y x ≡ d y x) ys → insert_by c x ys ≡ insert_by d x ys
  insert_agrees x [] agree = refl
  insert_agrees x (y ∷ ys) agree = λ i. cond (is_lt (agree.0 i)) (y ∷ insert_agrees x ys agree.1 i) (x ∷ y ∷ ys)

  -- two comparisons that agree on the elements
  pub sorted_agrees : (xs : List X) → ((x y : X) → Contains xs x → Contains xs y → c x y ≡ d x y) → sorted_by c xs ≡ sorted_by d xs
  sorted_agrees [] agree = refl
  sorted_agrees (x ∷ xs) agree =
      let P : X → Type 0 = λ y. c y x ≡ d y x in
      let each : All P xs = All-weaker (Contains xs) P (λ y m. agree y x (later_member x xs y m) (first_member x xs)) xs (All-contains_itself xs) in
      ap (insert_by c x) (sorted_agrees xs (λ y z m n. agree y z (later_member x xs y m) (later_member x xs z n)))
      ∙ insert_agrees x (sorted_by d xs) (recursion_from_All P (sorted_by d xs) (All-permutation P xs (sorted_by d xs) (sorted_permutes d xs) each))

module _ {X Y : Type 0} (cmp : Y → Y → Ordering) (f : X → Y) where
  insert_through : (x : X) (ys : List X) → insert_by cmp (f x) (map f ys) ≡ map f (insert_by (λ a b. cmp (f a) (f b)) x ys)
  insert_through x [] = refl
  insert_through x (y ∷ ys) =
      elim (is_lt (cmp (f y) (f x)))
      as (λ b. cond b (f y ∷ insert_by cmp (f x) (map f ys)) (f x ∷ f y ∷ map f ys) ≡ map f (cond b (y ∷ insert_by (λ a c. cmp (f a) (f c)) x ys) (x ∷ y ∷ ys)))
      [ true ↦ ap (λ (zs : List Y). f y ∷ zs) (insert_through x ys) | false ↦ refl ]

  -- images in order
  pub sorted_through : (xs : List X) → sorted_by cmp (map f xs) ≡ map f (sorted_by (λ a b. cmp (f a) (f b)) xs)
  sorted_through [] = refl
  sorted_through (x ∷ xs) = ap (insert_by cmp (f x)) (sorted_through xs) ∙ insert_through x (sorted_by (λ a b. cmp (f a) (f b)) xs)
