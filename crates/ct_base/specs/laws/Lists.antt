-- Lists.
use Rattle.std.proofs.Common.{◌≡◌, ◌<◌, ◌+◌, ℕ, zero, suc, Bool, true, false, List, [], ◌∷◌, ◌++◌, length, take, drop, get_or, map, refl, sym, ap, ◌∙◌, arith}
use Rattle.std.specs.Prelude.{nat_eq, filter, sum_by, ◌≤◌, ◌-◌}
use Rattle.std.specs.Cmp.Lexicographic.{pointwise}
use Rattle.std.proofs.lemmas.Bool.{eq-eqb, and_from}
use Rattle.std.proofs.lemmas.List.{take_at, drop_at}
use Rattle.std.proofs.lemmas.List.Sums.{sum_by-cons}
use Rattle.std.proofs.Math.Seq.{take-length}

module _ {X : Type 0} where
  -- equal lists have equal heads and equal rests
  pub cons_parts : (x y : X) (xs ys : List X) → x ∷ xs ≡ y ∷ ys → (x ≡ y) × (xs ≡ ys)
  cons_parts x y xs ys e = (cc, cc)

  -- lists that go on differently, after prefixes of one length
  pub append_parts : (a b r s : List X) → length a ≡ length b → a ++ r ≡ b ++ s → (a ≡ b) × (r ≡ s)
  append_parts a b r s long e = (
    sym (take_at a r (length a) refl) ∙ ap (take (length a)) e ∙ take_at b s (length a) (sym long),
    sym (drop_at a r (length a) refl) ∙ ap (drop (length a)) e ∙ drop_at b s (length a) (sym long),
  )

  -- the element at a place, and those behind it
  pub drop_next : (xs : List X) (i : ℕ) (x : X) → i < length xs → x ≡ get_or xs i x → drop i xs ≡ x ∷ drop (i + 1) xs
  drop_next [] i x within is = absurd (omega (arith, within))
  drop_next (y ∷ ys) zero x within is = ap (λ (z : X). z ∷ ys) (sym is)
  drop_next (y ∷ ys) (suc i) x within is =
      let next : suc (i + 1) ≡ suc i + 1 = omega arith in
      drop_next ys i x (omega (arith, within)) is ∙ ap (λ (n : ℕ). x ∷ drop n (y ∷ ys)) next

  -- a list by its first element and the others
  pub first_of : (xs : List X) (x : X) → 1 ≤ length xs → x ≡ get_or xs 0 x → xs ≡ x ∷ take (length xs - 1) (drop 1 xs)
  first_of [] x some is = absurd (omega (arith, some))
  first_of (y ∷ ys) x some is = let n : length (y ∷ ys) - 1 ≡ length ys = omega arith in rw n (ap (λ (z : X). z ∷ ys) (sym is) ∙ ap (λ (zs : List X). x ∷ zs) (sym (take-length ys)))

  -- one for each element
  pub each_counts : (xs : List X) → sum_by (λ _. 1) xs ≡ length xs
  each_counts [] = refl
  each_counts (x ∷ xs) = let c = sum_by-cons (λ (_ : X). 1) x xs in let rest = each_counts xs in omega (arith, c, rest)

module _ {X Y : Type 0} where
  -- those whose image passes a test, mapped, are the images that pass it
  pub map-filter : (p : Y → Bool) (f : X → Y) (xs : List X) → map f (filter (λ x. p (f x)) xs) ≡ filter p (map f xs)
  map-filter p f [] = refl
  map-filter p f (x ∷ xs) = go (p (f x)) refl (map-filter p f xs)
    where
      go : (b : Bool) → p (f x) ≡ b → map f (filter (λ y. p (f y)) xs) ≡ filter p (map f xs) → map f (filter (λ y. p (f y)) (x ∷ xs)) ≡ filter p (map f (x ∷ xs))
      go true e rest = rw e (ap (λ (ys : List Y). f x ∷ ys) rest)
      go false e rest = rw e rest

-- a list of numbers is the same as itself, element by element
pub same_as_itself : (xs : List ℕ) → pointwise nat_eq xs xs ≡ true
same_as_itself [] = refl
same_as_itself (x ∷ xs) = and_from _ _ (eq-eqb x x refl) (same_as_itself xs)
