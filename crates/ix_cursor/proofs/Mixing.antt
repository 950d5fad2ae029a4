-- What was seen of the first of several parts, and what the others have.
use Rattle.std.proofs.Common.{ℕ, ◌≡◌, ◌<◌, ◌≤◌, ◌+◌, List, [], ◌∷◌, map, set, get_or, length, zero, suc, refl, ap, ◌∙◌, add-one, arith}

-- of the first so many parts what was seen, and of the others what they have
abbrev pub mixed : {X Y : Type 0} → (X → Y) → (X → Y) → ℕ → List X → List Y
mixed seen has zero xs = map has xs
mixed seen has (suc i) [] = []
mixed seen has (suc i) (x ∷ xs) = seen x ∷ mixed seen has i xs

-- one part more
mixed_suc : {X Y : Type 0} (seen has : X → Y) (xs : List X) (i : ℕ) (p x : X) → i < length xs → x ≡ get_or xs i x → seen p ≡ has x → mixed seen has (suc i) (set xs i p) ≡ mixed seen has i xs
mixed_suc seen has [] i p x few is h = absurd (omega (arith, few))
mixed_suc seen has (y ∷ xs) zero p x few is h = ap (λ z. z ∷ map has xs) (h ∙ ap has is)
mixed_suc seen has (y ∷ xs) (suc i) p x few is h = ap (λ zs. seen y ∷ zs) (mixed_suc seen has xs i p x (omega (arith, few)) is h)

pub mixed_more : {X Y : Type 0} (seen has : X → Y) (xs : List X) (i : ℕ) (p x : X) → i < length xs → x ≡ get_or xs i x → seen p ≡ has x → mixed seen has (i + 1) (set xs i p) ≡ mixed seen has i xs
mixed_more seen has xs i p x few is h = ap (λ n. mixed seen has n (set xs i p)) (add-one i) ∙ mixed_suc seen has xs i p x few is h

pub mixed_all : {X Y : Type 0} (seen has : X → Y) (xs : List X) (i : ℕ) → length xs ≤ i → mixed seen has i xs ≡ map seen xs
mixed_all seen has [] zero all = refl
mixed_all seen has [] (suc i) all = refl
mixed_all seen has (x ∷ xs) zero all = absurd (omega (arith, all))
mixed_all seen has (x ∷ xs) (suc i) all = ap (λ zs. seen x ∷ zs) (mixed_all seen has xs i (omega (arith, all)))
