-- What is left of a list that was mapped.
use Rattle.std.specs.Prelude.{◌≡◌, Bool, true, false, List, [], ◌∷◌, map, filter, refl}
use Rattle.std.proofs.Common.{cond, ap}

pub filter_mapped : {X Y : Type 0} (p : Y → Bool) (f : X → Y) (xs : List X) → map f (filter (λ x. p (f x)) xs) ≡ filter p (map f xs)
filter_mapped p f [] = refl
filter_mapped p f (x ∷ xs) = go (p (f x)) (filter_mapped p f xs)
  where
    go : (b : Bool) → map f (filter (λ x. p (f x)) xs) ≡ filter p (map f xs) → map f (cond b (x ∷ filter (λ x. p (f x)) xs) (filter (λ x. p (f x)) xs)) ≡ cond b (f x ∷ filter p (map f xs)) (filter p (map f xs))
    go true rest = ap (λ l. f x ∷ l) rest
    go false rest = rest
