-- Lists of numbers that rise strictly.
use Rattle.std.specs.Prelude.{ℕ, ◌≡◌, ◌<◌, ◌-◌, nat_le, Bool, ◌&&◌, List, [], ◌∷◌, map, filter, refl}

-- it rises, from above a number
abbrev pub Above : ℕ → List ℕ → Type 0
Above n [] = Unit {0}
Above n (p ∷ ps) = (n < p) × Above p ps

abbrev pub Rising : List ℕ → Type 0
Rising [] = Unit {0}
Rising (p ∷ ps) = Above p ps

-- the number is in lo to hi
abbrev pub is_between_places : ℕ → ℕ → ℕ → Bool
is_between_places lo hi p = nat_le lo p && nat_le p hi

-- the positions that lie so many before those of a list, where there are any
abbrev pub moved_back : ℕ → List ℕ → List ℕ
moved_back n ps = map (λ p. p - n) (filter (λ p. nat_le n p) ps)

-- computed examples
one_and_three : Above 0 (1 ∷ 3 ∷ []) → 0 < 1
one_and_three h = h.0

in_two_to_five : filter (is_between_places 2 5) (1 ∷ 3 ∷ 5 ∷ 6 ∷ []) ≡ 3 ∷ 5 ∷ []
in_two_to_five = refl

two_before : moved_back 2 (1 ∷ 2 ∷ 7 ∷ []) ≡ 0 ∷ 5 ∷ []
two_before = refl
