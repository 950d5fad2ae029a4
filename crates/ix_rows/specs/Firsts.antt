-- The positions of a word whose places come as pairs, each of which is one position twice.
use Rattle.std.specs.Prelude.{ℕ, ◌≡◌, List, [], ◌∷◌, map, refl}
use Rattle.ct_base.specs.declared.numbers.Pair.{Pair}

abbrev pub first_positions : List Pair → List ℕ
first_positions ps = map (λ p. p.first) ps

-- computed example
two_positions : first_positions (record { first = 1; last = 1 } ∷ record { first = 3; last = 3 } ∷ []) ≡ 1 ∷ 3 ∷ []
two_positions = refl
