-- Bytes that are all 0.
use Rattle.std.specs.Prelude.{◌≡◌, ℕ, List, [], ◌∷◌, replicate, refl}

abbrev pub zeros : ℕ → List ℕ
zeros n = replicate n 0

-- ---- computed example
three_zeros : zeros 3 ≡ 0 ∷ 0 ∷ 0 ∷ []
three_zeros = refl
