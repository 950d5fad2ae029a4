-- Rising numbers, parted at one.
use Rattle.std.specs.Prelude.{ℕ, ◌≡◌, nat_lt, nat_le, List, [], ◌∷◌, refl}
use Rattle.std.specs.Bool.{if◌then◌else◌}

-- those at the front that are less than a number
abbrev pub lesser : ℕ → List ℕ → List ℕ
lesser n [] = []
lesser n (q ∷ qs) = if nat_lt q n then q ∷ lesser n qs else []

-- what is left without those at the front that are at most a number
abbrev pub greater : ℕ → List ℕ → List ℕ
greater n [] = []
greater n (q ∷ qs) = if nat_le q n then greater n qs else q ∷ qs

-- computed examples
below_4 : lesser 4 (1 ∷ 3 ∷ 4 ∷ 6 ∷ []) ≡ 1 ∷ 3 ∷ []
below_4 = refl

above_4 : greater 4 (1 ∷ 3 ∷ 4 ∷ 6 ∷ []) ≡ 6 ∷ []
above_4 = refl
