-- The numbers of pages that are to be written.
use Rattle.std.specs.Prelude.{◌≡◌, ℕ, zero, suc, ◌+◌, ◌-◌, ◌≤◌, nat_lt, List, [], ◌∷◌, ◌++◌, length, get_or, refl}
use Rattle.std.specs.Bool.{if◌then◌else◌}

-- the number of the page that is taken behind so many others: of free pages at these places, counted from the first one behind the root,
-- and then of those behind all pages
abbrev pub number_taken : List ℕ → ℕ → ℕ → ℕ
number_taken free homes n = if nat_lt n (length free) then get_or free n 0 + 3 else homes + (n - length free)

-- the numbers of so many
abbrev pub numbers_from : List ℕ → ℕ → ℕ → List ℕ
numbers_from free homes zero = []
numbers_from free homes (suc n) = numbers_from free homes n ++ number_taken free homes n ∷ []

-- how many home pages there are once so many were taken
abbrev pub homes_taken : List ℕ → ℕ → ℕ → ℕ
homes_taken free homes n = homes + (n - length free)

-- The numbers rise, from one on and below another.
abbrev pub AreRising : ℕ → ℕ → List ℕ → Type 0
AreRising low end [] = Unit {0}
AreRising low end (n ∷ ns) = (low ≤ n) × (suc n ≤ end) × AreRising (suc n) end ns

-- ---- computed example: of two free pages and eight home pages four are taken
four_of_two : numbers_from (0 ∷ 3 ∷ []) 8 4 ≡ 3 ∷ 6 ∷ 8 ∷ 9 ∷ []
four_of_two = refl

ten_then : homes_taken (0 ∷ 3 ∷ []) 8 4 ≡ 10
ten_then = refl
