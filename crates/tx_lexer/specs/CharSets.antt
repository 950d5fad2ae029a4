-- Sets of characters, as their characters in rising order, each once.
use Rattle.std.specs.Prelude.{ℕ, ◌+◌, ◌==◌, ◌≡◌, Bool, true, ◌&&◌, nat_lt, List, [], ◌∷◌, codes, refl}
use Rattle.std.specs.Bool.{if◌then◌else◌}
use Rattle.std.specs.List.{list_any, insert}

-- whether it is one of them
abbrev pub has : List ℕ → ℕ → Bool
has cs c = list_any (λ d. d == c) cs

-- how many of them at the beginning are less
abbrev pub place_of : ℕ → List ℕ → ℕ
place_of c [] = 0
place_of c (d ∷ ds) = if nat_lt d c then place_of c ds + 1 else 0

-- the set with one more, at its place
abbrev pub with_char : ℕ → List ℕ → List ℕ
with_char c set = if has set c then set else insert set (place_of c set) c

abbrev pub with_all : List ℕ → List ℕ → List ℕ
with_all set [] = set
with_all set (c ∷ cs) = with_all (with_char c set) cs

-- the set of the characters of a text
abbrev pub set_of : List ℕ → List ℕ
set_of text = with_all [] text

-- whether they rise, each above the one before it and the first above this
abbrev pub above : ℕ → List ℕ → Bool
above low [] = true
above low (c ∷ cs) = nat_lt low c && above c cs

abbrev pub rises : List ℕ → Bool
rises [] = true
rises (c ∷ cs) = above c cs

-- computed examples
joins : set_of (codes "-_-#") ≡ codes "#-_"
joins = refl
