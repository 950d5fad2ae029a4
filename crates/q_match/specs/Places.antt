-- At which places of a key the rest of a pattern may begin: a truth value, its mark, for each place, from that before the first character
-- to that after the last one.
use Rattle.std.specs.Prelude.{ℕ, ◌≡◌, eqb, Bool, true, false, ◌&&◌, ◌||◌, List, [], ◌∷◌, codes, refl}
use Rattle.std.specs.Str.{chars}
use lib.Utf8.{encode}
use Rattle.q_tree.specs.declared.flats.PatternBit.{PatternBit}
use Rattle.q_tree.specs.declared.flats.PatternBit.TheVariants.{Chars, One, Many}
use Rattle.q_tree.specs.Slots.{begins, behind_one, some_end, matches}

-- the characters begin as a piece of a pattern asks, and what follows has a property
abbrev pub piece : PatternBit → (List ℕ → Bool) → List ℕ → Bool
piece (Chars t) has cs = begins has (chars t) cs
piece One has cs = behind_one has cs
piece Many has cs = some_end has cs

-- from some marked place on the characters have a property
abbrev pub at_some : (List ℕ → Bool) → List Bool → List ℕ → Bool
at_some has [] cs = false
at_some has (b ∷ bs) [] = b && has []
at_some has (b ∷ bs) (c ∷ cs) = (b && has (c ∷ cs)) || at_some has bs cs

-- no mark at the places after the characters
abbrev pub unmarked : List ℕ → List Bool
unmarked [] = []
unmarked (c ∷ cs) = false ∷ unmarked cs

-- the marks after a character that passes a test, but for the first place, which then has none: each moved by one place
abbrev pub moved : (ℕ → Bool) → List Bool → List ℕ → List Bool
moved test bs [] = []
moved test [] (c ∷ cs) = []
moved test (b ∷ bs) (c ∷ cs) = (b && test c) ∷ moved test bs cs

-- the marks after any characters, or none: each place from the first that is marked on, or from the beginning
abbrev pub spread : Bool → List Bool → List Bool
spread before [] = []
spread before (b ∷ bs) = (before || b) ∷ spread (before || b) bs

-- ---- computed examples

-- after an `a` of `aha` the rest may begin at the places 1 and 3, counted from 0
after_an_a : false ∷ moved (λ c. eqb 97 c) (true ∷ true ∷ true ∷ true ∷ []) (codes "aha") ≡ false ∷ true ∷ false ∷ true ∷ []
after_an_a = refl

from_the_second_on : spread false (false ∷ true ∷ false ∷ []) ≡ false ∷ true ∷ true ∷ []
from_the_second_on = refl

-- from the place 1 of `hat` the pattern `at` matches, and from the place 2 it doesn't
at_matches : at_some (matches (Chars (codes "at") ∷ [])) (false ∷ true ∷ false ∷ false ∷ []) (codes "hat") ≡ true
unfolding encode chars
at_matches = refl

at_does_not : at_some (matches (Chars (codes "at") ∷ [])) (false ∷ false ∷ true ∷ false ∷ []) (codes "hat") ≡ false
unfolding encode chars
at_does_not = refl
