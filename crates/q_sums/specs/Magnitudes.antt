-- How great the values of a sum become at most.
use Rattle.std.specs.Prelude.{ℕ, ℤ, pos, negsuc, ◌≡◌, ◌*◌, ◌^◌, max, List, [], ◌∷◌, ◌++◌, refl}
use Rattle.std.specs.Bool.{if◌then◌else◌}
use Rattle.std.specs.Int.RustNames.{unsigned_abs}
use Rattle.q_tree.specs.declared.flats.SumStep.{SumStep}
use Rattle.q_tree.specs.declared.flats.SumStep.TheVariants.{Number, Occurrence, Plus, Times}
use Rattle.q_tree.specs.Soundness.{is_operator}

-- the values of a stack, the last one first
abbrev pub last_first : List ℤ → List ℤ
last_first [] = []
last_first (v ∷ vs) = last_first vs ++ v ∷ []

-- THE MAGNITUDE of a stack: the product of its values without their signs, each taken as at least 2. No operator makes it greater, as
-- neither the sum nor the difference of two numbers is greater than their product where both are at least 2.
abbrev pub magnitude : List ℤ → ℕ
magnitude [] = 1
magnitude (v ∷ vs) = max 2 (unsigned_abs v) * magnitude vs

-- how many times greater the numbers and words of the steps to come make it at most
abbrev pub growth : List SumStep → ℕ
growth [] = 1
growth (s ∷ ss) = if is_operator s then growth ss else 1000 * growth ss

-- how great it is at most in a sum of nine numbers and words
abbrev pub magnitude_limit : ℕ
magnitude_limit = 1000 ^ 9

-- ---- computed examples

the_last_first : last_first (pos 1 ∷ pos 2 ∷ []) ≡ pos 2 ∷ pos 1 ∷ []
the_last_first = refl

-- 0 counts as 2, and -7 as 7
of_two : magnitude (pos 0 ∷ negsuc 6 ∷ []) ≡ 14
of_two = refl

-- OCCURRENCE * 10 + 5
of_three : growth (Occurrence ∷ Number 10 ∷ Times ∷ Number 5 ∷ Plus ∷ []) ≡ 1000000000
of_three = refl
