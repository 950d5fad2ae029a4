-- The sums of DEFINESCORE: their values, and their postfix form.
use Rattle.std.specs.Prelude.{ℕ, ℤ, pos, ◌+ℤ◌, ◌-ℤ◌, ◌*ℤ◌, ◌≡◌, min, Bool, true, not, ◌&&◌, List, [], ◌∷◌, ◌++◌, refl}
use Rattle.q_tree.specs.declared.flats.SumStep.{SumStep}
use Rattle.q_tree.specs.declared.flats.SumStep.TheVariants.{Number, Discrete, Occurrence, Plus, Minus as Less, Times}
use Rattle.q_tree.specs.Soundness.{is_operator}

-- ---- as trees

-- a number or a word, or two sums with an operator between
pub data Sum : Type 0 where
  Atom : SumStep → Sum
  Both : SumStep → Sum → Sum → Sum

-- operators stand between sums alone, and nothing else does
abbrev pub is_tree : Sum → Bool
is_tree (Atom s) = not (is_operator s)
is_tree (Both op a b) = is_operator op && (is_tree a && is_tree b)

-- the value of a number or a word, where the term occurs `k` times
abbrev pub atom_value : ℕ → SumStep → ℤ
atom_value k (Number n) = pos n
atom_value k Discrete = pos 100
atom_value k Occurrence = pos (min 100 k)
atom_value k s = pos 0

abbrev pub operator_value : SumStep → ℤ → ℤ → ℤ
operator_value Plus a b = a +ℤ b
operator_value Less a b = a -ℤ b
operator_value Times a b = a *ℤ b
operator_value s a b = pos 0

-- the value of a sum
abbrev pub sum_value : ℕ → Sum → ℤ
sum_value k (Atom s) = atom_value k s
sum_value k (Both op a b) = operator_value op (sum_value k a) (sum_value k b)

-- each operator behind its two sums
abbrev pub postfix : Sum → List SumStep
postfix (Atom s) = s ∷ []
postfix (Both op a b) = postfix a ++ (postfix b ++ op ∷ [])

-- the steps are the postfix form of a sum
pub record IsPostfix (steps : List SumStep) : Type 0 where
  pub sum : Sum
  pub tree : is_tree sum ≡ true
  pub spelt : postfix sum ≡ steps

-- ---- as steps over a stack of values

abbrev pub sum_step : ℕ → SumStep → List ℤ → List ℤ
sum_step k Plus (b ∷ a ∷ stack) = operator_value Plus a b ∷ stack
sum_step k Less (b ∷ a ∷ stack) = operator_value Less a b ∷ stack
sum_step k Times (b ∷ a ∷ stack) = operator_value Times a b ∷ stack
sum_step k Plus stack = []
sum_step k Less stack = []
sum_step k Times stack = []
sum_step k s stack = atom_value k s ∷ stack

abbrev pub sum_of : ℕ → List SumStep → List ℤ → List ℤ
sum_of k [] stack = stack
sum_of k (s ∷ ss) stack = sum_of k ss (sum_step k s stack)

abbrev pub top : List ℤ → ℤ
top [] = pos 0
top (x ∷ xs) = x

-- the value of a sum in postfix form
abbrev pub steps_value : ℕ → List SumStep → ℤ
steps_value k steps = top (sum_of k steps [])

-- ---- computed examples

-- OCCURRENCE * 10 + 5
abbrev ten_times_and_5 : Sum
ten_times_and_5 = Both Plus (Both Times (Atom Occurrence) (Atom (Number 10))) (Atom (Number 5))

its_value : sum_value 2 ten_times_and_5 ≡ pos 25
its_value = refl

its_postfix : postfix ten_times_and_5 ≡ Occurrence ∷ Number 10 ∷ Times ∷ Number 5 ∷ Plus ∷ []
its_postfix = refl

by_steps : steps_value 2 (postfix ten_times_and_5) ≡ pos 25
by_steps = refl

-- 0 - 5 + 7: from the left
from_the_left : sum_value 1 (Both Plus (Both Less (Atom (Number 0)) (Atom (Number 5))) (Atom (Number 7))) ≡ pos 2
from_the_left = refl
