-- The characters of a text.
use Rattle.std.specs.Prelude.{ℕ, ◌≡◌, ◌==◌, Bool, false, List, [], ◌∷◌, Option, Some, None, true, codes, refl}

abbrev pub first : List ℕ → Option ℕ
first [] = None
first (c ∷ cs) = Some c

-- whether this is the first character
abbrev pub is_first : ℕ → List ℕ → Bool
is_first d [] = false
is_first d (c ∷ cs) = c == d

-- computed examples
first_of_three : first (codes "abc") ≡ Some 97
first_of_three = refl

first_of_none : first [] ≡ None
first_of_none = refl

begins_with_a : is_first 97 (codes "abc") ≡ true
begins_with_a = refl

not_with_b : is_first 98 (codes "abc") ≡ false
not_with_b = refl
