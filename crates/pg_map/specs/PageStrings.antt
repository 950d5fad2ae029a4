-- The keys that the strings of a page spell.
use Rattle.std.specs.Prelude.{◌≡◌, ◌<◌, ℕ, List, [], ◌∷◌, length, get_or, take, drop, codes, refl}
use Rattle.pg_page.specs.Pages.{number_at}

-- the key that a string spells
abbrev pub string_key : List ℕ → List ℕ
string_key s = take (number_at s 1) (drop 3 s)

-- The string of this number has the key.
pub record IsKeyAt (ss : List (List ℕ)) (i : ℕ) (key : List ℕ) : Type 0 where
  pub within : i < length ss
  pub is : string_key (get_or ss i []) ≡ key

-- ---- computed example: a string of the first form, whose key has one byte
the_key_of_a_string : string_key (0 ∷ 0 ∷ 1 ∷ codes "kvw") ≡ codes "k"
the_key_of_a_string = refl
