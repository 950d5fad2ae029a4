-- Keys whose bytes stand one behind the other.
use Rattle.std.specs.Prelude.{◌≡◌, ℕ, List, [], ◌∷◌, take, drop, codes, refl}

-- the keys of these lengths
abbrev pub cut_keys : List ℕ → List ℕ → List (List ℕ)
cut_keys [] bytes = []
cut_keys (n ∷ ns) bytes = take n bytes ∷ cut_keys ns (drop n bytes)

-- computed example
two_keys : cut_keys (2 ∷ 1 ∷ []) (codes "abc") ≡ codes "ab" ∷ codes "c" ∷ []
two_keys = refl
