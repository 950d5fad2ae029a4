-- Whether some bytes occur in others.
use Rattle.std.specs.Prelude.{ℕ, ◌≡◌, ◌==◌, ◌&&◌, ◌||◌, Bool, true, false, List, [], ◌∷◌, codes, refl}

abbrev pub begins_with : List ℕ → List ℕ → Bool
begins_with [] text = true
begins_with (p ∷ ps) [] = false
begins_with (p ∷ ps) (b ∷ bs) = b == p && begins_with ps bs

abbrev pub occurs : List ℕ → List ℕ → Bool
occurs part [] = begins_with part []
occurs part (b ∷ bs) = begins_with part (b ∷ bs) || occurs part bs

-- computed examples
in_the_middle : occurs (codes "b c") (codes "a b c d") ≡ true
in_the_middle = refl

not_whole : occurs (codes "c d") (codes "a b c") ≡ false
not_whole = refl
