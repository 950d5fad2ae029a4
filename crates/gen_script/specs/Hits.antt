-- How many hits a run said: lines `key|score`. The `|` is the byte 124, and a newline 10. The keys of generated scripts are greater than 0.
use Rattle.std.specs.Prelude.{ℕ, ◌≡◌, ◌+◌, ◌==◌, ◌&&◌, Bool, true, false, List, [], ◌∷◌, ◌++◌, codes, refl}
use Rattle.std.specs.Bool.{if◌then◌else◌}
use Rattle.std.specs.Char.{is_ascii_digit}

-- the text without the digits that it begins with
abbrev pub after_digits : List ℕ → List ℕ
after_digits [] = []
after_digits (b ∷ bs) = if is_ascii_digit b then after_digits bs else b ∷ bs

abbrev pub begins_with_digit : List ℕ → Bool
begins_with_digit [] = false
begins_with_digit (b ∷ bs) = is_ascii_digit b

-- a line ends here
abbrev pub ends_line : List ℕ → Bool
ends_line [] = true
ends_line (b ∷ bs) = b == 10

-- what follows a key in a hit
abbrev pub begins_with_score : List ℕ → Bool
begins_with_score [] = false
begins_with_score (b ∷ bs) = b == 124 && (begins_with_digit bs && ends_line (after_digits bs))

-- the line that begins here is a hit: digits, a `|`, and digits
abbrev pub begins_with_hit : List ℕ → Bool
begins_with_hit text = begins_with_digit text && begins_with_score (after_digits text)

-- a line that is a hit counts for one
abbrev pub one_if_hit : Bool → List ℕ → ℕ
one_if_hit begins text = if begins && begins_with_hit text then 1 else 0

-- the hits from here on, where this tells whether a line begins here
abbrev pub hits_from : Bool → List ℕ → ℕ
hits_from begins [] = 0
hits_from begins (b ∷ bs) = one_if_hit begins (b ∷ bs) + hits_from (b == 10) bs

-- how many of the lines of a text are hits
abbrev pub hit_count : List ℕ → ℕ
hit_count text = hits_from true text

-- ---- computed examples

two_hits : hit_count (codes "1|2\n1 row created.\n23|100\n") ≡ 2
two_hits = refl

no_hits : hit_count (codes "no rows selected\n12\nE10: 1|2\n1|\n|2\n1|2|3\n1|2 \n") ≡ 0
no_hits = refl

no_newline : hit_count (codes "100000|1") ≡ 1
no_newline = refl
