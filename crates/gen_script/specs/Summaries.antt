-- The line that sums up the run of a script.
use Rattle.std.specs.Prelude.{ℕ, ◌≡◌, ◌+◌, List, ◌++◌, codes, refl}
use Rattle.std.specs.Fmt.{decimal, digits}

-- the statements of the script of n, its rows, and the lines of hits that its replies had
abbrev pub summary : ℕ → ℕ → List ℕ
summary n hits = codes "-- statements=" ++ decimal (n + 22) ++ codes " rows=" ++ decimal n ++ codes " hits=" ++ decimal hits ++ codes "\n"

-- computed example
of_eight : summary 8 54 ≡ codes "-- statements=30 rows=8 hits=54\n"
unfolding digits
of_eight = refl
