-- Nearness as the code tests it: by windows that open from a number on, and by chains of starts.
use Rattle.std.specs.Prelude.{ℕ, ◌≡◌, ◌+◌, ◌-◌, nat_le, min, max, Bool, true, false, ◌&&◌, List, [], ◌∷◌, filter, Option, Some, None, refl}
use Rattle.std.specs.Bool.{if◌then◌else◌}
use Rattle.std.specs.List.{list_any}
use Rattle.std.specs.Option.{option_and_then}
use Rattle.ct_base.specs.declared.numbers.Pair.{Pair}

-- by how much a pair ends before its start, at most: 0 where each is a run of words
abbrev pub most_turned : List Pair → ℕ
most_turned [] = 0
most_turned (p ∷ ps) = max (p.first - p.last) (most_turned ps)

abbrev pub all_turned : List (List Pair) → ℕ
all_turned [] = 0
all_turned (o ∷ os) = max (most_turned o) (all_turned os)

-- the pair starts at a number or behind it
abbrev pub starts_from : ℕ → Pair → Bool
starts_from s p = nat_le s p.first

-- ---- in any order

-- the least of an end and those of pairs
abbrev pub least_of : ℕ → List Pair → ℕ
least_of e [] = e
least_of e (p ∷ ps) = least_of (min e p.last) ps

abbrev pub least_of_all : List Pair → Option ℕ
least_of_all [] = None
least_of_all (p ∷ ps) = Some (least_of p.last ps)

-- the least end of the pairs that start at s or behind it
abbrev pub least_end : ℕ → List Pair → Option ℕ
least_end s o = least_of_all (filter (starts_from s) o)

-- where a window may open at the earliest, if none opens before s: it has a pair of each operand, so it reaches their least ends
abbrev pub opening : ℕ → ℕ → List (List Pair) → Option ℕ
opening span s [] = Some s
opening span s (o ∷ os) = option_and_then (λ e. opening span (max s (e - span)) os) (least_end s o)

-- ---- in order

-- the start of the first of the pairs that ends at `end` or before it
abbrev pub first_by : ℕ → List Pair → Option ℕ
first_by end [] = None
first_by end (p ∷ ps) = if nat_le p.last end then Some p.first else first_by end ps

-- the same of the pairs that start behind a number
abbrev pub next_start : ℕ → ℕ → List Pair → Option ℕ
next_start before end o = first_by end (filter (starts_from (before + 1)) o)

abbrev pub from_start : Option ℕ → (ℕ → Bool) → Bool
from_start None f = false
from_start (Some s) f = f s

-- the operands have occurrences whose starts rise from behind a number and that end at `end` or before it: each the first that may be
abbrev pub chains : List (List Pair) → ℕ → ℕ → Bool
chains [] before end = true
chains (o ∷ os) before end = from_start (next_start before end o) (λ s. chains os s end)

abbrev pub opens_chain : List (List Pair) → ℕ → Pair → Bool
opens_chain os span p = nat_le p.last (p.first + span) && chains os p.first (p.first + span)

abbrev pub chained : List (List Pair) → ℕ → Bool
chained [] span = true
chained (o ∷ os) span = list_any (opens_chain os span) o

-- computed examples: one operand at 1 and 20, another at 9 and 22, within five words
abbrev far_then_near : List (List Pair)
far_then_near = (record { first = 1; last = 1 } ∷ record { first = 20; last = 20 } ∷ []) ∷ (record { first = 9; last = 9 } ∷ record { first = 22; last = 22 } ∷ []) ∷ []

opens_behind : opening 5 0 far_then_near ≡ Some 4
opens_behind = refl

opens_here : opening 5 17 far_then_near ≡ Some 17
opens_here = refl

the_second_pair : next_start 9 25 (record { first = 10; last = 30 } ∷ record { first = 12; last = 13 } ∷ []) ≡ Some 12
the_second_pair = refl
