-- Where phrases occur among the words of a document, and how near occurrences stand.
use Rattle.std.specs.Prelude.{ℕ, ◌≡◌, ◌+◌, min, max, nat_lt, nat_le, eqb, Bool, true, false, ◌&&◌, ◌||◌, not, List, [], ◌∷◌, ◌++◌, length, map, filter, Option, Some, None, refl}
use Rattle.std.specs.Bool.{if◌then◌else◌}
use Rattle.std.specs.List.{flat_map, list_any, list_all}
use Rattle.ct_base.specs.declared.numbers.Pair.{Pair}

-- whether a number is in a list
abbrev pub has_number : List ℕ → ℕ → Bool
has_number [] p = false
has_number (q ∷ qs) p = eqb q p || has_number qs p

-- The slots of a phrase, each by the positions that it takes in a document, rising; None takes every position.
abbrev pub Slots : Type 0
Slots = List (Option (List ℕ))

-- whether one slot takes the position
abbrev pub fits_at : Option (List ℕ) → ℕ → Bool
fits_at None p = true
fits_at (Some ps) p = has_number ps p

-- whether the slots take the positions from p on
abbrev pub occurs_at : Slots → ℕ → Bool
occurs_at [] p = true
occurs_at (s ∷ ss) p = fits_at s p && occurs_at ss (p + 1)

-- whether a phrase stands at p, within lo to hi; `more` is how many slots follow the first
abbrev pub is_start : Slots → ℕ → ℕ → ℕ → Bool
is_start rest lo hi p = nat_le lo p && nat_le (p + length rest) hi && occurs_at rest (p + 1)

-- the starts of a phrase within lo to hi: its first slot isn't Any, so each is a position of that slot
abbrev pub phrase_starts : Slots → ℕ → ℕ → List ℕ
phrase_starts [] lo hi = []
phrase_starts (None ∷ rest) lo hi = []
phrase_starts (Some ps ∷ rest) lo hi = filter (is_start rest lo hi) ps

-- ---- occurrences as pairs of a start and an end

abbrev pub same_pair : Pair → Pair → Bool
same_pair a b = eqb a.first b.first && eqb a.last b.last

abbrev pub has_pair : List Pair → Pair → Bool
has_pair [] p = false
has_pair (q ∷ qs) p = same_pair q p || has_pair qs p

abbrev pub pairs_from : ℕ → List ℕ → List Pair
pairs_from more ps = map (λ p. record { first = p; last = p + more }) ps

abbrev pub more_slots : Slots → ℕ
more_slots [] = 0
more_slots (s ∷ ss) = length ss

-- the occurrences of one phrase
abbrev pub phrase_pairs : Slots → ℕ → ℕ → List Pair
phrase_pairs slots lo hi = pairs_from (more_slots slots) (phrase_starts slots lo hi)

-- the score of a phrase: how many occurrences it has, at most 100
abbrev pub phrase_score : List Pair → ℕ
phrase_score ps = min 100 (length ps)

-- the score of a term: the greatest of its phrases
abbrev pub term_score : List Slots → ℕ → ℕ → ℕ
term_score [] lo hi = 0
term_score (s ∷ ss) lo hi = max (phrase_score (phrase_pairs s lo hi)) (term_score ss lo hi)

-- the occurrences of the phrases of a term; one that several phrases have stands several times
abbrev pub term_pairs : List Slots → ℕ → ℕ → List Pair
term_pairs [] lo hi = []
term_pairs (s ∷ ss) lo hi = phrase_pairs s lo hi ++ term_pairs ss lo hi

-- each pair once
abbrev pub distinct : List Pair → List Pair
distinct [] = []
distinct (p ∷ ps) = if has_pair ps p then distinct ps else p ∷ distinct ps

-- ---- nearness

-- the ways to choose one occurrence of each operand
abbrev pub choices : List (List Pair) → List (List Pair)
choices [] = [] ∷ []
choices (o ∷ os) = flat_map (λ p. map (λ c. p ∷ c) (choices os)) o

-- each ends at most the span behind the start of each: so the greatest end less the least start is at most the span
abbrev pub is_within_span : ℕ → List Pair → Bool
is_within_span span c = list_all (λ p. list_all (λ q. nat_le p.last (q.first + span)) c) c

-- the starts rise strictly from behind a number
abbrev pub rises_from : ℕ → List Pair → Bool
rises_from before [] = true
rises_from before (p ∷ ps) = nat_lt before p.first && rises_from p.first ps

abbrev pub starts_rise : List Pair → Bool
starts_rise [] = true
starts_rise (p ∷ ps) = rises_from p.first ps

-- whether all stand within the span, and rise where they must
abbrev pub is_near : ℕ → Bool → List Pair → Bool
is_near span ordered c = is_within_span span c && (not ordered || starts_rise c)

abbrev pub near_holds : List (List Pair) → ℕ → Bool → Bool
near_holds operands span ordered = list_any (is_near span ordered) (choices operands)

-- the pair lies within lo to hi
abbrev pub is_pair_inside : ℕ → ℕ → Pair → Bool
is_pair_inside lo hi p = nat_le lo p.first && nat_le p.last hi

-- computed examples: `a b a b`, where a stands at 1 and 3, and b at 2 and 4
abbrev a_b : Slots
a_b = Some (1 ∷ 3 ∷ []) ∷ Some (2 ∷ 4 ∷ []) ∷ []

both : phrase_starts a_b 1 9 ≡ 1 ∷ 3 ∷ []
both = refl

one_inside : phrase_starts a_b 2 4 ≡ 3 ∷ []
one_inside = refl

-- a word between, whatever it is
around : phrase_starts (Some (1 ∷ 3 ∷ []) ∷ None ∷ Some (1 ∷ 3 ∷ []) ∷ []) 1 9 ≡ 1 ∷ []
around = refl

next_to_it : near_holds ((record { first = 1; last = 1 } ∷ []) ∷ (record { first = 2; last = 2 } ∷ []) ∷ []) 1 false ≡ true
next_to_it = refl

not_in_one_place : near_holds ((record { first = 1; last = 1 } ∷ []) ∷ (record { first = 2; last = 2 } ∷ []) ∷ []) 0 false ≡ false
not_in_one_place = refl

not_in_order : near_holds ((record { first = 2; last = 2 } ∷ []) ∷ (record { first = 1; last = 1 } ∷ []) ∷ []) 1 true ≡ false
not_in_order = refl
