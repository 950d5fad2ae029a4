-- Terms in the order of their bytes, each once.
use Rattle.std.specs.Prelude.{ℕ, ◌≡◌, ◌+◌, Bool, true, false, ◌&&◌, List, [], ◌∷◌, bytes_eq, codes, refl}
use Rattle.std.specs.Bool.{if◌then◌else◌}
use Rattle.std.specs.List.{list_any, insert}
use Rattle.std.specs.Ordering.{nat_cmp, is_lt}
use Rattle.std.specs.Cmp.Lexicographic.{slice_cmp}

abbrev pub is_among_terms : List ℕ → List (List ℕ) → Bool
is_among_terms term terms = list_any (bytes_eq term) terms

-- whether a term is less than another, in the order of bytes
abbrev pub is_less : List ℕ → List ℕ → Bool
is_less a b = is_lt (slice_cmp nat_cmp a b)

-- whether each is less than the next, so that each stands once
abbrev pub rise : List (List ℕ) → Bool
rise [] = true
rise (t ∷ []) = true
rise (t ∷ u ∷ us) = is_less t u && rise (u ∷ us)

-- how many of them at the beginning are less
abbrev pub term_place : List ℕ → List (List ℕ) → ℕ
term_place term [] = 0
term_place term (t ∷ ts) = if is_less t term then term_place term ts + 1 else 0

-- with one more at its place, unless it is there
abbrev pub with_ordered_term : List ℕ → List (List ℕ) → List (List ℕ)
with_ordered_term term terms = if is_among_terms term terms then terms else insert terms (term_place term terms) term

-- with each of these, one after the other
abbrev pub with_ordered_terms : List (List ℕ) → List (List ℕ) → List (List ℕ)
with_ordered_terms terms [] = terms
with_ordered_terms terms (t ∷ ts) = with_ordered_terms (with_ordered_term t terms) ts

-- computed examples
in_order : with_ordered_terms [] (codes "dog" ∷ codes "cat" ∷ codes "dog" ∷ codes "catfish" ∷ []) ≡ codes "cat" ∷ codes "catfish" ∷ codes "dog" ∷ []
in_order = refl

none_twice : rise (codes "cat" ∷ codes "cat" ∷ []) ≡ false
none_twice = refl
