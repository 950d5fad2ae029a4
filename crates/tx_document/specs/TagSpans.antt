-- The spans of sections, where those of each tag are given by its number.
use Rattle.std.specs.Prelude.{ℕ, ◌≡◌, ◌+◌, List, [], ◌∷◌, ◌++◌, length, codes, refl}
use Rattle.std.proofs.Common.{get_or}
use Rattle.tx_tags.specs.declared.groups.Section.{Section}
use Rattle.tx_tags.specs.declared.pairing.Span.{Span}
use Rattle.tx_tags.specs.Pairs.{span}
use Rattle.tx_document.specs.Documents.{Extent}

-- those of the tags with these names, of which the first has the number `k`
abbrev pub joined_from : List (List Span) → ℕ → List (List ℕ) → List Span
joined_from all k [] = []
joined_from all k (name ∷ names) = get_or all k [] ++ joined_from all (k + 1) names

-- the sections with their spans, the first tag of the first having the number `k`
abbrev pub extents_by : List (List Span) → ℕ → List Section → List Extent
extents_by all k [] = []
extents_by all k (s ∷ ss) = record { section = s.name; kind = s.kind; spans = joined_from all k s.tags } ∷ extents_by all (k + length s.tags) ss

-- computed example: the second tag has no span
two_tags : joined_from ((span 1 2 ∷ []) ∷ [] ∷ (span 3 4 ∷ []) ∷ []) 1 (codes "a" ∷ codes "b" ∷ []) ≡ span 3 4 ∷ []
two_tags = refl
