-- Postings that come one after the other, each to its own term: what grows of them under all terms.
use Rattle.std.specs.Prelude.{ℕ, ◌≡◌, List, [], ◌∷◌, codes, refl}
use Rattle.std.specs.List.{filter}
use Rattle.std.specs.FinMap.{empty}
use Rattle.ct_entry.specs.Keys.{same_list}
use Rattle.ix_rows.specs.RowMaps.{TermRowsView, with_posting}

-- a posting as it comes: its term, its document, and the bytes of its places
abbrev pub Coming : Type 0
Coming = List ℕ × (ℕ × List ℕ)

abbrev pub with_postings : TermRowsView → List Coming → TermRowsView
with_postings m [] = m
with_postings m (p ∷ ps) = with_postings (with_posting m p.0 p.1.0 p.1.1) ps

-- those that come to one term
abbrev pub coming_to : List ℕ → List Coming → List Coming
coming_to t ps = filter (λ p. same_list t p.0) ps

-- computed examples: the term `a` of two documents, and `b` of one
to_one_term : coming_to (codes "a") ((codes "a", (1, 1 ∷ 1 ∷ [])) ∷ (codes "b", (1, 1 ∷ 2 ∷ [])) ∷ (codes "a", (2, 1 ∷ 1 ∷ [])) ∷ [])
    ≡ (codes "a", (1, 1 ∷ 1 ∷ [])) ∷ (codes "a", (2, 1 ∷ 1 ∷ [])) ∷ []
to_one_term = refl

one_after_the_other : with_postings empty ((codes "b", (1, 1 ∷ 2 ∷ [])) ∷ (codes "a", (1, 1 ∷ 1 ∷ [])) ∷ [])
    ≡ with_posting (with_posting empty (codes "b") 1 (1 ∷ 2 ∷ [])) (codes "a") 1 (1 ∷ 1 ∷ [])
one_after_the_other = refl
