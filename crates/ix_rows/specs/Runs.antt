-- Documents that come to one term, one behind the other.
use Rattle.std.specs.Prelude.{ℕ, ◌≡◌, ◌+◌, List, [], ◌∷◌, map, take, drop, codes, refl}
use Rattle.std.specs.FinMap.{empty}
use Rattle.ix_rows.specs.declared.runs.RunDocument.{RunDocument}
use Rattle.ix_rows.specs.Growing.{Growing, grown_all}
use Rattle.ix_rows.specs.RowMaps.{TermRowsView, with_posting}
use Rattle.ix_rows.specs.Coming.{with_postings}

-- how many bytes the places of these documents take
abbrev pub run_len : List RunDocument → ℕ
run_len [] = 0
run_len (d ∷ ds) = d.len + run_len ds

-- the documents, each with its own of the bytes that stand one behind the other
abbrev pub run_documents : List RunDocument → List ℕ → List (ℕ × List ℕ)
run_documents [] bytes = []
run_documents (d ∷ ds) bytes = (d.document, take d.len bytes) ∷ run_documents ds (drop d.len bytes)

-- they come to the rows of a term
abbrev pub grown_run : Growing → List (ℕ × List ℕ) → Growing
grown_run g xs = grown_all (λ (x : ℕ × List ℕ). x.0) (λ (x : ℕ × List ℕ). x.1) g xs

-- A RUN COMES to a term: each of its documents in turn
abbrev pub with_run : TermRowsView → List ℕ → List (ℕ × List ℕ) → TermRowsView
with_run m t xs = with_postings m (map (λ x. (t, x)) xs)

-- computed examples: the documents 1 and 4, with the position 1 and with two positions
two_documents : run_documents (record { document = 1; len = 2 } ∷ record { document = 4; len = 3 } ∷ []) (1 ∷ 1 ∷ 2 ∷ 3 ∷ 5 ∷ []) ≡ (1, 1 ∷ 1 ∷ []) ∷ (4, 2 ∷ 3 ∷ 5 ∷ []) ∷ []
two_documents = refl

one_by_one : with_run empty (codes "a") ((1, 1 ∷ 1 ∷ []) ∷ (4, 1 ∷ 2 ∷ []) ∷ []) ≡ with_posting (with_posting empty (codes "a") 1 (1 ∷ 1 ∷ [])) (codes "a") 4 (1 ∷ 2 ∷ [])
one_by_one = refl
