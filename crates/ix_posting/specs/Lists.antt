-- Rows of documents, one after the other. D is a document with its places: the positions of a word, or the pairs of a section.
use Rattle.std.specs.Prelude.{ℕ, ◌≡◌, List, [], ◌∷◌, ◌++◌, refl}

module _ {D : Type 0} where
  -- THE POSTING LIST of a term: the documents of its rows
  abbrev pub posting_list : List (List D) → List D
  posting_list [] = []
  posting_list (row ∷ rows) = row ++ posting_list rows

-- computed example: a document is its number
two_rows : posting_list {D = ℕ} ((1 ∷ 2 ∷ []) ∷ (4 ∷ []) ∷ []) ≡ 1 ∷ 2 ∷ 4 ∷ []
two_rows = refl
