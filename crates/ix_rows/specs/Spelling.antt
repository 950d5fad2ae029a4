-- The entries that spell the rows of an index's terms. A term is what stands in the key between the index and the document: a stream and a token, or a section.
use Rattle.std.specs.Prelude.{ℕ, ◌≡◌, ◌==◌, nat_le, List, [], ◌∷◌, ◌++◌, length, Option, Some, None, codes, refl}
use Rattle.std.specs.Bool.{if◌then◌else◌}
use Rattle.ct_entry.specs.declared.kinds.Kind.{Kind}
use Rattle.ct_entry.specs.Keys.{Key, key, document_part, IsDocument}
use Rattle.ct_entry.specs.Each.{latest}
use Rattle.ct_entry.specs.Lists.{EachIs}
use Rattle.ix_posting.specs.Lists.{posting_list}
use Rattle.ix_rows.specs.Posts.{Rises}

-- what stands in the key of a row behind its index
abbrev pub row_key : List ℕ → ℕ → List ℕ
row_key term d = term ++ document_part d

-- how many bytes a row of several documents has at most
abbrev pub row_bytes_limit : ℕ
row_bytes_limit = 3500

module _ {D : Type 0} (number : D → ℕ) where
  -- the first document of a row, by which its key ends
  abbrev pub first_document : List D → ℕ
  first_document [] = 0
  first_document (x ∷ xs) = number x

  -- Each row is one, and the documents rise through all of them: so no two rows share a document, nor does one begin within another.
  pub record AreRows (IsRow : List D → Type 0) (rows : List (List D)) : Type 0 where
    pub each : EachIs IsRow rows
    pub rise : Rises number 0 (posting_list rows)

module _ {D : Type 0} (number : D → ℕ) (bytes_of : List D → List ℕ) where
  -- what stands under a term at a document: the row that begins with it
  abbrev pub row_value : List (List D) → ℕ → Option (List ℕ)
  row_value rows d = latest (λ row. d == first_document number row) (λ row. Some (bytes_of row)) rows None

  -- The entries of an index of this kind spell these rows of each term.
  pub record RowsSpelled (IsTerm : List ℕ → Type 0) (f : Key → Option (List ℕ)) (kind : Kind) (i : List ℕ) (rows : List ℕ → List (List D)) : Type 0 where
    pub spelled : (term : List ℕ) (d : ℕ) → IsTerm term → IsDocument d → f (key kind i (row_key term d)) ≡ row_value (rows term) d

  -- ---- the split of a posting list into rows

  -- a row takes documents as long as it has at most so many bytes
  abbrev pub greedy_from : List D → List D → List (List D)
  greedy_from row [] = row ∷ []
  greedy_from row (x ∷ xs) = if nat_le (length (bytes_of (row ++ x ∷ []))) row_bytes_limit then greedy_from (row ++ x ∷ []) xs else row ∷ greedy_from (x ∷ []) xs

  -- and at least one
  abbrev pub greedy : List D → List (List D)
  greedy [] = []
  greedy (x ∷ xs) = greedy_from (x ∷ []) xs

-- computed examples: a document is its number, and a row is spelt by its numbers
at_its_first : row_value (λ (d : ℕ). d) (λ row. row) ((1 ∷ 2 ∷ []) ∷ (4 ∷ []) ∷ []) 4 ≡ Some (4 ∷ [])
at_its_first = refl

not_at_its_second : row_value (λ (d : ℕ). d) (λ row. row) ((1 ∷ 2 ∷ []) ∷ (4 ∷ []) ∷ []) 2 ≡ None
not_at_its_second = refl

one_short_row : greedy (λ (d : ℕ). d) (λ row. row) (1 ∷ 2 ∷ 4 ∷ []) ≡ (1 ∷ 2 ∷ 4 ∷ []) ∷ []
one_short_row = refl

the_key : row_key (0 ∷ 3 ∷ codes "fox") 300 ≡ 0 ∷ 3 ∷ codes "fox" ++ 0 ∷ 0 ∷ 1 ∷ 44 ∷ []
the_key = refl
