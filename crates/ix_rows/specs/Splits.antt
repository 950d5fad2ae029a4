-- The split of a posting list into rows, told by what its rows are. That there is one, and that it is `greedy` of `Spelling`, are laws.
-- D is a document with its places: the positions of a word, or the pairs of a section.
use Rattle.std.specs.Prelude.{ℕ, ◌≡◌, ◌≤◌, ◌<◌, List, [], ◌∷◌, ◌++◌, length, refl}
use Rattle.std.proofs.Common.{◌⊎◌, inl, arith}
use Rattle.ct_entry.specs.Lists.{EachIs}
use Rattle.ix_posting.specs.Lists.{posting_list}
use Rattle.ix_rows.specs.Spelling.{row_bytes_limit}

module _ {D : Type 0} (number : D → ℕ) (bytes_of : List D → List ℕ) where
  -- A row has a document. It has at most so many bytes, or one document alone, since a document is in one row.
  pub record IsWithinLimit (row : List D) : Type 0 where
    pub some : 1 ≤ length row
    pub short : (length (bytes_of row) ≤ row_bytes_limit) ⊎ (length row ≡ 1)

  -- a row can't take the document with which the next one begins
  abbrev pub IsFullBefore : List D → List D → Type 0
  IsFullBefore row [] = ⊥
  IsFullBefore row (x ∷ xs) = row_bytes_limit < length (bytes_of (row ++ x ∷ []))

  -- so it is with each row but the last
  abbrev pub AreFull : List (List D) → Type 0
  AreFull [] = Unit {0}
  AreFull (row ∷ []) = Unit {0}
  AreFull (row ∷ next ∷ rows) = IsFullBefore row next × AreFull (next ∷ rows)

  -- THE SPLIT of a posting list: one after the other its rows are the list; each is within the limit; and none could take the next document.
  pub record IsSplit (list : List D) (rows : List (List D)) : Type 0 where
    pub whole : posting_list rows ≡ list
    pub within : EachIs IsWithinLimit rows
    pub full : AreFull rows

-- computed examples: a document is its number, and a row is spelt by so many bytes
abbrev numbers_of : List ℕ → List ℕ
numbers_of row = row

three_in_one_row : IsSplit (λ (d : ℕ). d) numbers_of (1 ∷ 2 ∷ 4 ∷ []) ((1 ∷ 2 ∷ 4 ∷ []) ∷ [])
three_in_one_row = record { whole = refl; within = (record { some = omega arith; short = inl (omega arith) }, tt); full = tt }

not_in_two : IsSplit (λ (d : ℕ). d) numbers_of (1 ∷ 2 ∷ 4 ∷ []) ((1 ∷ 2 ∷ []) ∷ (4 ∷ []) ∷ []) → ⊥
not_in_two is = let over = is.full.0 in omega (arith, over)
