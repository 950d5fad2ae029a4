-- The rows of an index of one kind, as they stand in the content: rows of words, or rows of sections.
use Rattle.std.specs.Prelude.{ℕ, ℤ, ◌≡◌, true, List, [], ◌∷◌, Option, None, is_some, refl}
use Rattle.ct_entry.specs.declared.kinds.Kind.{Kind}
use Rattle.ct_entry.specs.Keys.{Key}
use Rattle.ct_entry.specs.Lists.{IsIn}
use Rattle.ix_posting.specs.Lists.{posting_list}
use Rattle.ix_rows.specs.Stored.{ListsStand}
use Rattle.ix_rows.specs.Spelling.{RowsSpelled, AreRows, greedy}

-- how tidy the rows of an index are
pub data Tidiness : Type 0 where
  Untidy : Tidiness
  Packed : Tidiness
  Clean : Tidiness

module _ {D : Type 0} (number : D → ℕ) (bytes_of : List D → List ℕ) where
  -- Packed, each term's rows are the split of its posting list. Clean, each document in it is a row of the table besides.
  abbrev pub IsTidy : Tidiness → (ℕ → Option ℤ) → List (List D) → Type 0
  IsTidy Untidy row rows = Unit {0}
  IsTidy Packed row rows = rows ≡ greedy number bytes_of (posting_list rows)
  IsTidy Clean row rows = (rows ≡ greedy number bytes_of (posting_list rows)) × ((x : D) → IsIn x (posting_list rows) → is_some (row (number x)) ≡ true)

module _ {D : Type 0} (number : D → ℕ) (bytes_of : List D → List ℕ) (IsRow : List D → Type 0) (IsTerm : List ℕ → Type 0) (cost : List ℕ × D → ℕ) where
  -- `rows` are the rows of each term, in order.
  pub record StoreStands (f : Key → Option (List ℕ)) (kind : Kind) (i : List ℕ) (want : ℤ → List ℕ → ℕ → Option D) (row : ℕ → Option ℤ) (given : ℕ) (tidiness : Tidiness) (waste : ℕ) (rows : List ℕ → List (List D)) : Type 0 where
    pub spelled : RowsSpelled number bytes_of IsTerm f kind i rows
    pub are : (term : List ℕ) → IsTerm term → AreRows number IsRow (rows term)
    pub lists : ListsStand number IsTerm cost want row given (λ term. posting_list (rows term)) waste
    pub tidy : (term : List ℕ) → IsTerm term → IsTidy number bytes_of tidiness row (rows term)

-- computed examples: two short rows aren't packed, and one isn't clean where its document is no row of the table
not_packed : IsTidy (λ (d : ℕ). d) (λ row. row) Packed (λ d. None) ((1 ∷ []) ∷ (2 ∷ []) ∷ []) → ⊥
not_packed is = two_are_not_one is
  where
    two_are_not_one : ◌≡◌ {A = List (List ℕ)} ((1 ∷ []) ∷ (2 ∷ []) ∷ []) ((1 ∷ 2 ∷ []) ∷ []) → ⊥
    two_are_not_one e = cc

packed : IsTidy (λ (d : ℕ). d) (λ row. row) Packed (λ d. None) ((1 ∷ 2 ∷ []) ∷ [])
packed = refl
