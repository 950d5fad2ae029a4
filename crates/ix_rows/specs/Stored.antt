-- What the posting lists of an index are, where some of its documents are rows of the table, and the others are dead.
-- Nothing here speaks of bytes, nor of how lists are split into rows.
use Rattle.std.specs.Prelude.{ℕ, ℤ, ◌≡◌, ◌==◌, ◌≤◌, List, sum_by, Option, Some, None, [], ◌∷◌, pos, codes, refl}
use Rattle.std.specs.Bool.{if◌then◌else◌}
use Rattle.ct_entry.specs.Lists.{IsIn, AreApart}
use Rattle.ix_rows.specs.Posts.{posting}

-- `IsTerm` says which terms there are; of others nothing is said.
module _ {D : Type 0} (number : D → ℕ) (IsTerm : List ℕ → Type 0) where
  -- A stored posting under a document that is no row: a term, and the document with its places.
  pub record IsStray (row : ℕ → Option ℤ) (list : List ℕ → List D) (s : List ℕ × D) : Type 0 where
    pub term : IsTerm s.0
    pub stored : posting number (number s.1) (list s.0) ≡ Some s.1
    pub unmapped : row (number s.1) ≡ None

  -- However many strays are taken, each once, they cost no more than this. So the sum over all of them is no more.
  abbrev pub CostAtMost : (List ℕ × D → ℕ) → (ℕ → Option ℤ) → (List ℕ → List D) → ℕ → Type 0
  CostAtMost cost row list waste = (ss : List (List ℕ × D)) → AreApart ss → ((s : List ℕ × D) → IsIn s ss → IsStray row list s) → sum_by cost ss ≤ waste

  -- The posting lists `list` of an index that has given so many documents, of which some are rows. `want r term d` is what the row r has
  -- under the term as the document d, if anything.
  pub record ListsStand (cost : List ℕ × D → ℕ) (want : ℤ → List ℕ → ℕ → Option D) (row : ℕ → Option ℤ) (given : ℕ) (list : List ℕ → List D) (waste : ℕ) : Type 0 where
    -- under a document that is a row stands exactly what the row has
    pub exact : (term : List ℕ) (d : ℕ) (r : ℤ) → IsTerm term → row d ≡ Some r → posting number d (list term) ≡ want r term d
    -- each stored document was given
    pub known : (term : List ℕ) (d : ℕ) (x : D) → IsTerm term → posting number d (list term) ≡ Some x → (1 ≤ d) × (d ≤ given)
    -- and what the dead ones cost is bounded
    pub bounded : CostAtMost cost row list waste

-- computed example: of the documents 1 and 2 of a term the second is no row, so its posting is a stray
abbrev first_is_row : ℕ → Option ℤ
first_is_row d = if d == 1 then Some (pos 7) else None

a_stray : IsStray {D = ℕ} (λ d. d) (λ t. Unit {0}) first_is_row (λ t. 1 ∷ 2 ∷ []) (codes "fox", 2)
a_stray = record { term = tt; stored = refl; unmapped = refl }
