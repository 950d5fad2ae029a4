-- That the rows which grow are those of a posting list, of each term.
use Rattle.std.specs.Prelude.{ℕ, ◌≡◌, List, [], Some, refl}
use Rattle.std.specs.FinMap.{get}
use Rattle.ct_entry.specs.Lists.{IsIn}
use Rattle.ix_rows.specs.Posts.{Rises}
use Rattle.ix_rows.specs.Growing.{Growing, nothing_yet, grown_all}
use Rattle.ix_rows.specs.RowMaps.{TermRowsView}

module _ {D : Type 0} (number : D → ℕ) (places : D → List ℕ) (IsTerm : List ℕ → Type 0) (IsGood : D → Type 0) where
  -- What grows under a term has come of a list of documents that rise, each of which is good by itself.
  pub record IsGrown (t : List ℕ) (g : Growing) : Type 0 where
    pub term : IsTerm t
    pub list : List D
    pub same : g ≡ grown_all number places nothing_yet list
    pub rises : Rises number 0 list
    pub good : (x : D) → IsIn x list → IsGood x

  -- so it is under each term
  abbrev pub AreGrown : TermRowsView → Type 0
  AreGrown m = (t : List ℕ) (g : Growing) → get m t ≡ Some g → IsGrown t g

-- computed example: what has no document yet has come of none
of_none : (t : List ℕ) → IsGrown (λ (d : ℕ). d) (λ d. []) (λ t. Unit {0}) (λ d. Unit {0}) t nothing_yet
of_none t = record { term = tt; list = []; same = refl; rises = tt; good = λ x h. absurd h }
