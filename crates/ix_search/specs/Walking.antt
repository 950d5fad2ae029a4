-- The scores of rows, by the documents that a query scores.
use Rattle.std.specs.Prelude.{ℕ, ℤ, ◌≡◌, ◌<◌, ◌^◌, nat_lt, Option, Some, None, refl}
use Rattle.std.specs.Bool.{if◌then◌else◌}
use Rattle.std.specs.FinMap.{get, insert}
use Rattle.ct_entry.specs.Maps.{Rows}

-- a score, where it is above 0
abbrev pub if_some : ℕ → Option ℕ
if_some score = if nat_lt 0 score then Some score else None

-- with this score of a row, if there is one
abbrev pub with_score : Option ℤ → ℕ → Rows ℕ → Rows ℕ
with_score None score scores = scores
with_score (Some r) score scores = insert scores r score

-- no row is two documents
abbrev pub AreOneToOne : (ℕ → Option ℤ) → Type 0
AreOneToOne row = (d e : ℕ) (r : ℤ) → d < 2 ^ 32 → e < 2 ^ 32 → row d ≡ Some r → row e ≡ Some r → d ≡ e

-- The scores of the rows of all documents before `to`: that of the row's document, where it is above 0.
pub record AreScoresBefore (row : ℕ → Option ℤ) (score : ℕ → ℕ) (to : ℕ) (scores : Rows ℕ) : Type 0 where
  pub rows : (d : ℕ) (r : ℤ) → d < to → row d ≡ Some r → get scores r ≡ if_some (score d)
  pub others : (r : ℤ) → ((d : ℕ) → d < to → row d ≡ Some r → ⊥) → get scores r ≡ None

-- THE SCORES OF ROWS by those of all documents
abbrev pub AreScores : (ℕ → Option ℤ) → (ℕ → ℕ) → Rows ℕ → Type 0
AreScores row score scores = AreScoresBefore row score (2 ^ 32) scores

-- and where no row is two documents
abbrev pub AreScoresOfRows : (ℕ → Option ℤ) → (ℕ → ℕ) → Rows ℕ → Type 0
AreScoresOfRows row score scores = AreOneToOne row → AreScores row score scores

-- computed examples
above_0 : if_some 3 ≡ Some 3
above_0 = refl

no_score : if_some 0 ≡ None
no_score = refl
