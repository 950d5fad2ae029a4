-- What was gathered for a query, and the rows that it gives.
use Rattle.std.specs.Prelude.{ℕ, ℤ, ◌≡◌, ◌<◌, ◌^◌, Bool, true, List, Option, Some, None, refl}
use Rattle.std.specs.Ordering.{nat_cmp}
use Rattle.std.specs.FinMap.{FinMap, get, insert, entries}
use Rattle.ct_entry.specs.Maps.{Rows}
use Rattle.q_tree.specs.ReducedQueries.{reduced_of}
use Rattle.q_tree.specs.Scores.{score, last_position}
use Rattle.ix_cursor.specs.Reading.{postings_read}
use Rattle.ix_search.specs.declared.gathering.Gathered.{Gathered}
use Rattle.ix_search.specs.Walking.{AreOneToOne, AreScores}

-- finite maps from documents, in the order of their numbers
abbrev pub Documents : Type 0 → Type 0
Documents X = FinMap nat_cmp X

-- with this row of a document, if there is one
abbrev pub with_row_of : ℕ → Option ℤ → Documents ℤ → Documents ℤ
with_row_of d None rows = rows
with_row_of d (Some r) rows = insert rows d r

-- THESE ARE THE ROWS OF THE CANDIDATES: the documents that have one are candidates, and each candidate has its own, if it is mapped.
pub record AreRowsOfDocuments (row : ℕ → Option ℤ) (candidate : ℕ → Bool) (rows : Documents ℤ) : Type 0 where
  pub own : (d : ℕ) (r : ℤ) → get rows d ≡ Some r → (candidate d ≡ true) × (row d ≡ Some r)
  pub all : (d : ℕ) → d < 2 ^ 32 → candidate d ≡ true → get rows d ≡ row d

-- the row of a document that was gathered, and the score of a document by what was
abbrev pub gathered_row : Gathered → ℕ → Option ℤ
gathered_row g d = get g.rows d

abbrev pub gathered_score : Gathered → ℕ → ℕ
gathered_score g d = score (reduced_of g.flat.now) (postings_read g.feeds d) 0 1 last_position

-- WHAT WAS GATHERED GIVES THESE ROWS: no two documents have one row, and the scores of the rows, by those of all documents, are these in order of the rows' keys.
pub record GivesRows (g : Gathered) (rows : List (ℤ × ℕ)) : Type 0 where
  pub one : AreOneToOne (gathered_row g)
  pub scores : (scores : Rows ℕ) → AreScores (gathered_row g) (gathered_score g) scores → entries scores ≡ rows

-- computed example
no_row : (rows : Documents ℤ) → with_row_of 7 None rows ≡ rows
no_row rows = refl
