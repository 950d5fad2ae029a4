-- What the functions of `src/laws.rt` promise of the posting lists of words. Those of sections keep the same laws, which stand in `specs/laws`
-- for any documents.
use Rattle.std.specs.Prelude.{ℕ, ℤ, pos, ◌≡◌, ◌+◌, sum_by, List, ◌++◌, Option, Some, refl}
use Rattle.ct_entry.specs.Lists.{IsIn}
use Rattle.ix_posting.specs.Rows.{WordDocument}
use Rattle.ix_rows.specs.Spelling.{greedy}
use Rattle.ix_rows.specs.Splits.{IsSplit}
use Rattle.ix_rows.specs.Stored.{ListsStand}
use Rattle.ix_rows.specs.RowMaps.{TermRowsView}
use Rattle.ix_rows.specs.Coming.{Coming, with_postings, coming_to}
use Rattle.ix_rows.specs.PlacedRows.{document_number}
use Rattle.ix_rows.specs.WordRows.{IsWordTerm, word_cost}
use Rattle.ix_rows.specs.laws.Stored.{AreNew, without}

-- the posting list of each term
abbrev pub WordLists : Type 0
WordLists = List ℕ → List WordDocument

-- what a row has under a term, as a document
abbrev pub Wanted : Type 0
Wanted = ℤ → List ℕ → ℕ → Option WordDocument

-- the posting lists of the index of this name, whose length counts in what a posting costs
abbrev pub WordsStand : List ℕ → Wanted → (ℕ → Option ℤ) → ℕ → WordLists → ℕ → Type 0
WordsStand i = ListsStand document_number IsWordTerm (word_cost i)

-- New documents, with the postings of their rows behind those that are there, leave what stands, and waste nothing.
abbrev pub NewDocumentsStand : Type 0
NewDocumentsStand =
    (i : List ℕ) (want : Wanted) (row row' : ℕ → Option ℤ) (given given' : ℕ) (list news : WordLists) (waste : ℕ)
    → AreNew document_number IsWordTerm want row row' given given' news → WordsStand i want row given list waste → WordsStand i want row' given' (λ term. list term ++ news term) waste

-- Where a document is a row no more, the posting lists stay as they are, and what its postings cost is wasted.
abbrev pub DeadDocumentsStand : Type 0
DeadDocumentsStand =
    (i : List ℕ) (want : Wanted) (row : ℕ → Option ℤ) (given : ℕ) (list : WordLists) (waste d : ℕ) (r : ℤ) (its : List (List ℕ × WordDocument))
    → row d ≡ Some r → ((term : List ℕ) (x : WordDocument) → IsWordTerm term → want r term d ≡ Some x → IsIn (term, x) its)
    → WordsStand i want row given list waste → WordsStand i want (without (document_number {P = ℕ}) IsWordTerm row d) given list (waste + sum_by (word_cost i) its)

-- ---- the split of posting lists into rows

-- There is one split of each posting list: one after the other its rows are the list, each is within the limit, and none could take the next document.
pub record HasOneSplit {D : Type 0} (number : D → ℕ) (bytes_of : List D → List ℕ) : Type 0 where
  pub there : (list : List D) → IsSplit number bytes_of list (greedy number bytes_of list)
  pub one : (list : List D) (rows : List (List D)) → IsSplit number bytes_of list rows → rows ≡ greedy number bytes_of list

-- ---- what grows of postings

-- What grows is the same where the same comes to each term in the same order, however the terms are mixed: so it is of an inversion as of one document after the other.
abbrev pub GrowsByTerm : Type 0
GrowsByTerm = (ps qs : List Coming) → ((term : List ℕ) → coming_to term ps ≡ coming_to term qs) → (m : TermRowsView) → with_postings m ps ≡ with_postings m qs

-- computed example: where the document 2 is a row no more, the document 1 still is
the_first_stays : without (document_number {P = ℕ}) IsWordTerm (λ d. Some (pos d)) 2 1 ≡ Some (pos 1)
the_first_stays = refl
