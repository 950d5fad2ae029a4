-- What repacking makes of the rows of a term: they go, and the split of what stays of their posting list comes.
use Rattle.std.specs.Prelude.{ℕ, ◌≡◌, ◌==◌, ◌||◌, Bool, true, not, is_some, List, [], ◌∷◌, ◌++◌, map, filter, Option, Result, OnOk, codes, refl}
use Rattle.std.specs.Bool.{if◌then◌else◌}
use Rattle.ct_keep.specs.Content.{Content}
use Rattle.ct_bytes.specs.Varints.{varint}
use Rattle.ct_entry.specs.declared.kinds.Kind.{Kind}
use Rattle.ct_entry.specs.declared.kinds.Kind.TheVariants as kind
use Rattle.ct_entry.specs.Keys.{Key, key, at, document_part}
use Rattle.ct_entry.specs.Changes.{put_value, drop_key, spell}
use Rattle.ct_entry.specs.Listings.{owner_entries}
use Rattle.ix_posting.specs.declared.rows.RowDocument.{RowDocument}
use Rattle.ix_posting.specs.Forms.{PlaceForm, counted_bytes, number_form, pair_form}
use Rattle.ix_posting.specs.Lists.{posting_list}
use Rattle.ix_posting.specs.Rows.{WordDocument, SpanDocument, IsPostingRowOf, posting_bytes_of}
use Rattle.ix_rows.specs.Spelling.{AreRows, row_key, first_document, greedy}
use Rattle.ix_rows.specs.RowMaps.{TermRowsView, with_posting}
use Rattle.ix_rows.specs.PlacedRows.{document_number}
use Rattle.ix_rows.specs.WordRows.{IsWordTerm}
use Rattle.ix_rows.specs.SpanRows.{IsSpanTerm}
use Rattle.ix_docmap.specs.Readings.{row_at_document}
use Rattle.ix_repack.specs.declared.terms.Term.{Term}
use Rattle.ix_repack.specs.declared.terms.Term.TheVariants.{Word, Section}

-- Which documents of an index stay: all of them, or those that are still rows of the table.
abbrev pub stays : Bool → Content → List ℕ → ℕ → Bool
stays mapped m i d = not mapped || is_some (row_at_document (at m) i d)

module _ {P : Type 0} (form : PlaceForm P) where
  -- ---- the rows of a term

  -- the entry of a row: what stands in its key behind the term, and its bytes
  abbrev pub row_entry : List (RowDocument P) → List ℕ × List ℕ
  row_entry row = (document_part (first_document document_number row), posting_bytes_of form row)

  -- THE ROWS OF A TERM: the index has exactly their entries under it, in order; each is a row, and documents rise through all of them.
  pub record HasRows (m : Content) (kind : Kind) (i t : List ℕ) (rows : List (List (RowDocument P))) : Type 0 where
    pub entries : owner_entries kind i t m ≡ map row_entry rows
    pub are : AreRows document_number (IsPostingRowOf form) rows

  -- the documents of a list that stay
  abbrev pub kept_documents : (ℕ → Bool) → List (RowDocument P) → List (RowDocument P)
  kept_documents keep xs = filter (λ x. keep (document_number x)) xs

  -- THE ROWS THAT COME: the split of what stays of the posting list
  abbrev pub repacked : (ℕ → Bool) → List (List (RowDocument P)) → List (List (RowDocument P))
  repacked keep rows = greedy document_number (posting_bytes_of form) (kept_documents keep (posting_list rows))

  -- ---- what is added to a batch

  -- rows go, and others come, each under the term and its first document
  abbrev pub rows_drop : Kind → List ℕ → List ℕ → List (List (RowDocument P)) → List (Key × Option (List ℕ))
  rows_drop kind i t rows = map (λ row. drop_key (key kind i (row_key t (first_document document_number row)))) rows

  abbrev pub rows_come : Kind → List ℕ → List ℕ → List (List (RowDocument P)) → List (Key × Option (List ℕ))
  rows_come kind i t rows = map (λ row. put_value (key kind i (row_key t (first_document document_number row))) (posting_bytes_of form row)) rows

  abbrev pub repack_changes : Kind → List ℕ → List ℕ → (ℕ → Bool) → List (List (RowDocument P)) → List (Key × Option (List ℕ))
  repack_changes kind i t keep rows = rows_drop kind i t rows ++ rows_come kind i t (repacked keep rows)

  -- Unless the call failed, the batch has these changes more, where the term has these rows.
  abbrev pub RepacksRows : {T E : Type 0} → Content → Kind → List ℕ → List ℕ → Bool → List (List ℕ × Option (List ℕ)) → List (List ℕ × Option (List ℕ)) → Result T E → Type 0
  RepacksRows m kind i t mapped old new result = (rows : List (List (RowDocument P))) → HasRows m kind i t rows → OnOk result (new ≡ old ++ spell (repack_changes kind i t (stays mapped m i) rows))

  -- ---- documents that come to a term, one after the other

  -- one that stays
  abbrev pub joins_one : (ℕ → Bool) → TermRowsView → List ℕ → RowDocument P → TermRowsView
  joins_one keep out t x = if keep (document_number x) then with_posting out t (document_number x) (counted_bytes form x.places) else out

  -- those of a list that stay
  abbrev pub joins_all : (ℕ → Bool) → TermRowsView → List ℕ → List (RowDocument P) → TermRowsView
  joins_all keep out t [] = out
  joins_all keep out t (x ∷ xs) = joins_all keep (joins_one keep out t x) t xs

-- ---- an index

-- the rows of each word, and of each section
pub record IndexRows : Type 0 where
  pub words : List ℕ → List (List WordDocument)
  pub sections : List ℕ → List (List SpanDocument)

pub record HasIndexRows (m : Content) (i : List ℕ) (rows : IndexRows) : Type 0 where
  pub words : (t : List ℕ) → IsWordTerm t → HasRows number_form m kind.Postings i t (rows.words t)
  pub sections : (t : List ℕ) → IsSpanTerm t → HasRows pair_form m kind.Spans i t (rows.sections t)

-- the changes of a term
abbrev pub term_changes : List ℕ → (ℕ → Bool) → IndexRows → Term → List (Key × Option (List ℕ))
term_changes i keep rows (Word t) = repack_changes number_form kind.Postings i t keep (rows.words t)
term_changes i keep rows (Section t) = repack_changes pair_form kind.Spans i t keep (rows.sections t)

-- the index has these rows of a term
abbrev pub HasTermRows : Content → List ℕ → IndexRows → Term → Type 0
HasTermRows m i rows (Word t) = HasRows number_form m kind.Postings i t (rows.words t)
HasTermRows m i rows (Section t) = HasRows pair_form m kind.Spans i t (rows.sections t)

abbrev pub RepacksTerm : {T E : Type 0} → Content → List ℕ → Bool → Term → List (List ℕ × Option (List ℕ)) → List (List ℕ × Option (List ℕ)) → Result T E → Type 0
RepacksTerm m i mapped t old new result = (rows : IndexRows) → HasTermRows m i rows t → OnOk result (new ≡ old ++ spell (term_changes i (stays mapped m i) rows t))

-- the entries under a term go, by what stands in their keys behind it
abbrev pub entries_drop : Kind → List ℕ → List ℕ → List (List ℕ × List ℕ) → List (Key × Option (List ℕ))
entries_drop kind i t es = map (λ e. drop_key (key kind i (t ++ e.0))) es

-- ---- computed examples: two rows of one document each become one, and where the first document stays no longer, one of the second

abbrev the_document : ℕ → WordDocument
the_document d = record { document = d; places = 1 ∷ [] }

abbrev two_rows : List (List WordDocument)
two_rows = (the_document 1 ∷ []) ∷ (the_document 2 ∷ []) ∷ []

abbrev their_drops : List (Key × Option (List ℕ))
their_drops = drop_key (key kind.Postings (codes "di") (row_key (0 ∷ 1 ∷ codes "a") 1)) ∷ drop_key (key kind.Postings (codes "di") (row_key (0 ∷ 1 ∷ codes "a") 2)) ∷ []

two_become_one : repack_changes number_form kind.Postings (codes "di") (0 ∷ 1 ∷ codes "a") (λ d. true) two_rows
    ≡ their_drops ++ put_value (key kind.Postings (codes "di") (row_key (0 ∷ 1 ∷ codes "a") 1)) (2 ∷ 1 ∷ 1 ∷ 1 ∷ 1 ∷ 1 ∷ 1 ∷ []) ∷ []
unfolding varint
two_become_one = refl

one_is_left : repack_changes number_form kind.Postings (codes "di") (0 ∷ 1 ∷ codes "a") (λ d. d == 2) two_rows
    ≡ their_drops ++ put_value (key kind.Postings (codes "di") (row_key (0 ∷ 1 ∷ codes "a") 2)) (1 ∷ 2 ∷ 1 ∷ 1 ∷ []) ∷ []
unfolding varint
one_is_left = refl

none_is_left : repack_changes number_form kind.Postings (codes "di") (0 ∷ 1 ∷ codes "a") (λ d. d == 3) two_rows ≡ their_drops
unfolding varint
none_is_left = refl
