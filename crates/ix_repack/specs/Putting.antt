-- What is put of rows of postings, whatever the content is: rows of terms, within the bounds of an entry.
use Rattle.std.specs.Prelude.{ℕ, ◌≡◌, ◌≤◌, List, [], ◌∷◌, ◌++◌, length, Option, codes, refl}
use Rattle.std.proofs.Common.{◌⊎◌, inl, arith}
use Rattle.ct_bytes.specs.Varints.{varint}
use Rattle.ct_keep.specs.Content.{value_limit}
use Rattle.ct_entry.specs.declared.kinds.Kind.{Kind}
use Rattle.ct_entry.specs.declared.kinds.Kind.TheVariants as kind
use Rattle.ct_entry.specs.Keys.{Key, key}
use Rattle.ct_entry.specs.Changes.{AllPut, put_value, drop_key, spell}
use Rattle.ix_posting.specs.declared.rows.RowDocument.{RowDocument}
use Rattle.ix_posting.specs.Forms.{PlaceForm, number_form, pair_form}
use Rattle.ix_posting.specs.Rows.{WordDocument, IsPostingRowOf, posting_bytes_of}
use Rattle.ix_rows.specs.Spelling.{row_key}
use Rattle.ix_rows.specs.RowMaps.{TermRowsView}
use Rattle.ix_rows.specs.PlacedRows.{document_number}
use Rattle.ix_rows.specs.GrowingLists.{AreGrown}
use Rattle.ix_rows.specs.WordRows.{IsWordTerm}
use Rattle.ix_rows.specs.SpanRows.{IsSpanTerm}
use Rattle.ix_rows.specs.laws.PlacedRows.{HasPlaces, place_bytes}

module _ {P : Type 0} (form : PlaceForm P) where
  -- a document with places such as a row has, which fits into an entry alone
  pub record FitsAlone (x : RowDocument P) : Type 0 where
    pub places : HasPlaces form x
    pub short : length (posting_bytes_of form (x ∷ [])) ≤ value_limit

  -- Only this term has rows, and they are those of a posting list of such documents.
  abbrev pub AreJoined : List ℕ → TermRowsView → Type 0
  AreJoined t out = AreGrown document_number (place_bytes form) (λ u. u ≡ t) FitsAlone out

  -- The entry is that of a row of a term, within the bounds.
  pub record IsRowEntry (kind : Kind) (i t : List ℕ) (k : Key) (v : List ℕ) : Type 0 where
    pub first : RowDocument P
    pub others : List (RowDocument P)
    pub row : IsPostingRowOf form (first ∷ others)
    pub place : k ≡ key kind i (row_key t first.document)
    pub spelt : v ≡ posting_bytes_of form (first ∷ others)
    pub short : length v ≤ value_limit

-- of a word of an index, or of a section
abbrev pub IsIndexRow : List ℕ → Key → List ℕ → Type 0
IsIndexRow i k v = ((t : List ℕ) × IsWordTerm t × IsRowEntry number_form kind.Postings i t k v) ⊎ ((t : List ℕ) × IsSpanTerm t × IsRowEntry pair_form kind.Spans i t k v)

-- A batch has changes more that put nothing but such entries.
pub record AddsPuts (Is : Key → List ℕ → Type 0) (old new : List (List ℕ × Option (List ℕ))) : Type 0 where
  pub changes : List (Key × Option (List ℕ))
  pub adds : new ≡ old ++ spell changes
  pub put : AllPut Is changes

-- ---- computed examples

abbrev one_word : WordDocument
one_word = record { document = 300; places = 2 ∷ [] }

-- a row of a document takes its entry; what goes counts for nothing
a_row : AddsPuts (IsIndexRow (codes "di")) [] (spell (drop_key (key kind.Postings (codes "di") []) ∷ put_value (key kind.Postings (codes "di") (row_key (0 ∷ 1 ∷ codes "a") 300)) (posting_bytes_of number_form (one_word ∷ [])) ∷ []))
unfolding varint
a_row = record {
  changes = drop_key (key kind.Postings (codes "di") []) ∷ put_value (key kind.Postings (codes "di") (row_key (0 ∷ 1 ∷ codes "a") 300)) (posting_bytes_of number_form (one_word ∷ [])) ∷ [];
  adds = refl;
  put = (
    tt,
    (
      inl (
        0 ∷ 1 ∷ codes "a",
        (0, (codes "a", omega arith, record { some = omega arith; short = omega arith }, refl)),
        record {
          first = one_word;
          others = [];
          row = record { some = omega arith; few = omega arith; rise = (omega arith, omega arith, omega arith, omega arith, (omega arith, omega arith, tt), tt) };
          place = refl;
          spelt = refl;
          short = omega arith;
        },
      ),
      tt,
    ),
  );
}
