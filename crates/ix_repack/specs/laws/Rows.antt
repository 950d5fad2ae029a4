-- Rows that entries stand for are those that a scan of their term finds.
use Rattle.std.specs.Prelude.{ℕ, ◌≡◌, ◌≤◌, List, [], ◌∷◌, ◌++◌, length, Some, refl}
use Rattle.std.specs.FinMap.{get, entries, nat_cmp-IsAntisymmetric, slice_cmp-IsAntisymmetric}
use Rattle.std.proofs.Common.{sym, ap, subst, ◌∙◌, inl, append-nil}
use Rattle.std.proofs.lemmas.Cmp.{nat_list_cmp_total}
use Rattle.ct_base.specs.declared.numbers.Pair.{Pair}
use Rattle.ct_keep.specs.Content.{Content}
use Rattle.ct_keep.specs.Tail.{tail}
use Rattle.ct_keep.specs.laws.Tail.{get-tail, tail-tail}
use Rattle.ct_entry.specs.declared.kinds.Kind.{Kind}
use Rattle.ct_entry.specs.declared.kinds.Kind.TheVariants as kind
use Rattle.ct_entry.specs.Keys.{at, prefix_of, document_part, IsDocument, IsPart, HasKeysOnly}
use Rattle.ct_entry.specs.Lists.{IsIn, EachIs}
use Rattle.ct_entry.specs.laws.Documents.{posting_prefix, span_prefix}
use Rattle.ct_entry.specs.laws.MapEntries.{get_in, in_get}
use Rattle.ix_posting.specs.declared.rows.RowDocument.{RowDocument}
use Rattle.ix_posting.specs.Forms.{PlaceForm, number_form, pair_form}
use Rattle.ix_posting.specs.Rows.{IsPostingRowOf, posting_bytes_of}
use Rattle.ix_rows.specs.Spelling.{AreRows, RowsSpelled, first_document}
use Rattle.ix_rows.specs.PlacedRows.{document_number}
use Rattle.ix_rows.specs.WordRows.{IsWordTerm}
use Rattle.ix_rows.specs.SpanRows.{IsSpanTerm}
use Rattle.ix_rows.specs.laws.PlacedRows.{HasPlaces, row_laws}
use Rattle.ix_rows.specs.laws.Scans.{rows_scanned}
use Rattle.ix_rows.specs.laws.Tidies.{firsts_of}
use Rattle.ix_repack.specs.Terms.{stored_terms}
use Rattle.ix_repack.specs.Repacking.{row_entry, HasRows}
use Rattle.ix_repack.specs.laws.Order.{term_of_row}
use Rattle.ix_repack.specs.laws.Terms.{terms_in, in_terms}

module _ {P : Type 0} (form : PlaceForm P) where
  each_some : (rows : List (List (RowDocument P))) → EachIs (IsPostingRowOf form) rows → EachIs (λ (row : List (RowDocument P)). 1 ≤ length row) rows
  each_some [] are = tt
  each_some (row ∷ rows) are = (are.0.some, each_some rows are.1)

  -- of a kind whose keys under the term end in a document
  scanned : (IsTerm : List ℕ → Type 0) (m : Content) (kind : Kind) (i t : List ℕ) (rows : List ℕ → List (List (RowDocument P))) → HasKeysOnly m → IsTerm t
      → ((q : List ℕ) → IsPart kind (t ++ q) → (d : ℕ) × IsDocument d × (q ≡ document_part d))
      → RowsSpelled document_number (posting_bytes_of form) IsTerm (at m) kind i rows → AreRows document_number (IsPostingRowOf form) (rows t) → HasRows form m kind i t (rows t)
  scanned IsTerm m kind i t rows only is parts spelled are = record {
    entries =
        rows_scanned document_number (posting_bytes_of form) IsTerm m kind i t rows only is parts (each_some (rows t) are.each)
        (firsts_of document_number (posting_bytes_of form) (IsPostingRowOf form) (HasPlaces form) (row_laws form) (rows t) are.each) are.rise spelled;
    are = are;
  }

  -- a term with rows is one that is stored
  pub term_stored : (m : Content) (kind : Kind) (i t : List ℕ) (row : List (RowDocument P)) (rows : List (List (RowDocument P))) → HasRows form m kind i t (row ∷ rows) → IsIn t (stored_terms kind i m)
  term_stored m kind i t row rows has =
      let c = tail (prefix_of kind i) m in
      let d = document_part (first_document document_number row) in
      let here : IsIn (row_entry form row) (entries (tail t c)) =
      subst (λ (es : List (List ℕ × List ℕ)). IsIn (row_entry form row) es) (sym (ap (λ (c : Content). entries c) (tail-tail (prefix_of kind i) t m) ∙ has.entries)) (inl refl)
      in
      let got = in_get nat_list_cmp_total (tail t c) (row_entry form row) here in
      let there : get c (t ++ d) ≡ Some (posting_bytes_of form row) = sym (get-tail t c _ _) ∙ got in
      let found = in_terms (t ++ d, posting_bytes_of form row) (entries c) (get_in (slice_cmp-IsAntisymmetric nat_cmp-IsAntisymmetric) c (t ++ d) (posting_bytes_of form row) there) in
      subst (λ (p : List ℕ). IsIn t (terms_in (entries (tail p m)))) (sym (append-nil (prefix_of kind i))) (subst (λ (u : List ℕ). IsIn u (terms_in (entries c))) (term_of_row t (first_document document_number row)) found)

-- ROWS OF WORDS that stand are those under their term
pub words_scanned : (m : Content) (i : List ℕ) (rows : List ℕ → List (List (RowDocument ℕ))) → HasKeysOnly m → RowsSpelled document_number (posting_bytes_of number_form) IsWordTerm (at m) kind.Postings i rows
    → (t : List ℕ) → IsWordTerm t → AreRows document_number (IsPostingRowOf number_form) (rows t) → HasRows number_form m kind.Postings i t (rows t)
words_scanned m i rows only spelled t is are =
    scanned number_form IsWordTerm m kind.Postings i t rows only is
    (subst (λ (u : List ℕ). (q : List ℕ) → IsPart kind.Postings (u ++ q) → (d : ℕ) × IsDocument d × (q ≡ document_part d)) (sym is.1.3) (posting_prefix is.0 is.1.0)) spelled are

pub sections_scanned : (m : Content) (i : List ℕ) (rows : List ℕ → List (List (RowDocument Pair))) → HasKeysOnly m → RowsSpelled document_number (posting_bytes_of pair_form) IsSpanTerm (at m) kind.Spans i rows
    → (t : List ℕ) → IsSpanTerm t → AreRows document_number (IsPostingRowOf pair_form) (rows t) → HasRows pair_form m kind.Spans i t (rows t)
sections_scanned m i rows only spelled t is are =
    scanned pair_form IsSpanTerm m kind.Spans i t rows only is
    (subst (λ (u : List ℕ). (q : List ℕ) → IsPart kind.Spans (u ++ q) → (d : ℕ) × IsDocument d × (q ≡ document_part d)) (sym is.2) (span_prefix is.0)) spelled are
