-- What an optimisation makes of the rows of a CONTEXT index.
use Rattle.std.specs.Prelude.{ℕ, ℤ, ◌≡◌, ◌+◌, ◌≤◌, Bool, true, false, List, [], ◌∷◌, map, Option, Some, None, is_some, refl}
use Rattle.std.proofs.Common.{sym, ap, subst, ◌∙◌, arith}
use Rattle.ct_entry.specs.declared.kinds.Kind.{Kind}
use Rattle.ct_entry.specs.declared.kinds.Kind.TheVariants as kind
use Rattle.ct_entry.specs.Keys.{Key, key, IsDocument}
use Rattle.ct_entry.specs.Changes.{told, view, AllOf, AllOn}
use Rattle.ct_entry.specs.Each.{each}
use Rattle.ct_entry.specs.Lists.{IsIn, AreApart}
use Rattle.ct_entry.specs.laws.Changes.{told_frame, told-append, all-append, all_on-append}
use Rattle.ix_posting.specs.declared.rows.RowDocument.{RowDocument}
use Rattle.ix_posting.specs.Forms.{PlaceForm, number_form, pair_form}
use Rattle.ix_posting.specs.Rows.{WordDocument, SpanDocument, IsPostingRowOf, posting_bytes_of}
use Rattle.ix_rows.specs.Spelling.{row_key, first_document}
use Rattle.ix_rows.specs.Stores.{Tidiness, Untidy, Packed, Clean}
use Rattle.ix_rows.specs.PlacedRows.{document_number, row_document_cost}
use Rattle.ix_rows.specs.WordRows.{IsWordTerm}
use Rattle.ix_rows.specs.SpanRows.{IsSpanTerm}
use Rattle.ix_rows.specs.laws.Stores.{store_agree}
use Rattle.ix_docmap.specs.Marks.{Marks}
use Rattle.ix_docmap.specs.laws.Documents.{is_of_map, map_agree}
use Rattle.ix_repack.specs.declared.terms.Term.{Term}
use Rattle.ix_repack.specs.declared.terms.Term.TheVariants.{Word, Section}
use Rattle.ix_repack.specs.Repacking.{IndexRows, term_changes, repack_changes, repacked}
use Rattle.ix_repack.specs.laws.Handled.{words_of, sections_of}
use Rattle.ix_context.specs.Indexes.{Part}
use Rattle.ix_context.specs.Documents.{Postings, word_posting, section_posting}
use Rattle.ix_context.specs.Standing.{PartStands, RowsStand}
use Rattle.ix_context.specs.Spelling.{is_context_part}
use Rattle.ix_context.specs.Levels.{Fast, Full, made_packed, tidied}
use Rattle.ix_context.specs.laws.Parts.{is_postings, is_spans}
use Rattle.ix_optimize.specs.laws.Tidies.{after_some, after_all, after_all_clean}

-- ---- the changes of a term are on its index, and of its kind

module _ {P : Type 0} (form : PlaceForm P) (k : Kind) (i t : List ℕ) (keep : ℕ → Bool) (rows : List (List (RowDocument P))) where
  of_kind : (p : Kind → Bool) → p k ≡ true → AllOf p (repack_changes form k i t keep rows)
  of_kind p is = all-append p (map (λ row. (key k i (row_key t (first_document document_number row)), None)) rows) (map (λ row. (key k i (row_key t (first_document document_number row)), Some (posting_bytes_of form row))) (repacked form keep rows))
      (each_of (λ row. None) rows) (each_of (λ row. Some (posting_bytes_of form row)) (repacked form keep rows))
    where
      each_of : (value : List (RowDocument P) → Option (List ℕ)) (rs : List (List (RowDocument P))) → AllOf p (map (λ row. (key k i (row_key t (first_document document_number row)), value row)) rs)
      each_of value [] = tt
      each_of value (row ∷ rs) = (is, each_of value rs)

  on_index : AllOn i (repack_changes form k i t keep rows)
  on_index = all_on-append i (map (λ row. (key k i (row_key t (first_document document_number row)), None)) rows) (map (λ row. (key k i (row_key t (first_document document_number row)), Some (posting_bytes_of form row))) (repacked form keep rows))
      (each_on (λ row. None) rows) (each_on (λ row. Some (posting_bytes_of form row)) (repacked form keep rows))
    where
      each_on : (value : List (RowDocument P) → Option (List ℕ)) (rs : List (List (RowDocument P))) → AllOn i (map (λ row. (key k i (row_key t (first_document document_number row)), value row)) rs)
      each_on value [] = tt
      each_on value (row ∷ rs) = (refl, each_on value rs)

module _ (i : List ℕ) (keep : ℕ → Bool) (rows : IndexRows) where
  abbrev terms : List Term → List (Key × Option (List ℕ))
  terms ts = each (term_changes i keep rows) ts

  pub terms_of_part : (ts : List Term) → AllOf is_context_part (terms ts)
  terms_of_part [] = tt
  terms_of_part (Word t ∷ ts) = all-append is_context_part (repack_changes number_form kind.Postings i t keep (rows.words t)) (terms ts) (of_kind number_form kind.Postings i t keep (rows.words t) is_context_part refl) (terms_of_part ts)
  terms_of_part (Section t ∷ ts) = all-append is_context_part (repack_changes pair_form kind.Spans i t keep (rows.sections t)) (terms ts) (of_kind pair_form kind.Spans i t keep (rows.sections t) is_context_part refl) (terms_of_part ts)

  pub terms_on : (ts : List Term) → AllOn i (terms ts)
  terms_on [] = tt
  terms_on (Word t ∷ ts) = all_on-append i (repack_changes number_form kind.Postings i t keep (rows.words t)) (terms ts) (on_index number_form kind.Postings i t keep (rows.words t)) (terms_on ts)
  terms_on (Section t ∷ ts) = all_on-append i (repack_changes pair_form kind.Spans i t keep (rows.sections t)) (terms ts) (on_index pair_form kind.Spans i t keep (rows.sections t)) (terms_on ts)

  -- ---- told of one kind they are those of its terms

  -- the changes of words alone, and of sections alone
  abbrev of_words : List (List ℕ) → List (Key × Option (List ℕ))
  of_words ts = each (λ t. repack_changes number_form kind.Postings i t keep (rows.words t)) ts

  abbrev of_sections : List (List ℕ) → List (Key × Option (List ℕ))
  of_sections ts = each (λ t. repack_changes pair_form kind.Spans i t keep (rows.sections t)) ts

  pub at_words : (ts : List Term) (q : List ℕ) (old : Option (List ℕ)) → told (terms ts) (key kind.Postings i q) old ≡ told (of_words (words_of ts)) (key kind.Postings i q) old
  at_words [] q old = refl
  at_words (Word t ∷ ts) q old =
      let ws = repack_changes number_form kind.Postings i t keep (rows.words t) in
      told-append ws (terms ts) (key kind.Postings i q) old ∙ at_words ts q (told ws (key kind.Postings i q) old) ∙ sym (told-append ws (of_words (words_of ts)) (key kind.Postings i q) old)
  at_words (Section t ∷ ts) q old =
      let ws = repack_changes pair_form kind.Spans i t keep (rows.sections t) in
      told-append ws (terms ts) (key kind.Postings i q) old
      ∙ ap (told (terms ts) (key kind.Postings i q)) (told_frame is_spans ws (key kind.Postings i q) old (of_kind pair_form kind.Spans i t keep (rows.sections t) is_spans refl) refl) ∙ at_words ts q old

  pub at_sections : (ts : List Term) (q : List ℕ) (old : Option (List ℕ)) → told (terms ts) (key kind.Spans i q) old ≡ told (of_sections (sections_of ts)) (key kind.Spans i q) old
  at_sections [] q old = refl
  at_sections (Word t ∷ ts) q old =
      let ws = repack_changes number_form kind.Postings i t keep (rows.words t) in
      told-append ws (terms ts) (key kind.Spans i q) old
      ∙ ap (told (terms ts) (key kind.Spans i q)) (told_frame is_postings ws (key kind.Spans i q) old (of_kind number_form kind.Postings i t keep (rows.words t) is_postings refl) refl) ∙ at_sections ts q old
  at_sections (Section t ∷ ts) q old =
      let ws = repack_changes pair_form kind.Spans i t keep (rows.sections t) in
      told-append ws (terms ts) (key kind.Spans i q) old ∙ at_sections ts q (told ws (key kind.Spans i q) old) ∙ sym (told-append ws (of_sections (sections_of ts)) (key kind.Spans i q) old)

-- the kinds of rows of postings
abbrev is_rows : Kind → Bool
is_rows kind.Postings = true
is_rows kind.Spans = true
is_rows k = false

terms_of_rows : (i : List ℕ) (keep : ℕ → Bool) (rows : IndexRows) (ts : List Term) → AllOf is_rows (each (term_changes i keep rows) ts)
terms_of_rows i keep rows [] = tt
terms_of_rows i keep rows (Word t ∷ ts) =
    all-append is_rows (repack_changes number_form kind.Postings i t keep (rows.words t)) (each (term_changes i keep rows) ts) (of_kind number_form kind.Postings i t keep (rows.words t) is_rows refl) (terms_of_rows i keep rows ts)
terms_of_rows i keep rows (Section t ∷ ts) =
    all-append is_rows (repack_changes pair_form kind.Spans i t keep (rows.sections t)) (each (term_changes i keep rows) ts) (of_kind pair_form kind.Spans i t keep (rows.sections t) is_rows refl) (terms_of_rows i keep rows ts)

no_rows : (k : Kind) → is_of_map k ≡ true → is_rows k ≡ false
no_rows kind.DocumentRows h = refl
no_rows kind.RowDocuments h = refl
no_rows kind.Pending h = refl
no_rows k h = cc

-- ---- the rows of an index

abbrev pub rows_of : {f : Key → Option (List ℕ)} {i : List ℕ} {doc : ℤ → Postings} {mark : Marks} {part : Part} → PartStands f i doc mark part → IndexRows
rows_of stand = record { words = stand.word_rows; sections = stand.span_rows }

module _ (f : Key → Option (List ℕ)) (i : List ℕ) (doc : ℤ → Postings) (mark : Marks) (part : Part) (stand : PartStands f i doc mark part) (ts : List Term) (keep : ℕ → Bool)
    (apart_words : AreApart (words_of ts)) (are_words : (t : List ℕ) → IsIn t (words_of ts) → IsWordTerm t) (apart_sections : AreApart (sections_of ts)) (are_sections : (t : List ℕ) → IsIn t (sections_of ts) → IsSpanTerm t)
    (mapped : (d : ℕ) (r : ℤ) → stand.row d ≡ Some r → keep d ≡ true) where
  abbrev pub ws : List (Key × Option (List ℕ))
  ws = each (term_changes i keep (rows_of stand)) ts

  -- a part with other rows of the same documents
  with_rows : (tidiness : Tidiness) (waste words_waste spans_waste : ℕ) (word_rows : List ℕ → List (List WordDocument)) (span_rows : List ℕ → List (List SpanDocument)) → words_waste + spans_waste ≤ waste
      → RowsStand number_form kind.Postings IsWordTerm (view (of_words i keep (rows_of stand) (words_of ts)) f) i (λ r. (doc r).words) stand.row part.given tidiness words_waste word_rows
      → RowsStand pair_form kind.Spans IsSpanTerm (view (of_sections i keep (rows_of stand) (sections_of ts)) f) i (λ r. (doc r).spans) stand.row part.given tidiness spans_waste span_rows
      → PartStands (view ws f) i doc mark (record part { tidiness = tidiness; waste = waste })
  with_rows tidiness waste words_waste spans_waste word_rows span_rows less w s = record {
    document = stand.document;
    row = stand.row;
    word_rows = word_rows;
    span_rows = span_rows;
    words_waste = words_waste;
    spans_waste = spans_waste;
    documents = map_agree f (view ws f) i mark part.given stand.document stand.row (λ k of. told_frame is_rows ws k (f k) (terms_of_rows i keep (rows_of stand) ts) (no_rows k.kind of)) stand.documents;
    words =
        store_agree document_number (posting_bytes_of number_form) (IsPostingRowOf number_form) IsWordTerm (row_document_cost number_form kind.Postings i) (view (of_words i keep (rows_of stand) (words_of ts)) f) (view ws f)
        kind.Postings i (word_posting doc) stand.row part.given tidiness words_waste word_rows (λ q. at_words i keep (rows_of stand) ts q (f (key kind.Postings i q))) w;
    spans =
        store_agree document_number (posting_bytes_of pair_form) (IsPostingRowOf pair_form) IsSpanTerm (row_document_cost pair_form kind.Spans i) (view (of_sections i keep (rows_of stand) (sections_of ts)) f) (view ws f)
        kind.Spans i (section_posting doc) stand.row part.given tidiness spans_waste span_rows (λ q. at_sections i keep (rows_of stand) ts q (f (key kind.Spans i q))) s;
    waste = less;
  }

  -- of some terms: the state stays
  pub part_some : PartStands (view ws f) i doc mark part
  part_some = with_rows part.tidiness part.waste stand.words_waste stand.spans_waste _ _ stand.waste
      (after_some number_form kind.Postings IsWordTerm f i (word_posting doc) stand.row part.given part.tidiness stand.words_waste stand.word_rows (words_of ts) stand.words apart_words are_words keep mapped)
      (after_some pair_form kind.Spans IsSpanTerm f i (section_posting doc) stand.row part.given part.tidiness stand.spans_waste stand.span_rows (sections_of ts) stand.spans apart_sections are_sections keep mapped)

  module _ (other_words : (t : List ℕ) → IsWordTerm t → (IsIn t (words_of ts) → ⊥) → stand.word_rows t ≡ []) (other_sections : (t : List ℕ) → IsSpanTerm t → (IsIn t (sections_of ts) → ⊥) → stand.span_rows t ≡ []) where
    -- of all of them: it is packed
    part_packed : PartStands (view ws f) i doc mark (record part { tidiness = Packed; waste = part.waste })
    part_packed = with_rows Packed part.waste stand.words_waste stand.spans_waste _ _ stand.waste
        (after_all number_form kind.Postings IsWordTerm f i (word_posting doc) stand.row part.given part.tidiness stand.words_waste stand.word_rows (words_of ts) stand.words apart_words are_words keep mapped other_words)
        (after_all pair_form kind.Spans IsSpanTerm f i (section_posting doc) stand.row part.given part.tidiness stand.spans_waste stand.span_rows (sections_of ts) stand.spans apart_sections are_sections keep mapped other_sections)

    -- FAST, also where the index is packed or clean already
    pub part_fast : PartStands (view ws f) i doc mark (tidied Fast part)
    part_fast = go part.tidiness refl
      where
        go : (t : Tidiness) → part.tidiness ≡ t → PartStands (view ws f) i doc mark (record part { tidiness = made_packed part.tidiness })
        go Untidy e = subst (λ (t : Tidiness). PartStands (view ws f) i doc mark (record part { tidiness = made_packed t })) (sym e) part_packed
        go Packed e = subst (λ (t : Tidiness). PartStands (view ws f) i doc mark (record part { tidiness = made_packed t })) (sym e) part_packed
        go Clean e = subst (λ (t : Tidiness). PartStands (view ws f) i doc mark (record part { tidiness = t })) (e ∙ sym (ap made_packed e)) part_some

    -- FULL
    pub part_full : ((d : ℕ) → IsDocument d → keep d ≡ true → is_some (stand.row d) ≡ true) → PartStands (view ws f) i doc mark (tidied Full part)
    part_full clean = with_rows Clean 0 0 0 _ _ (omega arith)
        (after_all_clean number_form kind.Postings IsWordTerm f i (word_posting doc) stand.row part.given part.tidiness stand.words_waste stand.word_rows (words_of ts) stand.words apart_words are_words keep mapped other_words clean)
        (after_all_clean pair_form kind.Spans IsSpanTerm f i (section_posting doc) stand.row part.given part.tidiness stand.spans_waste stand.span_rows (sections_of ts) stand.spans apart_sections are_sections keep mapped other_sections clean)
