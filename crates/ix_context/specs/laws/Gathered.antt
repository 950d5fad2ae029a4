-- What is gathered of texts, document by document, is put as the split of each posting list.
use Rattle.std.specs.Prelude.{ℕ, ℤ, ◌≡◌, ◌+◌, ◌<◌, ◌^◌, Bool, true, false, cond, List, [], ◌∷◌, ◌++◌, length, map, Option, Some, None, refl}
use Rattle.std.specs.List.{cons_option}
use Rattle.std.specs.Option.{option_map}
use Rattle.std.specs.Ordering.{nat_cmp, eq_by_cmp}
use Rattle.std.specs.Cmp.Lexicographic.{slice_cmp}
use Rattle.std.specs.FinMap.{get, find, get-empty, get-from_entries}
use Rattle.std.proofs.Common.{sym, ap, ◌∙◌, arith}
use Rattle.std.proofs.lemmas.Cmp.{nat_list_cmp_total}
use Rattle.ct_entry.specs.declared.kinds.Kind.TheVariants as kind
use Rattle.ct_entry.specs.Keys.{Key}
use Rattle.ct_entry.specs.Each.{numbered}
use Rattle.tx_settings.specs.declared.preferences.Prefs.{Prefs}
use Rattle.tx_document.specs.declared.entries.Entry.{Entry}
use Rattle.ix_posting.specs.Rows.{posting_bytes, span_row_bytes}
use Rattle.ix_posting.specs.Forms.{PlaceForm, counted_bytes, number_form, pair_form}
use Rattle.ix_rows.specs.PlacedRows.{document_number}
use Rattle.ix_rows.specs.laws.PlacedRows.{place_bytes, row_spelt}
use Rattle.ix_rows.specs.Posts.{Rises}
use Rattle.ix_rows.specs.RowMaps.{TermRowsView, row_map_changes}
use Rattle.ix_rows.specs.Gathering.{with_document, with_documents}
use Rattle.ix_rows.specs.WordRows.{IsWordTerm, word_term}
use Rattle.ix_rows.specs.SpanRows.{IsSpanTerm, section_term}
use Rattle.ix_rows.specs.laws.Gathering.{gathered_changes}
use Rattle.ix_rows.specs.laws.Inverted.{inverted_rise}
use Rattle.ix_context.specs.Postings.{is_section_entry, word_terms, section_terms, text_entries}
use Rattle.ix_rows.specs.Firsts.{first_positions}
use Rattle.ix_context.specs.Documents.{text_postings, postings_by, document_with, word_posting, section_posting}
use Rattle.ix_context.specs.Gathering.{IndexRowsView, nothing_gathered, with_section_entry, with_word_entry, with_entry, with_entries, with_text, with_texts, gathering_changes}
use Rattle.ix_context.specs.Changes.{word_changes, section_changes, postings_changes}
use Rattle.ix_context.specs.laws.Parts.{numbers_words, numbers_spans}

-- terms with the bytes of places
abbrev as_bytes : {P : Type 0} → PlaceForm P → List (List ℕ × List P) → List (List ℕ × List ℕ)
as_bytes form es = map (λ e. (e.0, counted_bytes form e.1)) es

-- ---- the words and the sections of entries

words_of : (g : IndexRowsView) (d : ℕ) (es : List Entry) → (with_entries g d es).words ≡ with_document g.words d (as_bytes number_form (word_terms es))
words_of g d [] = refl
words_of g d (e ∷ es) = words_of (with_entry g d e) d es ∙ go (is_section_entry e)
  where
    go : (b : Bool)
        → with_document (cond b (with_section_entry g d e) (with_word_entry g d e)).words d (as_bytes number_form (word_terms es)) ≡ with_document g.words d (as_bytes number_form (cons_option (cond b None (Some (word_term e.stream e.token, first_positions e.places))) (word_terms es)))
    go true = refl
    go false = refl

sections_of : (g : IndexRowsView) (d : ℕ) (es : List Entry) → (with_entries g d es).sections ≡ with_document g.sections d (as_bytes pair_form (section_terms es))
sections_of g d [] = refl
sections_of g d (e ∷ es) = sections_of (with_entry g d e) d es ∙ go (is_section_entry e)
  where
    go : (b : Bool)
        → with_document (cond b (with_section_entry g d e) (with_word_entry g d e)).sections d (as_bytes pair_form (section_terms es)) ≡ with_document g.sections d (as_bytes pair_form (cons_option (cond b (Some (section_term e.token, e.places)) None) (section_terms es)))
    go true = refl
    go false = refl

-- ---- of texts

module _ (p : Prefs) (text : ℤ → Option (List ℕ)) where
  abbrev words_in : Option (List ℕ) → List (List ℕ × List ℕ)
  words_in None = []
  words_in (Some t) = as_bytes number_form (word_terms (text_entries p t))

  abbrev sections_in : Option (List ℕ) → List (List ℕ × List ℕ)
  sections_in None = []
  sections_in (Some t) = as_bytes pair_form (section_terms (text_entries p t))

  abbrev pub its_words : ℤ → List (List ℕ × List ℕ)
  its_words r = words_in (text r)

  abbrev pub its_sections : ℤ → List (List ℕ × List ℕ)
  its_sections r = sections_in (text r)

  words_text : (g : IndexRowsView) (d : ℕ) (o : Option (List ℕ)) → (with_text p g d o).words ≡ with_document g.words d (words_in o)
  words_text g d None = refl
  words_text g d (Some t) = words_of g d (text_entries p t)

  sections_text : (g : IndexRowsView) (d : ℕ) (o : Option (List ℕ)) → (with_text p g d o).sections ≡ with_document g.sections d (sections_in o)
  sections_text g d None = refl
  sections_text g d (Some t) = sections_of g d (text_entries p t)

  words_texts : (g : IndexRowsView) (ns : List (ℕ × ℤ)) → (with_texts p text g ns).words ≡ with_documents its_words g.words ns
  words_texts g [] = refl
  words_texts g (n ∷ ns) = words_texts (with_text p g n.0 (text n.1)) ns ∙ ap (λ (m : TermRowsView). with_documents its_words m ns) (words_text g n.0 (text n.1))

  sections_texts : (g : IndexRowsView) (ns : List (ℕ × ℤ)) → (with_texts p text g ns).sections ≡ with_documents its_sections g.sections ns
  sections_texts g [] = refl
  sections_texts g (n ∷ ns) = sections_texts (with_text p g n.0 (text n.1)) ns ∙ ap (λ (m : TermRowsView). with_documents its_sections m ns) (sections_text g n.0 (text n.1))

  -- ---- what is found of them

  found_bytes : {X : Type 0} (f : X → List ℕ) (t : List ℕ) (es : List (List ℕ × X))
      → find (slice_cmp nat_cmp) t (map {B = List ℕ × List ℕ} (λ e. (e.0, f e.1)) es) ≡ option_map f (find (slice_cmp nat_cmp) t es)
  found_bytes f t [] = refl
  found_bytes f t (e ∷ es) = go (eq_by_cmp (slice_cmp nat_cmp) t e.0) (found_bytes f t es)
    where
      go : (b : Bool) → find (slice_cmp nat_cmp) t (map {B = List ℕ × List ℕ} (λ e. (e.0, f e.1)) es) ≡ option_map f (find (slice_cmp nat_cmp) t es)
          → cond b (Some (f e.1)) (find (slice_cmp nat_cmp) t (map {B = List ℕ × List ℕ} (λ e. (e.0, f e.1)) es)) ≡ option_map f (cond b (Some e.1) (find (slice_cmp nat_cmp) t es))
      go true rest = refl
      go false rest = rest

  pub words_found : (r : ℤ) (t : List ℕ) → find (slice_cmp nat_cmp) t (its_words r) ≡ option_map (counted_bytes number_form) (get (postings_by p text r).words t)
  words_found r t = go (text r)
    where
      go : (o : Option (List ℕ)) → find (slice_cmp nat_cmp) t (words_in o) ≡ option_map (counted_bytes number_form) (get (text_postings p o).words t)
      go None = sym (ap (option_map (counted_bytes number_form)) (get-empty (slice_cmp nat_cmp) t))
      go (Some u) = found_bytes (counted_bytes number_form) t (word_terms (text_entries p u)) ∙ ap (option_map (counted_bytes number_form)) (sym (get-from_entries nat_list_cmp_total (word_terms (text_entries p u)) t))

  pub sections_found : (r : ℤ) (t : List ℕ) → find (slice_cmp nat_cmp) t (its_sections r) ≡ option_map (counted_bytes pair_form) (get (postings_by p text r).spans t)
  sections_found r t = go (text r)
    where
      go : (o : Option (List ℕ)) → find (slice_cmp nat_cmp) t (sections_in o) ≡ option_map (counted_bytes pair_form) (get (text_postings p o).spans t)
      go None = sym (ap (option_map (counted_bytes pair_form)) (get-empty (slice_cmp nat_cmp) t))
      go (Some u) = found_bytes (counted_bytes pair_form) t (section_terms (text_entries p u)) ∙ ap (option_map (counted_bytes pair_form)) (sym (get-from_entries nat_list_cmp_total (section_terms (text_entries p u)) t))

  -- ---- what is put

  from_zero : {D : Type 0} (number : D → ℕ) (before : ℕ) (xs : List D) → Rises number before xs → Rises number 0 xs
  from_zero number before [] up = tt
  from_zero number before (x ∷ xs) up = (omega (arith, up.0), up.1, up.2)

  -- THE POSTINGS OF ROWS that become the next documents are what is gathered of their texts
  pub gathered_postings : (i : List ℕ) (given : ℕ) (rows : List ℤ) → given + length rows < 2 ^ 32
      → gathering_changes i (with_texts p text nothing_gathered (numbered (given + 1) rows)) ≡ postings_changes i (postings_by p text) (given + 1) rows
  gathered_postings i given rows room =
      ap (λ (ws : List (Key × Option (List ℕ))). ws ++ row_map_changes kind.Spans i (with_texts p text nothing_gathered (numbered (given + 1) rows)).sections) words
      ∙ ap (λ (ws : List (Key × Option (List ℕ))). word_changes i (postings_by p text) (given + 1) rows ++ ws) sections
    where
      words : row_map_changes kind.Postings i (with_texts p text nothing_gathered (numbered (given + 1) rows)).words ≡ word_changes i (postings_by p text) (given + 1) rows
      words =
          ap (row_map_changes kind.Postings i) (words_texts nothing_gathered (numbered (given + 1) rows))
          ∙ gathered_changes document_number (place_bytes number_form) document_with (counted_bytes number_form) (λ d x. refl) (λ d x. refl) posting_bytes (λ r. (postings_by p text r).words) its_words words_found (row_spelt number_form) kind.Postings i (given + 1) rows
          (λ t. from_zero document_number given _ (inverted_rise document_number IsWordTerm (word_posting (postings_by p text)) (numbers_words (postings_by p text)) t rows given room))

      sections : row_map_changes kind.Spans i (with_texts p text nothing_gathered (numbered (given + 1) rows)).sections ≡ section_changes i (postings_by p text) (given + 1) rows
      sections =
          ap (row_map_changes kind.Spans i) (sections_texts nothing_gathered (numbered (given + 1) rows))
          ∙ gathered_changes document_number (place_bytes pair_form) document_with (counted_bytes pair_form) (λ d x. refl) (λ d x. refl) span_row_bytes (λ r. (postings_by p text r).spans) its_sections sections_found (row_spelt pair_form) kind.Spans i (given + 1) rows
          (λ t. from_zero document_number given _ (inverted_rise document_number IsSpanTerm (section_posting (postings_by p text)) (numbers_spans (postings_by p text)) t rows given room))
