-- What the changes by which rows become documents make of a CONTEXT index.
use Rattle.std.proofs.Common.{◌≡◌, ℕ, ℤ, ◌+◌, ◌<◌, ◌^◌, Bool, true, false, cond, List, [], ◌∷◌, ◌++◌, length, Option, Some, None, refl, sym, ap, subst, ◌∙◌, arith}
use Rattle.std.specs.Prelude.{◌||◌, not}
use Rattle.std.specs.List.{list_any}
use Rattle.std.specs.Ordering.{nat_cmp, int_eq}
use Rattle.std.specs.Cmp.Lexicographic.{slice_cmp}
use Rattle.std.specs.FinMap.{get, get-empty, get-from_entries}
use Rattle.std.proofs.lemmas.Bool.{not-true}
use Rattle.std.proofs.lemmas.Cmp.{nat_list_cmp_total}
use Rattle.ct_base.specs.laws.Options.{option_map_some}
use Rattle.ct_base.specs.declared.numbers.Pair.{Pair}
use Rattle.ct_entry.specs.declared.kinds.Kind.TheVariants as kind
use Rattle.ct_entry.specs.Keys.{Key, key, same_key, row_part, IsRow}
use Rattle.ct_entry.specs.Changes.{view, told, drop_key}
use Rattle.ct_entry.specs.Lists.{AreApart}
use Rattle.ct_entry.specs.laws.Changes.{view-append}
use Rattle.ct_entry.specs.laws.Keys.{key_from_same}
use Rattle.ct_entry.specs.laws.Parts.{int_same}
use Rattle.ix_rows.specs.PlacedRows.{document_number}
use Rattle.ix_rows.specs.laws.PlacedRows.{HasPlaces, row_laws, place_bytes}
use Rattle.ix_posting.specs.Forms.{number_form, pair_form, counted_bytes}
use Rattle.ix_posting.specs.Rows.{IsPostingRow, posting_bytes, WordDocument, SpanDocument, IsSpanRow, span_row_bytes}
use Rattle.ix_rows.specs.WordRows.{IsWordTerm}
use Rattle.ix_rows.specs.SpanRows.{IsSpanTerm}
use Rattle.ix_rows.specs.Stores.{Untidy}
use Rattle.ix_rows.specs.Gathering.{terms_of}
use Rattle.ix_rows.specs.laws.Gathering.{terms_apart, no_list}
use Rattle.ix_rows.specs.laws.Puts.{put_rows}
use Rattle.ix_docmap.specs.Changes.{mark_changes}
use Rattle.ix_docmap.specs.Marks.{Marks, is_settled}
use Rattle.ix_docmap.specs.laws.Documents.{settled_in, AllFree}
use Rattle.tx_settings.specs.declared.preferences.Prefs.{Prefs}
use Rattle.tx_settings.specs.PrefsBytes.{IsPrefs}
use Rattle.ix_context.specs.Postings.{text_entries, word_terms, section_terms, IsShortOrNone}
use Rattle.ix_context.specs.Indexes.{Part}
use Rattle.ix_context.specs.Documents.{text_postings, postings_by, document_with, word_posting, section_posting}
use Rattle.ix_context.specs.Standing.{PartStands}
use Rattle.ix_context.specs.Changes.{mark_each_changes, settle_each_changes, postings_changes}
use Rattle.ix_context.specs.laws.Gathered.{its_words, its_sections, words_found, sections_found}
use Rattle.ix_context.specs.laws.Parts.{numbers_words, numbers_spans, part_synced}
use Rattle.ix_context.specs.laws.Postings.{word_term_is_row, section_term_is_row}

-- ---- each posting of a text is good by itself

module _ (p : Prefs) (are : IsPrefs p) (text : ℤ → Option (List ℕ)) (short : (r : ℤ) → IsShortOrNone (text r)) where
  good_word : (t : List ℕ) (r : ℤ) (d : ℕ) (y : WordDocument) → word_posting (postings_by p text) r t d ≡ Some y → HasPlaces number_form y
  good_word t r d y is = let w = option_map_some (document_with d) (get (postings_by p text r).words t) y is in subst (HasPlaces number_form) w.2 (of_text (text r) (short r) w.0 w.1)
    where
      of_text : (o : Option (List ℕ)) → IsShortOrNone o → (x : List ℕ) → get (text_postings p o).words t ≡ Some x → HasPlaces number_form (document_with d x)
      of_text None few x found = let wrong : None ≡ Some x = sym (get-empty (slice_cmp nat_cmp) t) ∙ found in cc
      of_text (Some u) few x found =
          let rise = (word_term_is_row 1 (omega arith) (omega arith) p u are (omega (arith, few)) x t (sym (get-from_entries nat_list_cmp_total (word_terms (text_entries p u)) t) ∙ found)).rise in
          (rise.2, rise.3, rise.4)

  good_section : (t : List ℕ) (r : ℤ) (d : ℕ) (y : SpanDocument) → section_posting (postings_by p text) r t d ≡ Some y → HasPlaces pair_form y
  good_section t r d y is = let w = option_map_some (document_with d) (get (postings_by p text r).spans t) y is in subst (HasPlaces pair_form) w.2 (of_text (text r) (short r) w.0 w.1)
    where
      of_text : (o : Option (List ℕ)) → IsShortOrNone o → (x : List Pair) → get (text_postings p o).spans t ≡ Some x → HasPlaces pair_form (document_with d x)
      of_text None few x found = let wrong : None ≡ Some x = sym (get-empty (slice_cmp nat_cmp) t) ∙ found in cc
      of_text (Some u) few x found =
          let rise = (section_term_is_row 1 (omega arith) (omega arith) p u are (omega (arith, few)) x t (sym (get-from_entries nat_list_cmp_total (section_terms (text_entries p u)) t) ∙ found)).rise in
          (rise.2, rise.3, rise.4)

  -- ROWS THAT AREN'T SETTLED leave the queue and become the next documents, and their postings are put as the split of what they have under each term
  pub part_settled : (f : Key → Option (List ℕ)) (i : List ℕ) (mark : Marks) (part : Part) (rows : List ℤ) → AreApart rows → AllFree mark rows
      → part.given + length rows < 2 ^ 32 → PartStands f i (postings_by p text) mark part
      → PartStands (view (settle_each_changes i (part.given + 1) rows ++ postings_changes i (postings_by p text) (part.given + 1) rows) f) i (postings_by p text) (settled_in rows mark) (record part { given = part.given + length rows; tidiness = Untidy })
  part_settled f i mark part rows apart free room stand =
      part_synced f i (postings_by p text) mark part rows _ _ apart free room
      (put_rows document_number posting_bytes IsPostingRow (HasPlaces number_form) (row_laws number_form) IsWordTerm kind.Postings i (word_posting (postings_by p text)) (numbers_words (postings_by p text)) part.given rows (terms_of (λ r. (postings_by p text r).words) rows)
      (terms_apart (λ r. (postings_by p text r).words) rows) room good_word
      (λ t is none. no_list document_number (place_bytes number_form) document_with (counted_bytes number_form) (λ d x. refl) (λ d x. refl) posting_bytes (λ r. (postings_by p text r).words) (its_words p text) (words_found p text) t (part.given + 1) rows none))
      (put_rows document_number span_row_bytes IsSpanRow (HasPlaces pair_form) (row_laws pair_form) IsSpanTerm kind.Spans i (section_posting (postings_by p text)) (numbers_spans (postings_by p text)) part.given rows (terms_of (λ r. (postings_by p text r).spans) rows)
      (terms_apart (λ r. (postings_by p text r).spans) rows) room good_section
      (λ t is none. no_list document_number (place_bytes pair_form) document_with (counted_bytes pair_form) (λ d x. refl) (λ d x. refl) span_row_bytes (λ r. (postings_by p text r).spans) (its_sections p text) (sections_found p text) t (part.given + 1) rows none))
      stand

-- ---- rows that have no mark

-- where a key has nothing, dropping it changes nothing: so CREATE INDEX needs no drops from the queue
pub drop_nothing : (k : Key) (ws : List (Key × Option (List ℕ))) (f : Key → Option (List ℕ)) → f k ≡ None → view (drop_key k ∷ ws) f ≡ view ws f
drop_nothing k ws f none = λ i j. ap (told ws j) (go j (same_key j k) refl) i
  where
    go : (j : Key) (b : Bool) → same_key j k ≡ b → cond b None (f j) ≡ f j
    go j true e = sym (ap f (key_from_same j k e) ∙ none)
    go j false e = refl

-- what holds of each row
abbrev pub EachRow : (ℤ → Type 0) → List ℤ → Type 0
EachRow P [] = Unit {0}
EachRow P (r ∷ rs) = P r × EachRow P rs

pub drops_nothing : (i : List ℕ) (d : ℕ) (rows : List ℤ) (f : Key → Option (List ℕ)) → EachRow (λ r. f (key kind.Pending i (row_part r)) ≡ None) rows
    → view (settle_each_changes i d rows) f ≡ view (mark_each_changes i d rows) f
drops_nothing i d [] f none = refl
drops_nothing i d (r ∷ rows) f none =
    drop_nothing (key kind.Pending i (row_part r)) (mark_changes i d r ++ settle_each_changes i (d + 1) rows) f none.0
    ∙ view-append (mark_changes i d r) (settle_each_changes i (d + 1) rows) f
    ∙ drops_nothing i (d + 1) rows (view (mark_changes i d r) f) (still rows none.1)
    ∙ sym (view-append (mark_changes i d r) (mark_each_changes i (d + 1) rows) f)
  where
    still : (rs : List ℤ) → EachRow (λ s. f (key kind.Pending i (row_part s)) ≡ None) rs → EachRow (λ s. view (mark_changes i d r) f (key kind.Pending i (row_part s)) ≡ None) rs
    still [] all = tt
    still (s ∷ rs) all = (all.0, still rs all.1)

-- ---- several rows

-- what holds of whatever is among them
pub each_among : (P : ℤ → Type 0) (rows : List ℤ) → ((r : ℤ) → list_any (int_eq r) rows ≡ true → P r) → EachRow P rows
each_among P [] among = tt
each_among P (r ∷ rs) among =
    (among r (ap (λ (b : Bool). b || list_any (int_eq r) rs) (int_same r)), each_among P rs (λ s there. among s (later (int_eq s r) (list_any (int_eq s) rs) there)))
  where
    later : (a b : Bool) → b ≡ true → (a || b) ≡ true
    later true b h = refl
    later false b h = h

pub all_free : (mark : Marks) (rows : List ℤ) → EachRow (λ s. IsRow s × (not (is_settled (mark s)) ≡ true)) rows → AllFree mark rows
all_free mark [] all = tt
all_free mark (r ∷ rs) all = (all.0.0, not-true _ all.0.1, all_free mark rs all.1)
