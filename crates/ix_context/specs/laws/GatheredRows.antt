-- What is gathered of any texts are rows that a store takes.
use Rattle.std.specs.Prelude.{ℕ, ℤ, ◌≡◌, ◌+◌, ◌≤◌, ◌<◌, ◌^◌, Bool, true, false, cond, All, List, [], ◌∷◌, ◌++◌, length, map, Option, Some, None, refl}
use Rattle.std.specs.FinMap.{get, entries}
use Rattle.std.specs.Ordering.{nat_cmp}
use Rattle.std.specs.Cmp.Lexicographic.{slice_cmp}
use Rattle.std.proofs.Common.{sym, ap, subst, ◌∙◌, arith}
use Rattle.std.proofs.lemmas.Cmp.{nat_list_cmp_total}
use Rattle.std.proofs.lemmas.List.{length-map}
use Rattle.std.proofs.lemmas.List.Elements.{All-head, All-tail}
use Rattle.ct_base.specs.Names.{IsName}
use Rattle.ct_base.specs.declared.numbers.Pair.{Pair}
use Rattle.ct_keep.specs.Content.{value_limit}
use Rattle.ct_keep.specs.laws.FoundKeys.{all_entries}
use Rattle.ct_entry.specs.declared.kinds.Kind.{Kind}
use Rattle.ct_entry.specs.declared.kinds.Kind.TheVariants as kind
use Rattle.ct_entry.specs.Keys.{Key, key}
use Rattle.ct_entry.specs.Changes.{put_value, spell}
use Rattle.ct_entry.specs.Each.{each, numbered}
use Rattle.ct_entry.specs.Lists.{EachIs}
use Rattle.ct_entry.specs.Shapes.{IsShaped, AreShaped}
use Rattle.ct_entry.specs.laws.Changes.{spell-append}
use Rattle.ct_entry.specs.laws.Parts.{has_short_keys}
use Rattle.ct_entry.specs.laws.Well.{entry_of_key, well-append}
use Rattle.tx_settings.specs.declared.preferences.Prefs.{Prefs}
use Rattle.tx_settings.specs.PrefsBytes.{IsPrefs}
use Rattle.tx_document.specs.declared.entries.Entry.{Entry}
use Rattle.ix_rows.specs.PlacedRows.{document_number}
use Rattle.ix_rows.specs.laws.PlacedRows.{HasPlaces, place_bytes, row_laws, row_spelt}
use Rattle.ix_posting.specs.Forms.{PlaceForm, number_form, pair_form}
use Rattle.ix_posting.specs.declared.rows.RowDocument.{RowDocument}
use Rattle.ix_posting.specs.laws.Numbers.{few_rise}
use Rattle.ix_posting.specs.Rows.{IsPostingRowOf, posting_bytes_of}
use Rattle.ix_rows.specs.Growing.{Growing, grown_rows}
use Rattle.ix_rows.specs.GrowingLists.{IsGrown}
use Rattle.ix_rows.specs.RowMaps.{TermRowsView, row_changes, row_map_changes}
use Rattle.ix_rows.specs.Spelling.{row_key, greedy}
use Rattle.ix_rows.specs.WordRows.{word_term, IsWordTerm}
use Rattle.ix_rows.specs.SpanRows.{IsSpanTerm, section_term}
use Rattle.ix_rows.specs.laws.GrowingLists.{none_grown, are_grown_more}
use Rattle.ix_rows.specs.laws.Growing.{spelt_row, grown_is_greedy}
use Rattle.ix_rows.specs.laws.Splits.{each_short}
use Rattle.ix_rows.specs.laws.Tidies.{greedy_rows}
use Rattle.ix_context.specs.Postings.{text_entries, is_section_entry, IsWord, IsSection, IsSectionOrWord, IsPosting, IsShortOrNone}
use Rattle.ix_rows.specs.Firsts.{first_positions}
use Rattle.ix_context.specs.Documents.{document_with}
use Rattle.ix_context.specs.Gathering.{IndexRowsView, nothing_gathered, with_section_entry, with_word_entry, with_entry, with_entries, with_text, with_texts, gathering_changes}
use Rattle.ix_context.specs.GatheredRows.{IsGood, AreGathered}
use Rattle.ix_context.specs.Shapes.{HasContextValue}
use Rattle.ix_context.specs.laws.IndexChanges.{IsIndexChange, AreIndexChanges, index_changes-append}
use Rattle.ix_context.specs.laws.Lengths.{length-word_le, length-section_le}
use Rattle.ix_context.specs.laws.Postings.{most_places, entries_fit, entries_few}

-- ---- documents that come

pub none_gathered : AreGathered nothing_gathered
none_gathered = record {
  words = none_grown document_number (place_bytes number_form) IsWordTerm (IsGood number_form);
  sections = none_grown document_number (place_bytes pair_form) IsSpanTerm (IsGood pair_form);
}

good_word : (d : ℕ) (e : Entry) → IsWord e → length e.places ≤ most_places → IsGood number_form (document_with d (first_positions e.places))
good_word d e is few = record {
  places =
      let long = length-map e.places (λ (p : Pair). p.first) in
      let any = is.some in
      let few_so = few_rise 0 (first_positions e.places) (omega arith) is.rise in
      (omega (arith, long, any), omega (arith, few_so), is.rise);
  short = length-word_le d e few;
}

good_section : (d : ℕ) (e : Entry) → IsSection e → length e.places ≤ most_places → IsGood pair_form (document_with d e.places)
good_section d e is few = record { places = (is.some, is.few, is.rise); short = length-section_le d e few }

pub grown_entry : (g : IndexRowsView) (d : ℕ) (e : Entry) → d < 2 ^ 32 → IsPosting e → length e.places ≤ most_places → AreGathered g → AreGathered (with_entry g d e)
grown_entry g d e small is few are = go (is_section_entry e) is
  where
    go : (b : Bool) → IsSectionOrWord b e → AreGathered (cond b (with_section_entry g d e) (with_word_entry g d e))
    go true is = record {
      words = are.words;
      sections = are_grown_more document_number (place_bytes pair_form) IsSpanTerm (IsGood pair_form) g.sections (section_term e.token) (document_with d e.places) are.sections (e.token, is.named, refl) (good_section d e is few) small;
    }
    go false is = record {
      words = are_grown_more document_number (place_bytes number_form) IsWordTerm (IsGood number_form) g.words (word_term e.stream e.token) (document_with d (first_positions e.places)) are.words (e.stream, (e.token, is.stream, is.token, refl)) (good_word d e is few) small;
      sections = are.sections;
    }

abbrev HasFew : Entry → Type 0
HasFew e = length e.places ≤ most_places

grown_entries : (g : IndexRowsView) (d : ℕ) (es : List Entry) → d < 2 ^ 32 → All IsPosting es → All HasFew es → AreGathered g → AreGathered (with_entries g d es)
grown_entries g d [] small fit few are = are
grown_entries g d (e ∷ es) small fit few are =
    grown_entries (with_entry g d e) d es small (All-tail IsPosting e es fit) (All-tail HasFew e es few) (grown_entry g d e small (All-head IsPosting e es fit) (All-head HasFew e es few) are)

pub grown_text : (p : Prefs) → IsPrefs p → (g : IndexRowsView) (d : ℕ) (o : Option (List ℕ)) → d < 2 ^ 32 → IsShortOrNone o → AreGathered g → AreGathered (with_text p g d o)
grown_text p is g d None small short are = are
grown_text p is g d (Some text) small short are = grown_entries g d (text_entries p text) small (entries_fit p text is (omega (arith, short))) (entries_few p text is short) are

pub grown_texts : (p : Prefs) → IsPrefs p → (text : ℤ → Option (List ℕ)) → ((r : ℤ) → IsShortOrNone (text r)) → (d : ℕ) (rows : List ℤ)
    → d + length rows ≤ 2 ^ 32 → (g : IndexRowsView) → AreGathered g → AreGathered (with_texts p text g (numbered d rows))
grown_texts p is text short d [] room g are = are
grown_texts p is text short d (r ∷ rows) room g are = grown_texts p is text short (d + 1) rows (omega (arith, room)) (with_text p g d (text r)) (grown_text p is g d (text r) (omega (arith, room)) (short r) are)

-- ---- the changes that put them

-- changes on entries of indexes, which put what is well shaped
abbrev pub AreRowChanges : List (Key × Option (List ℕ)) → Type 0
AreRowChanges ws = AreIndexChanges ws × AreShaped HasContextValue (spell ws)

none_put : AreRowChanges []
none_put = (tt, tt)

put_one : (k : Key) (value : List ℕ) (ws : List (Key × Option (List ℕ))) → IsIndexChange (put_value k value) → has_short_keys k.kind ≡ true
    → length value ≤ value_limit → HasContextValue k value → AreRowChanges ws → AreRowChanges (put_value k value ∷ ws)
put_one k value ws is short bounded has rest = ((is, rest.0), (entry_of_key k value is.key short bounded, record { key = k; spelt = refl; parts = is.key; has = has }, rest.1))

row_changes-append : (xs ys : List (Key × Option (List ℕ))) → AreRowChanges xs → AreRowChanges ys → AreRowChanges (xs ++ ys)
row_changes-append xs ys a b = (
  index_changes-append xs ys a.0 b.0,
  subst (AreShaped HasContextValue) (sym (spell-append xs ys)) (well-append (IsShaped HasContextValue) (spell xs) (spell ys) a.1 b.1),
)

module _ (i : List ℕ) (name : IsName i) where
  -- what is put of a row under a term
  abbrev PutsRow : {P : Type 0} → PlaceForm P → Kind → List ℕ → Type 0
  PutsRow {P} form k t = (x : RowDocument P) (xs : List (RowDocument P)) (ws : List (Key × Option (List ℕ))) → IsPostingRowOf form (x ∷ xs) → length (posting_bytes_of form (x ∷ xs)) ≤ value_limit
      → AreRowChanges ws → AreRowChanges (put_value (key k i (row_key t x.document)) (posting_bytes_of form (x ∷ xs)) ∷ ws)

  puts_word : (t : List ℕ) → IsWordTerm t → PutsRow number_form kind.Postings t
  puts_word t is x xs ws row short rest =
      let rise = row.rise in
      let term : List ℕ = word_term is.0 is.1.0 in
      subst (λ (u : List ℕ). AreRowChanges (put_value (key kind.Postings i (row_key u x.document)) (posting_bytes_of number_form (x ∷ xs)) ∷ ws)) (sym is.1.3)
      (put_one (key kind.Postings i (row_key term x.document)) (posting_bytes_of number_form (x ∷ xs)) ws
      (record { key = record { owner = name; part = (is.0, x.document, (is.1.0, is.1.1, is.1.2, rise.1, refl)) }; of = refl; bounded = short }) refl short
      (x.document, record { stream = is.0; token = is.1.0; streams = is.1.1; is = is.1.2; spelt = refl }, record { first = x; others = xs; starts = refl; row = row; spelt = refl }) rest)

  puts_section : (t : List ℕ) → IsSpanTerm t → PutsRow pair_form kind.Spans t
  puts_section t is x xs ws row short rest =
      let rise = row.rise in
      subst (λ (u : List ℕ). AreRowChanges (put_value (key kind.Spans i (row_key u x.document)) (posting_bytes_of pair_form (x ∷ xs)) ∷ ws)) (sym is.2)
      (put_one (key kind.Spans i (row_key (section_term is.0) x.document)) (posting_bytes_of pair_form (x ∷ xs)) ws
      (record { key = record { owner = name; part = (x.document, (is.0, is.1, rise.1, refl)) }; of = refl; bounded = short }) refl short
      (x.document, record { section = is.0; named = is.1; spelt = refl }, record { first = x; others = xs; starts = refl; row = row; spelt = refl }) rest)

  module _ {P : Type 0} (form : PlaceForm P) (k : Kind) where
    put_each : (t : List ℕ) → PutsRow form k t → (rows : List (List (RowDocument P))) → EachIs (IsPostingRowOf form) rows
        → EachIs (λ (row : List (RowDocument P)). length (posting_bytes_of form row) ≤ value_limit) rows
        → AreRowChanges (row_changes k i t (map (spelt_row document_number (place_bytes form) (posting_bytes_of form) (row_spelt form)) rows))
    put_each t puts [] are short = none_put
    put_each t puts ([] ∷ rows) are short = let none = are.0.some in absurd (omega (arith, none))
    put_each t puts ((x ∷ xs) ∷ rows) are short =
        puts x xs (row_changes k i t (map (spelt_row document_number (place_bytes form) (posting_bytes_of form) (row_spelt form)) rows)) are.0 short.0 (put_each t puts rows are.1 short.1)

    -- of one term
    term_rows : (IsTerm : List ℕ → Type 0) → ((t : List ℕ) → IsTerm t → PutsRow form k t) → (t : List ℕ) (g : Growing)
        → IsGrown document_number (place_bytes form) IsTerm (IsGood form) t g → AreRowChanges (row_changes k i t (grown_rows g))
    term_rows IsTerm puts t g is =
        subst (λ (rows : List (ℕ × List ℕ)). AreRowChanges (row_changes k i t rows)) (sym (ap grown_rows is.same ∙ grown_is_greedy document_number (place_bytes form) (posting_bytes_of form) (row_spelt form) is.list is.rises))
        (put_each t (puts t is.term) (greedy document_number (posting_bytes_of form) is.list)
        (greedy_rows document_number (posting_bytes_of form) (IsPostingRowOf form) (HasPlaces form) (row_laws form) is.list is.rises (λ x h. (is.good x h).places))
        (each_short document_number (posting_bytes_of form) value_limit (omega arith) is.list (λ x h. (is.good x h).short)))

  -- of all terms
  all_rows : (k : Kind) (P : List ℕ → Growing → Type 0) → ((t : List ℕ) (g : Growing) → P t g → AreRowChanges (row_changes k i t (grown_rows g)))
      → (es : List (List ℕ × Growing)) → All (λ (e : List ℕ × Growing). P e.0 e.1) es → AreRowChanges (each (λ (e : List ℕ × Growing). row_changes k i e.0 (grown_rows e.1)) es)
  all_rows k P one [] all = none_put
  all_rows k P one (e ∷ es) all =
      row_changes-append (row_changes k i e.0 (grown_rows e.1)) (each (λ (e : List ℕ × Growing). row_changes k i e.0 (grown_rows e.1)) es)
      (one e.0 e.1 (All-head (λ (e : List ℕ × Growing). P e.0 e.1) e es all)) (all_rows k P one es (All-tail (λ (e : List ℕ × Growing). P e.0 e.1) e es all))

  map_rows : (k : Kind) (P : List ℕ → Growing → Type 0) → ((t : List ℕ) (g : Growing) → P t g → AreRowChanges (row_changes k i t (grown_rows g)))
      → (m : TermRowsView) → ((t : List ℕ) (g : Growing) → get m t ≡ Some g → P t g) → AreRowChanges (row_map_changes k i m)
  map_rows k P one m are = all_rows k P one (entries m) (all_entries (slice_cmp nat_cmp) nat_list_cmp_total (λ (e : List ℕ × Growing). P e.0 e.1) m (λ t g there. are t g there))

  row_changes_gathered : (g : IndexRowsView) → AreGathered g → AreRowChanges (gathering_changes i g)
  row_changes_gathered g are =
      row_changes-append (row_map_changes kind.Postings i g.words) (row_map_changes kind.Spans i g.sections)
      (map_rows kind.Postings (IsGrown document_number (place_bytes number_form) IsWordTerm (IsGood number_form)) (term_rows number_form kind.Postings IsWordTerm puts_word) g.words are.words)
      (map_rows kind.Spans (IsGrown document_number (place_bytes pair_form) IsSpanTerm (IsGood pair_form)) (term_rows pair_form kind.Spans IsSpanTerm puts_section) g.sections are.sections)

  pub index_changes_gathered : (g : IndexRowsView) → AreGathered g → AreIndexChanges (gathering_changes i g)
  index_changes_gathered g are = (row_changes_gathered g are).0

  pub shaped_gathered : (g : IndexRowsView) → AreGathered g → AreShaped HasContextValue (spell (gathering_changes i g))
  shaped_gathered g are = (row_changes_gathered g are).1
