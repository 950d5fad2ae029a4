-- What is gathered of texts whose postings come as an inversion is what is gathered of them one after the other.
use Rattle.std.specs.Prelude.{ℕ, ℤ, ◌≡◌, ◌+◌, ◌≤◌, ◌<◌, ◌^◌, ◌&&◌, nat_le, not, Bool, true, false, cond, All, List, [], ◌∷◌, ◌++◌, length, map, Option, Some, None, refl}
use Rattle.std.specs.Bool.{if◌then◌else◌}
use Rattle.std.specs.List.{filter, filter_map, cons_option, flat_map, AllByRecursion}
use Rattle.std.specs.Str.{chars}
use Rattle.std.specs.Ordering.{nat_cmp}
use Rattle.std.specs.Cmp.Lexicographic.{slice_cmp}
use Rattle.std.specs.FinMap as fin
use Rattle.std.proofs.Common.{sym, ap, ◌∙◌, arith}
use Rattle.std.proofs.lemmas.Bool.{and_parts, eqb-true, leb-true, le-leb}
use Rattle.std.proofs.lemmas.List.Elements.{All-head, All-tail, All-from_recursion}
use Rattle.std.proofs.lemmas.List.Sorted.{All-permutation}
use Rattle.ct_entry.specs.Each.{numbered}
use Rattle.ct_entry.specs.Keys.{same_list}
use Rattle.ct_entry.specs.laws.Keys.{list_from_same}
use Rattle.ct_entry.specs.laws.Maps.{entries-none}
use Rattle.tx_settings.specs.declared.preferences.Prefs.{Prefs}
use Rattle.tx_settings.specs.PrefsBytes.{IsPrefs}
use Rattle.tx_tags.specs.Groups.{is_zone}
use Rattle.tx_tags.specs.declared.pairing.Span.{Span}
use Rattle.tx_document.specs.declared.entries.Entry.{Entry}
use Rattle.tx_document.specs.declared.views.SectionView.{SectionView}
use Rattle.tx_document.specs.declared.endings.Ending.{Ending}
use Rattle.tx_document.specs.declared.endings.Ending.TheVariants.{Sentence, Paragraph}
use Rattle.tx_document.specs.Documents.{Extent, extents, instance_of, instances, positions_in, reach_of, rising, runs_if, zone_instances}
use Rattle.tx_document.specs.Entries.{entry_of, place_map, section_place, section_stream}
use Rattle.ix_invert.specs.declared.postings.Posting.{Posting}
use Rattle.ix_invert.specs.Inverting.{all_postings, IsInversion}
use Rattle.ix_invert.specs.Promises.{IsOfOneTerm, NumbersItsOwn}
use Rattle.ix_invert.specs.laws.Terms.{terms_stand_in_turn}
use Rattle.ix_posting.specs.Forms.{counted_bytes, number_form, pair_form}
use Rattle.ix_rows.specs.Coming.{Coming, coming_to}
use Rattle.ix_rows.specs.Coming.{with_postings as with_coming}
use Rattle.ix_rows.specs.Firsts.{first_positions}
use Rattle.ix_rows.specs.RowMaps.{TermRowsView}
use Rattle.ix_rows.specs.WordRows.{word_term}
use Rattle.ix_rows.specs.SpanRows.{section_term}
use Rattle.ix_rows.specs.laws.Coming.{grown_by_term}
use Rattle.ix_context.specs.Postings.{is_section_entry, text_entries, IsPosting, IsShortOrNone, indexed_text_limit}
use Rattle.ix_context.specs.Gathering.{IndexRowsView, with_section_entry, with_word_entry, with_entry, with_entries, with_text, with_texts}
use Rattle.ix_context.specs.GatheredRows.{AreGathered}
use Rattle.ix_context.specs.GatheringPortions.{Comes, entry_in, text_or_empty, posting_of, postings_as, texts_of, with_portion, with_postings}
use Rattle.ix_context.specs.laws.GatheredRows.{grown_entry}
use Rattle.ix_context.specs.laws.Postings.{entries_fit, entries_few, most_places}

-- ---- to the rows of words, and to those of sections

-- a posting as it comes to a word, and to a section
abbrev word_coming : Posting → Option Coming
word_coming p = if is_section_entry (entry_in p) then None else Some (word_term p.stream p.token, (p.doc.0, counted_bytes number_form (first_positions p.places)))

abbrev section_coming : Posting → Option Coming
section_coming p = if is_section_entry (entry_in p) then Some (section_term p.token, (p.doc.0, counted_bytes pair_form p.places)) else None

words_of : (g : IndexRowsView) (ps : List Posting) → (with_postings g ps).words ≡ with_coming g.words (filter_map word_coming ps)
words_of g [] = refl
words_of g (p ∷ ps) = words_of (with_entry g p.doc.0 (entry_in p)) ps ∙ go (is_section_entry (entry_in p))
  where
    go : (b : Bool) → with_coming (cond b (with_section_entry g p.doc.0 (entry_in p)) (with_word_entry g p.doc.0 (entry_in p))).words (filter_map word_coming ps)
        ≡ with_coming g.words (cons_option (cond b None (Some (word_term p.stream p.token, (p.doc.0, counted_bytes number_form (first_positions p.places))))) (filter_map word_coming ps))
    go true = refl
    go false = refl

sections_of : (g : IndexRowsView) (ps : List Posting) → (with_postings g ps).sections ≡ with_coming g.sections (filter_map section_coming ps)
sections_of g [] = refl
sections_of g (p ∷ ps) = sections_of (with_entry g p.doc.0 (entry_in p)) ps ∙ go (is_section_entry (entry_in p))
  where
    go : (b : Bool) → with_coming (cond b (with_section_entry g p.doc.0 (entry_in p)) (with_word_entry g p.doc.0 (entry_in p))).sections (filter_map section_coming ps)
        ≡ with_coming g.sections (cons_option (cond b (Some (section_term p.token, (p.doc.0, counted_bytes pair_form p.places))) None) (filter_map section_coming ps))
    go true = refl
    go false = refl

-- ---- those of one term

-- whether a posting comes to this word, and to this section
abbrev comes_to_word : List ℕ → Posting → Bool
comes_to_word t p = not (is_section_entry (entry_in p)) && same_list t (word_term p.stream p.token)

abbrev comes_to_section : List ℕ → Posting → Bool
comes_to_section t p = is_section_entry (entry_in p) && same_list t (section_term p.token)

to_word : (t : List ℕ) (ps : List Posting) → coming_to t (filter_map word_coming ps) ≡ filter_map word_coming (filter (comes_to_word t) ps)
to_word t [] = refl
to_word t (p ∷ ps) = go (is_section_entry (entry_in p)) (same_list t (word_term p.stream p.token)) refl refl (to_word t ps)
  where
    coming : Coming
    coming = (word_term p.stream p.token, (p.doc.0, counted_bytes number_form (first_positions p.places)))

    go : (b same : Bool) → is_section_entry (entry_in p) ≡ b → same_list t (word_term p.stream p.token) ≡ same
        → coming_to t (filter_map word_coming ps) ≡ filter_map word_coming (filter (comes_to_word t) ps)
        → coming_to t (cons_option (cond b None (Some coming)) (filter_map word_coming ps)) ≡ filter_map word_coming (cond (not b && same) (p ∷ filter (comes_to_word t) ps) (filter (comes_to_word t) ps))
    go true same at too rest = rest
    go false true at too rest =
        ap (λ (b : Bool). cond b (coming ∷ coming_to t (filter_map word_coming ps)) (coming_to t (filter_map word_coming ps))) too
        ∙ ap (λ (l : List Coming). coming ∷ l) rest
        ∙ sym (ap (λ (b : Bool). cons_option (cond b None (Some coming)) (filter_map word_coming (filter (comes_to_word t) ps))) at)
    go false false at too rest = ap (λ (b : Bool). cond b (coming ∷ coming_to t (filter_map word_coming ps)) (coming_to t (filter_map word_coming ps))) too ∙ rest

to_section : (t : List ℕ) (ps : List Posting) → coming_to t (filter_map section_coming ps) ≡ filter_map section_coming (filter (comes_to_section t) ps)
to_section t [] = refl
to_section t (p ∷ ps) = go (is_section_entry (entry_in p)) (same_list t (section_term p.token)) refl refl (to_section t ps)
  where
    coming : Coming
    coming = (section_term p.token, (p.doc.0, counted_bytes pair_form p.places))

    go : (b same : Bool) → is_section_entry (entry_in p) ≡ b → same_list t (section_term p.token) ≡ same
        → coming_to t (filter_map section_coming ps) ≡ filter_map section_coming (filter (comes_to_section t) ps)
        → coming_to t (cons_option (cond b (Some coming) None) (filter_map section_coming ps)) ≡ filter_map section_coming (cond (b && same) (p ∷ filter (comes_to_section t) ps) (filter (comes_to_section t) ps))
    go true true at too rest =
        ap (λ (b : Bool). cond b (coming ∷ coming_to t (filter_map section_coming ps)) (coming_to t (filter_map section_coming ps))) too
        ∙ ap (λ (l : List Coming). coming ∷ l) rest
        ∙ sym (ap (λ (b : Bool). cons_option (cond b (Some coming) None) (filter_map section_coming (filter (comes_to_section t) ps))) at)
    go true false at too rest = ap (λ (b : Bool). cond b (coming ∷ coming_to t (filter_map section_coming ps)) (coming_to t (filter_map section_coming ps))) too ∙ rest
    go false same at too rest = rest

-- these tests are passed by the postings of one stream and one token
one_word : (t : List ℕ) → IsOfOneTerm (comes_to_word t)
one_word t a b at too =
    let first = list_from_same t (word_term a.stream a.token) (and_parts (not (is_section_entry (entry_in a))) (same_list t (word_term a.stream a.token)) at).1 in
    let second = list_from_same t (word_term b.stream b.token) (and_parts (not (is_section_entry (entry_in b))) (same_list t (word_term b.stream b.token)) too).1 in
    let same : word_term a.stream a.token ≡ word_term b.stream b.token = sym first ∙ second in
    (cc, cc)

one_section : (t : List ℕ) → IsOfOneTerm (comes_to_section t)
one_section t a b at too =
    let left = and_parts (is_section_entry (entry_in a)) (same_list t (section_term a.token)) at in
    let right = and_parts (is_section_entry (entry_in b)) (same_list t (section_term b.token)) too in
    let same : section_term a.token ≡ section_term b.token = sym (list_from_same t (section_term a.token) left.1) ∙ list_from_same t (section_term b.token) right.1 in
    (eqb-true a.stream section_stream left.0 ∙ sym (eqb-true b.stream section_stream right.0), cc)

-- ---- an inversion

module _ (p : Prefs) where
  numbers_entries : (d : ℕ) (es : List Entry) → AllByRecursion (λ (q : Posting). q.doc.0 ≡ d) (map (posting_of d) es)
  numbers_entries d [] = tt
  numbers_entries d (e ∷ es) = (refl, numbers_entries d es)

  numbers_its_own : NumbersItsOwn (postings_as p)
  numbers_its_own d text = go (nat_le (length text) indexed_text_limit)
    where
      go : (b : Bool) → AllByRecursion (λ (q : Posting). q.doc.0 ≡ d) (cond b (map (posting_of d) (text_entries p text)) [])
      go true = numbers_entries d (text_entries p text)
      go false = tt

  module _ (first : ℕ) (texts : List (List ℕ)) (given : List Posting) (is : IsInversion (all_postings (postings_as p) first texts) given) where
    -- what comes to the rows of a kind, whose terms these tests tell, is the same
    same_coming : (coming : Posting → Option Coming) (comes_to : List ℕ → Posting → Bool)
        → ((t : List ℕ) (ps : List Posting) → coming_to t (filter_map coming ps) ≡ filter_map coming (filter (comes_to t) ps)) → ((t : List ℕ) → IsOfOneTerm (comes_to t))
        → (m : TermRowsView) → with_coming m (filter_map coming given) ≡ with_coming m (filter_map coming (all_postings (postings_as p) first texts))
    same_coming coming comes_to told one =
        let all = all_postings (postings_as p) first texts in
        grown_by_term (filter_map coming given) (filter_map coming all)
        (λ t. told t given ∙ ap (filter_map coming) (terms_stand_in_turn (postings_as p) numbers_its_own first texts given is (comes_to t) (one t)) ∙ sym (told t all))

    -- AN INVERSION of a portion comes as its texts one after the other
    pub inversion_comes : (g : IndexRowsView) → with_postings g given ≡ with_portion p g first texts
    inversion_comes g = λ i. record { words = words i; sections = sections i }
      where
        all : List Posting
        all = all_postings (postings_as p) first texts

        words : (with_postings g given).words ≡ (with_postings g all).words
        words = words_of g given ∙ same_coming word_coming comes_to_word to_word one_word g.words ∙ sym (words_of g all)

        sections : (with_postings g given).sections ≡ (with_postings g all).sections
        sections = sections_of g given ∙ same_coming section_coming comes_to_section to_section one_section g.sections ∙ sym (sections_of g all)

  -- ---- texts one after the other

  with_postings-append : (g : IndexRowsView) (ps qs : List Posting) → with_postings g (ps ++ qs) ≡ with_postings (with_postings g ps) qs
  with_postings-append g [] qs = refl
  with_postings-append g (q ∷ ps) qs = with_postings-append (with_entry g q.doc.0 (entry_in q)) ps qs

  entries_come : (g : IndexRowsView) (d : ℕ) (es : List Entry) → with_postings g (map (posting_of d) es) ≡ with_entries g d es
  entries_come g d [] = refl
  entries_come g d (e ∷ es) = entries_come (with_entry g d e) d es

  -- an empty text has nothing
  no_instances : (es : List Extent) → flat_map (zone_instances []) es ≡ []
  no_instances [] = refl
  no_instances (e ∷ es) = ap (λ (l : List SectionView). l ++ flat_map (zone_instances []) es) (go (is_zone e.kind)) ∙ no_instances es
    where
      none : (spans : List Span) → flat_map (λ (span : Span). instance_of e.section (reach_of (positions_in span 1 []))) spans ≡ []
      none [] = refl
      none (s ∷ ss) = none ss

      go : (b : Bool) → cond b (flat_map (λ (span : Span). instance_of e.section (reach_of (positions_in span 1 []))) e.spans) [] ≡ []
      go true = none e.spans
      go false = refl

  no_runs : (b : Bool) (ending : Ending) → runs_if b ending [] ≡ []
  no_runs true ending = refl
  no_runs false ending = refl

  nothing_in_no_text : text_entries p [] ≡ []
  unfolding chars
  nothing_in_no_text =
      ap (λ (is : List SectionView). map entry_of (fin.entries (place_map (map section_place (rising is))))) none
      ∙ ap (map entry_of) (entries-none (slice_cmp nat_cmp))
    where
      none : instances p.group (extents [] 0 p.group.sections) [] ≡ []
      none =
          ap (λ (l : List SectionView). l ++ (runs_if p.group.sentence Sentence [] ++ runs_if p.group.paragraph Paragraph [])) (no_instances (extents [] 0 p.group.sections))
          ∙ ap (λ (l : List SectionView). l ++ runs_if p.group.paragraph Paragraph []) (no_runs p.group.sentence Sentence)
          ∙ no_runs p.group.paragraph Paragraph

  text_comes : (g : IndexRowsView) (d : ℕ) (o : Option (List ℕ)) → IsShortOrNone o → with_postings g (postings_as p d (text_or_empty o)) ≡ with_text p g d o
  text_comes g d None short = ap (λ (es : List Entry). with_postings g (map (posting_of d) es)) nothing_in_no_text
  text_comes g d (Some text) short =
      ap (λ (b : Bool). with_postings g (cond b (map (posting_of d) (text_entries p text)) [])) (le-leb (length text) indexed_text_limit short) ∙ entries_come g d (text_entries p text)

  -- A PORTION is the texts of its rows, one after the other
  pub portion_is : (text : ℤ → Option (List ℕ)) → ((r : ℤ) → IsShortOrNone (text r)) → (g : IndexRowsView) (d : ℕ) (rows : List ℤ)
      → with_portion p g d (texts_of text rows) ≡ with_texts p text g (numbered d rows)
  portion_is text short g d [] = refl
  portion_is text short g d (r ∷ rows) =
      with_postings-append g (postings_as p d (text_or_empty (text r))) (all_postings (postings_as p) (d + 1) (texts_of text rows))
      ∙ ap (λ (h : IndexRowsView). with_portion p h (d + 1) (texts_of text rows)) (text_comes g d (text r) (short r))
      ∙ portion_is text short (with_text p g d (text r)) (d + 1) rows

-- ---- what comes of texts are postings

module _ (p : Prefs) (is : IsPrefs p) where
  as_they_come : (d : ℕ) (es : List Entry) → d < 2 ^ 32 → All IsPosting es → All (λ (e : Entry). length e.places ≤ most_places) es → AllByRecursion Comes (map (posting_of d) es)
  as_they_come d [] small fit few = tt
  as_they_come d (e ∷ es) small fit few = (
    record { is = All-head IsPosting e es fit; few = All-head (λ (e : Entry). length e.places ≤ most_places) e es few; document = small },
    as_they_come d es small (All-tail IsPosting e es fit) (All-tail (λ (e : Entry). length e.places ≤ most_places) e es few),
  )

  text_as_it_comes : (d : ℕ) (text : List ℕ) → d < 2 ^ 32 → AllByRecursion Comes (postings_as p d text)
  text_as_it_comes d text small = go (nat_le (length text) indexed_text_limit) refl
    where
      go : (b : Bool) → nat_le (length text) indexed_text_limit ≡ b → AllByRecursion Comes (cond b (map (posting_of d) (text_entries p text)) [])
      go true at = let short = leb-true (length text) indexed_text_limit at in as_they_come d (text_entries p text) small (entries_fit p text is (omega (arith, short))) (entries_few p text is short)
      go false at = tt

  joined : (ps qs : List Posting) → AllByRecursion Comes ps → AllByRecursion Comes qs → AllByRecursion Comes (ps ++ qs)
  joined [] qs first second = second
  joined (q ∷ ps) qs first second = (first.0, joined ps qs first.1 second)

  all_come : (d : ℕ) (texts : List (List ℕ)) → d + length texts ≤ 2 ^ 32 → AllByRecursion Comes (all_postings (postings_as p) d texts)
  all_come d [] room = tt
  all_come d (text ∷ texts) room =
      joined (postings_as p d text) (all_postings (postings_as p) (d + 1) texts) (text_as_it_comes d text (omega (arith, room))) (all_come (d + 1) texts (omega (arith, room)))

  -- so are those of their inversion
  pub inversion_is_of_postings : (first : ℕ) (texts : List (List ℕ)) (given : List Posting) → first + length texts ≤ 2 ^ 32 → IsInversion (all_postings (postings_as p) first texts) given → All Comes given
  inversion_is_of_postings first texts given room inverts =
      All-permutation Comes (all_postings (postings_as p) first texts) given inverts.each_once (All-from_recursion Comes (all_postings (postings_as p) first texts) (all_come first texts room))

-- and they leave rows that a store takes
pub grown_postings : (g : IndexRowsView) (ps : List Posting) → All Comes ps → AreGathered g → AreGathered (with_postings g ps)
grown_postings g [] come are = are
grown_postings g (p ∷ ps) come are =
    let first = All-head Comes p ps come in
    grown_postings (with_entry g p.doc.0 (entry_in p)) ps (All-tail Comes p ps come) (grown_entry g p.doc.0 (entry_in p) first.document first.is first.few are)
