-- What was read for a query scores each document as its text does.
use Rattle.std.proofs.Common.{◌≡◌, ℕ, ℤ, ◌≤◌, ◌<◌, ◌^◌, ◌&&◌, ◌||◌, ◌==◌, eqb, bytes_eq, Bool, true, false, cond, List, [], ◌∷◌, ◌++◌, length, map, Option, Some, None, refl, sym, ap, subst, ◌∙◌, arith, eqb-true}
use Rattle.std.specs.Prelude.{is_some, nat_lt}
use Rattle.std.specs.List.{list_any, filter_map}
use Rattle.std.specs.Option.{option_map, option_and_then}
use Rattle.std.specs.Str.{chars}
use Rattle.std.specs.Ordering.{nat_cmp, int_cmp}
use Rattle.std.specs.Cmp.Lexicographic.{slice_cmp}
use Rattle.std.specs.FinMap.{get, entries, get-empty}
use Rattle.std.proofs.lemmas.Bool.{and_parts}
use Rattle.std.proofs.lemmas.Cmp.{int_cmp_total}
use Rattle.std.proofs.lemmas.Map.Lookups.{exact_signed}
use Rattle.std.proofs.lemmas.Slice.Eq.{bytes_eq-Decides}
use Rattle.ct_base.specs.Limits.{stream_limit}
use Rattle.ct_base.specs.Names.{IsName}
use Rattle.ct_base.specs.declared.numbers.Pair.{Pair}
use Rattle.ct_bytes.specs.RowKeys.{row_bytes}
use Rattle.ct_keep.specs.Content.{Content}
use Rattle.ct_entry.specs.declared.kinds.Kind.TheVariants as kind
use Rattle.ct_entry.specs.Keys.{at, document_part, IsRow, IsDocument, IsToken, HasKeysOnly}
use Rattle.ct_entry.specs.Lists.{EachIs}
use Rattle.ct_entry.specs.Listings.{row_of, owner_entries}
use Rattle.ct_entry.specs.Maps.{Rows}
use Rattle.ct_entry.specs.laws.Documents.{posting_prefix, span_prefix}
use Rattle.ct_entry.specs.laws.Rows.{row_of-row_part}
use Rattle.tb_table.specs.Tables.{Table}
use Rattle.ix_posting.specs.declared.rows.RowDocument.{RowDocument}
use Rattle.ix_posting.specs.Forms.{PlaceForm, number_form, pair_form}
use Rattle.ix_rows.specs.PlacedRows.{document_number}
use Rattle.ix_rows.specs.laws.PlacedRows.{HasPlaces, row_laws}
use Rattle.ix_posting.specs.Lists.{posting_list}
use Rattle.ix_posting.specs.Rows.{WordDocument, SpanDocument, IsPostingRowOf, posting_bytes_of, IsPostingRow, posting_bytes, DocumentsRise, IsSpanRow, span_row_bytes}
use Rattle.ix_rows.specs.Posts.{posting, Rises}
use Rattle.ix_rows.specs.Spelling.{first_document}
use Rattle.ix_rows.specs.WordRows.{word_term, IsWordTerm}
use Rattle.ix_rows.specs.SpanRows.{IsSpanTerm, section_term}
use Rattle.ix_rows.specs.laws.Tidies.{firsts_of}
use Rattle.ix_rows.specs.laws.Scans.{rows_scanned}
use Rattle.ix_docmap.specs.Marks.{Mark, Pending, Settled, is_settled}
use Rattle.ix_docmap.specs.Readings.{row_at_document}
use Rattle.tx_settings.specs.PrefsBytes.{IsPrefs}
use Rattle.tx_document.specs.Documents.{document}
use Rattle.tx_document.specs.Entries.{positions_of}
use Rattle.tx_document.specs.Promises.{if_any}
use Rattle.ix_kinds.specs.Indextypes.{IndexOf}
use Rattle.ix_context.specs.Indexes.{ContextIndex, texts_in}
use Rattle.ix_context.specs.Documents as documents
use Rattle.ix_context.specs.Contexts.{context_stands}
use Rattle.ix_context.specs.Limits.{IsWithinLimits}
use Rattle.q_tree.specs.declared.flats.Slot.{Slot}
use Rattle.q_tree.specs.declared.flats.Slot.TheVariants.{Any, Takes}
use Rattle.q_tree.specs.Slots.{same_slot, has_key}
use Rattle.ix_spans.specs.Occurrences.{has_number}
use Rattle.q_tree.specs.Documents.{section_pairs}
use Rattle.q_tree.specs.Scores.{DocPostings, score, last_position}
use Rattle.q_tree.specs.Soundness.{is_sound}
use Rattle.q_tree.specs.ReducedQueries.{Reduced}
use Rattle.q_tree.specs.laws.SameSlots.{slots_decide}
use Rattle.ix_lists.specs.Documents.{places_at}
use Rattle.ix_cursor.specs.declared.reading.SlotFeed.{SlotFeed}
use Rattle.ix_cursor.specs.declared.reading.SectionFeed.{SectionFeed}
use Rattle.ix_cursor.specs.declared.reading.Feeds.{Feeds}
use Rattle.ix_cursor.specs.Unions.{union_at}
use Rattle.ix_cursor.specs.Reading.{documents_of, tokens_read, rows_read, postings_read}
use Rattle.ix_search.specs.declared.wanting.Wanted.{Wanted}
use Rattle.ix_search.specs.Texts.{doc_words, doc_sections, scanned_postings}
use Rattle.ix_search.specs.Parts.{keys_of, patterns_of}
use Rattle.ix_rows.specs.Taking.{SpellRows, Hold}
use Rattle.ix_tokens.specs.Tokens.{KeyRows, HoldsKey}
use Rattle.ix_search.specs.Reading.{NameRows, HoldsTokens, HoldsName, CanBeRead, AreRowsOfPatterns, AreSlotFeeds, AreFeedsOf, AreFeedsOfQuery, section_feed, wanted_slots, section_names}
use Rattle.ix_search.specs.Walking.{if_some, AreOneToOne, AreScores}
use Rattle.ix_search.specs.Finding.{query_score, scored, found, found_at}
use Rattle.ix_search.specs.laws.Words.{number_turned, positions_stand, words_rise}
use Rattle.ix_search.specs.laws.WordKeys.{word_keys}
use Rattle.ix_search.specs.laws.Parts.{SameSlot, SameSection, same_by_parts, parts_so, IsSlotPart, parts_read, AnyName}
use Rattle.ix_search.specs.laws.Wanting.{IsThere, IsAmongNames, parts_there, slots_each, Holds}
use Rattle.ix_search.specs.laws.Silent.{no_postings, silent_score}
use Rattle.ix_search.proofs.MappedEntries.{entries_mapped}
use Rattle.ix_search.proofs.Taken.{slot_positions_read}
use Rattle.ix_search.proofs.Terms.{any_positions, get-word, get-section}

-- ---- what a document has, by rows and by posting lists

module _ {P : Type 0} where
  abbrev places_in : Option (RowDocument P) → List P
  places_in None = []
  places_in (Some x) = x.places

  places_are : (xs : List (RowDocument P)) (d : ℕ) → places_at xs d ≡ places_in (posting document_number d xs)
  places_are [] d = refl
  places_are (x ∷ xs) d = ap (λ b. cond b x.places (places_at xs d)) (number_turned x.document d) ∙ go (d == x.document) (places_are xs d)
    where
      go : (b : Bool) → places_at xs d ≡ places_in (posting document_number d xs) → cond b x.places (places_at xs d) ≡ places_in (cond b (Some x) (posting document_number d xs))
      go true rest = refl
      go false rest = rest

module _ {P : Type 0} (form : PlaceForm P) where
  -- ---- rows whose documents rise

  rise_through : (before low : ℕ) (xs : List (RowDocument P)) (rows : List (List (RowDocument P))) → DocumentsRise form low xs → Rises document_number before (xs ++ posting_list rows)
      → ((b : ℕ) → Rises document_number b (posting_list rows) → DocumentsRise form b (posting_list rows)) → DocumentsRise form before (xs ++ posting_list rows)
  rise_through before low [] rows up rise later = later before rise
  rise_through before low (x ∷ xs) rows up rise later = (rise.0, rise.1, up.2, up.3, up.4, rise_through x.document x.document xs rows up.5 rise.2 later)

  rows_rise : (rows : List (List (RowDocument P))) → EachIs (IsPostingRowOf form) rows → (before : ℕ) → Rises document_number before (posting_list rows) → DocumentsRise form before (posting_list rows)
  rows_rise [] each before rise = tt
  rows_rise (row ∷ rows) each before rise = rise_through before 0 row rows each.0.rise rise (rows_rise rows each.1)

  -- ---- rows as entries hold them

  abbrev row_entries : List (List (RowDocument P)) → List (List ℕ × List ℕ)
  row_entries rows = map (λ row. (document_part (first_document document_number row), posting_bytes_of form row)) rows

  rows_spell : (rows : List (List (RowDocument P))) → EachIs (IsPostingRowOf form) rows → SpellRows form (row_entries rows) rows
  rows_spell [] each = tt
  rows_spell (row ∷ rows) each = (each.0, refl, rows_spell rows each.1)

  rows_some : (rows : List (List (RowDocument P))) → EachIs (IsPostingRowOf form) rows → EachIs (λ (row : List (RowDocument P)). 1 ≤ length row) rows
  rows_some [] each = tt
  rows_some (row ∷ rows) each = (each.0.some, rows_some rows each.1)

  -- what is scanned of a term is its rows
  rows_held : (es : List (List ℕ × List ℕ)) (rows : List (List (RowDocument P))) → es ≡ row_entries rows → EachIs (IsPostingRowOf form) rows → Rises document_number 0 (posting_list rows) → Hold form es rows
  rows_held es rows scanned each rise = record {
    spell = subst (λ (xs : List (List ℕ × List ℕ)). SpellRows form xs rows) (sym scanned) (rows_spell rows each);
    rise = rows_rise rows each 0 rise;
  }

-- ---- what was read of a slot or a section of the query

-- the tokens read of a slot in a stream: those of its keys, and those of its patterns
record TokensOf (words : KeyRows) (s : ℕ) (slot : Slot) (read : List (List (List WordDocument))) : Type 0 where
  by_patterns : List (List (List WordDocument))
  tokens : read ≡ map (words s) (keys_of slot) ++ by_patterns
  are : AreRowsOfPatterns words s (patterns_of slot) by_patterns

module _ (words : KeyRows) (P : ℕ → Slot → Type 0) where
  slot_read : (ws : List Wanted) (fs : List SlotFeed) (s : ℕ) (slot : Slot) → AreSlotFeeds words ws fs → IsThere ws s slot → EachIs (Holds P) ws → TokensOf words s slot (tokens_read fs s slot) × P s slot
  slot_read [] fs s slot are there each = cc
  slot_read (w ∷ ws) [] s slot are there each = absurd are
  slot_read (w ∷ ws) (f ∷ fs) s slot are there each =
      subst (λ (b : Bool). TokensOf words s slot (cond b f.tokens (tokens_read fs s slot)) × P s slot) (sym tests) (go (eqb w.stream s && same_slot w.slot slot) refl there (λ rest. slot_read ws fs s slot are.1 rest each.1))
    where
      tests : (eqb f.stream s && same_slot f.slot slot) ≡ (eqb w.stream s && same_slot w.slot slot)
      tests = ap (λ (n : ℕ). eqb n s && same_slot f.slot slot) are.0.stream ∙ ap (λ (x : Slot). eqb w.stream s && same_slot x slot) are.0.slot

      own : TokensOf words w.stream w.slot f.tokens
      own = record { by_patterns = are.0.by_patterns; tokens = are.0.tokens; are = are.0.are }

      go : (b : Bool) → (eqb w.stream s && same_slot w.slot slot) ≡ b → (b || list_any (λ (v : Wanted). eqb v.stream s && same_slot v.slot slot) ws) ≡ true
          → (IsThere ws s slot → TokensOf words s slot (tokens_read fs s slot) × P s slot)
          → TokensOf words s slot (cond b f.tokens (tokens_read fs s slot)) × P s slot
      go true is there rest =
          let p = and_parts (eqb w.stream s) (same_slot w.slot slot) is in
          let stream = eqb-true w.stream s p.0 in
          let one = (slots_decide w.slot slot).0 p.1 in (
            subst (λ (x : Slot). TokensOf words s x f.tokens) one (subst (λ (n : ℕ). TokensOf words n w.slot f.tokens) stream own),
            subst (P s) one (subst (λ (n : ℕ). P n w.slot) stream each.0),
          )
      go false is there rest = rest there

section_read : (spans : NameRows) (ns : List (List ℕ)) (name : List ℕ) → IsAmongNames ns name → EachIs IsName ns → (rows_read (map (section_feed spans) ns) name ≡ spans name) × IsName name
section_read spans [] name named each = cc
section_read spans (n ∷ ns) name named each = go (bytes_eq n name) refl named (λ rest. section_read spans ns name rest each.1)
  where
    go : (b : Bool) → bytes_eq n name ≡ b → (b || has_key ns name) ≡ true
        → (IsAmongNames ns name → (rows_read (map (section_feed spans) ns) name ≡ spans name) × IsName name)
        → (cond b (spans n) (rows_read (map (section_feed spans) ns) name) ≡ spans name) × IsName name
    go true is named rest = let one = (bytes_eq-Decides n name).0 is in (ap spans one, subst IsName one each.0)
    go false is named rest = rest named

each_so : {X : Type 0} (P Q : X → Type 0) (xs : List X) → ((x : X) → P x → Q x) → EachIs P xs → EachIs Q xs
each_so P Q [] so each = tt
each_so P Q (x ∷ xs) so each = (so x each.0, each_so P Q xs so each.1)

each_all : {X : Type 0} (P : X → Type 0) (xs : List X) → ((x : X) → P x) → EachIs P xs
each_all P [] all = tt
each_all P (x ∷ xs) all = (all x, each_all P xs all)

-- ---- an index that stands

-- what a row has by its text, if it has one
abbrev seen_postings : IndexOf ContextIndex → Option (List ℕ) → DocPostings
seen_postings x None = no_postings
seen_postings x (Some text) = scanned_postings x.prefs text

abbrev seen_positions : IndexOf ContextIndex → Option (List ℕ) → ℕ → List ℕ → List ℕ
seen_positions x None s k = []
seen_positions x (Some text) s k = positions_of s k (document x.prefs (chars text)).words

module _ (m : Content) (t : Table) (x : IndexOf ContextIndex) (i : List ℕ) (only : HasKeysOnly m) (stand : context_stands (at m) i x t) (fit : IsWithinLimits t x) (prefs : IsPrefs x.prefs) where
  abbrev pub words : KeyRows
  words s k = stand.word_rows (word_term s k)

  abbrev pub spans : NameRows
  spans name = stand.span_rows (section_term name)

  key_held : (s : ℕ) (k : List ℕ) → s ≤ stream_limit → IsToken k → HoldsKey m i s k (words s k)
  key_held s k low token =
      let term = word_term s k in
      let is_term : IsWordTerm term = (s, (k, low, token, refl)) in
      let rows = words s k in
      let are = stand.words.are term is_term in
      let scanned : owner_entries kind.Postings i term m ≡ row_entries number_form rows =
      rows_scanned document_number posting_bytes IsWordTerm m kind.Postings i term stand.word_rows only is_term (posting_prefix s k) (rows_some number_form rows are.each)
      (firsts_of document_number posting_bytes IsPostingRow (HasPlaces number_form) (row_laws number_form) rows are.each) are.rise stand.words.spelled in
      record {
        token = token;
        hold = rows_held number_form (owner_entries kind.Postings i term m) rows scanned are.each are.rise;
      }

  name_held : (name : List ℕ) → HoldsName m i spans name
  name_held name is =
      let term = section_term name in
      let is_term : IsSpanTerm term = (name, is, refl) in
      let rows = spans name in
      let are = stand.spans.are term is_term in
      let scanned : owner_entries kind.Spans i term m ≡ row_entries pair_form rows =
      rows_scanned document_number span_row_bytes IsSpanTerm m kind.Spans i term stand.span_rows only is_term (span_prefix name) (rows_some pair_form rows are.each)
      (firsts_of document_number span_row_bytes IsSpanRow (HasPlaces pair_form) (row_laws pair_form) rows are.each) are.rise stand.spans.spelled in
      rows_held pair_form (owner_entries kind.Spans i term m) rows scanned are.each are.rise

  -- THE INDEX HOLDS what queries read
  pub tokens_held : HoldsTokens m i words
  tokens_held s low token is = key_held s token low is

  module _ (q : Reduced) (sound : is_sound q ≡ true) where
    slots_are_read : EachIs (Holds IsSlotPart) (wanted_slots q)
    slots_are_read = slots_each IsSlotPart AnyName q 0 [] (parts_read q sound 0 (omega arith)) tt

    pub slots_can_be_read : EachIs CanBeRead (wanted_slots q)
    slots_can_be_read = each_so (Holds IsSlotPart) CanBeRead (wanted_slots q) (λ w is. record { stream = is.stream; keys = is.keys }) slots_are_read

    pub names_held : EachIs (HoldsName m i spans) (section_names q)
    names_held = each_all (HoldsName m i spans) (section_names q) name_held

    -- what was read is what the content holds
    pub fed_by_content : (feeds : Feeds) → AreFeedsOfQuery m i q feeds → AreFeedsOf words spans q feeds
    fed_by_content feeds read = read words spans tokens_held slots_can_be_read names_held

    -- ---- the score of a document that is a row

    module _ (named : EachIs IsName (section_names q)) (feeds : Feeds) (fed : AreFeedsOf words spans q feeds) (d : ℕ) (r : ℤ) (here : stand.row d ≡ Some r) where
      abbrev seen : Option (List ℕ)
      seen = texts_in t x.column r

      key_places : (s : ℕ) (k : List ℕ) → s ≤ stream_limit → IsToken k → places_at (posting_list (words s k)) d ≡ seen_positions x seen s k
      key_places s k low token =
          places_are (posting_list (words s k)) d
          ∙ ap places_in (stand.words.lists.exact (word_term s k) d r (s, (k, low, token, refl)) here)
          ∙ by_text seen
        where
          had : (ps : List ℕ) → places_in (option_map (documents.document_with d) (any_positions ps)) ≡ ps
          had [] = refl
          had (p ∷ ps) = refl

          by_text : (o : Option (List ℕ)) → places_in (option_map (documents.document_with d) (get (documents.text_postings x.prefs o).words (word_term s k))) ≡ seen_positions x o s k
          by_text None = ap (λ (o : Option (List ℕ)). places_in (option_map (documents.document_with d) o)) (get-empty (slice_cmp nat_cmp) (word_term s k))
          by_text (Some text) =
              ap (λ (o : Option (List ℕ)). places_in (option_map (documents.document_with d) o)) (get-word s low k token.some x.prefs text)
              ∙ had (positions_of s k (document x.prefs (chars text)).words)

      abbrev read : DocPostings
      read = postings_read feeds d

      slot_agrees : (s : ℕ) (slot : Slot) → IsSlotPart s slot → TokensOf words s slot (tokens_read feeds.slots s slot) → SameSlot read (seen_postings x seen) s slot
      slot_agrees s Any is read_so = let wrong = is.some in cc
      slot_agrees s (Takes keys patterns) is read_so = ap (λ (tokens : List (List (List WordDocument))). union_at (documents_of tokens) d) read_so.tokens ∙ by_text seen refl
        where
          rise : (token : List ℕ) → IsToken token → DocumentsRise number_form 0 (posting_list (words s token))
          rise token of = (key_held s token is.stream of).hold.rise

          places : (o : Option (List ℕ)) → seen ≡ o → (token : List ℕ) (n : ℕ) → IsToken token → has_number (places_at (posting_list (words s token)) d) n ≡ has_number (seen_positions x o s token) n
          places o here token n of = ap (λ (ps : List ℕ). has_number ps n) (key_places s token is.stream of ∙ ap (λ (o : Option (List ℕ)). seen_positions x o s token) here)

          by_text : (o : Option (List ℕ)) → seen ≡ o → union_at (documents_of (map (words s) keys ++ read_so.by_patterns)) d ≡ (seen_postings x o).positions s (Takes keys patterns)
          by_text None here = slot_positions_read words s d [] tt tt rise (places None here) keys patterns is.keys read_so.by_patterns read_so.are
          by_text (Some text) here =
              slot_positions_read words s d (doc_words (document x.prefs (chars text)).words) (words_rise x.prefs text) (word_keys x.prefs text (fit.utf8 r text here)) rise
              (λ token n of. places (Some text) here token n of ∙ positions_stand s token (document x.prefs (chars text)).words n) keys patterns is.keys read_so.by_patterns read_so.are

      slot_same : (s : ℕ) (slot : Slot) → IsThere (wanted_slots q) s slot → SameSlot read (seen_postings x seen) s slot
      slot_same s slot there =
          let p = slot_read words IsSlotPart (wanted_slots q) feeds.slots s slot fed.slots there slots_are_read in
          slot_agrees s slot p.1 p.0

      section_same : (name : List ℕ) → IsAmongNames (section_names q) name → SameSection read (seen_postings x seen) name
      section_same name there =
          let p = section_read spans (section_names q) name there named in
          ap (λ (rows : List (List SpanDocument)). places_at (posting_list rows) d) (ap (λ (fs : List SectionFeed). rows_read fs name) fed.sections ∙ p.0)
          ∙ places_are (posting_list (spans name)) d
          ∙ ap places_in (stand.spans.lists.exact (section_term name) d r (name, p.1, refl) here)
          ∙ by_text seen refl
        where
          had : (ps : List Pair) → places_in (option_map (documents.document_with d) (if_any ps)) ≡ ps
          had [] = refl
          had (p ∷ ps) = refl

          by_text : (o : Option (List ℕ)) → seen ≡ o → places_in (option_map (documents.document_with d) (get (documents.text_postings x.prefs o).spans (section_term name))) ≡ (seen_postings x o).spans name
          by_text None is = ap (λ (o : Option (List Pair)). places_in (option_map (documents.document_with d) o)) (get-empty (slice_cmp nat_cmp) (section_term name))
          by_text (Some text) is =
              ap (λ (o : Option (List Pair)). places_in (option_map (documents.document_with d) o)) (get-section name x.prefs text prefs (fit.texts r text is))
              ∙ had (section_pairs name (doc_sections (document x.prefs (chars text)).sections))

      -- THE SCORE of what was read is that of the text
      read_score : score q read 0 1 last_position ≡ score q (seen_postings x seen) 0 1 last_position
      read_score = same_by_parts read (seen_postings x seen) q 0
          (parts_so (IsThere (wanted_slots q)) (SameSlot read (seen_postings x seen)) slot_same (IsAmongNames (section_names q)) (SameSection read (seen_postings x seen)) section_same q 0 (parts_there q 0 [] [])) 1 last_position

    -- ---- the rows of documents

    row_fits : (d : ℕ) (r : ℤ) → stand.row d ≡ Some r → IsRow r
    row_fits d r is = fit.rows r (there (get x.body.marks r) (sym (stand.documents.numbers.marked r) ∙ ap is_some (stand.documents.numbers.back r d is)))
      where
        there : (o : Option (Mark (Unit {0}))) → is_settled o ≡ true → is_some o ≡ true
        there None h = cc
        there (Some y) h = refl

    document_found : (d : ℕ) → IsDocument d → row_at_document (at m) i d ≡ stand.row d
    document_found d document = ap (option_and_then row_of) (stand.documents.rows d document) ∙ go (stand.row d) refl
      where
        go : (o : Option ℤ) → stand.row d ≡ o → option_and_then row_of (option_map row_bytes o) ≡ o
        go None is = refl
        go (Some r) is = row_of-row_part r (row_fits d r is)

    pub one_to_one : AreOneToOne (row_at_document (at m) i)
    one_to_one d e r low high is also =
        let one : Some d ≡ Some e =
        sym (stand.documents.numbers.back r d (sym (document_found d low) ∙ is)) ∙ stand.documents.numbers.back r e (sym (document_found e high) ∙ also) in
        cc

    -- ---- the hits

    -- the score that a row has by its mark
    abbrev scored_as : ℤ → Mark (Unit {0}) → Option ℕ
    scored_as r Pending = None
    scored_as r (Settled _) = option_and_then (λ text. if_some (query_score x.prefs q text)) (texts_in t x.column r)

    scored_found : (r : ℤ) (mark : Mark (Unit {0})) → option_map {U = ℤ × ℕ} (λ s. (r, s)) (scored_as r mark) ≡ found_at t x q 0 r mark
    scored_found r Pending = refl
    scored_found r (Settled _) = go (texts_in t x.column r)
      where
        above : (b : Bool) (s : ℕ) → option_map {U = ℤ × ℕ} (λ s. (r, s)) (cond b (Some s) None) ≡ cond b (Some (r, s)) None
        above true s = refl
        above false s = refl

        go : (o : Option (List ℕ)) → option_map {U = ℤ × ℕ} (λ s. (r, s)) (option_and_then (λ text. if_some (query_score x.prefs q text)) o) ≡ scored x.prefs q 0 r o
        go None = refl
        go (Some text) = above (nat_lt 0 (query_score x.prefs q text)) (query_score x.prefs q text)

    module _ (named : EachIs IsName (section_names q)) (feeds : Feeds) (fed : AreFeedsOf words spans q feeds) (document_score : ℕ → ℕ) (scores : Rows ℕ)
        (built : (d : ℕ) → d < 2 ^ 32 → document_score d ≡ score q (postings_read feeds d) 0 1 last_position)
        (are : AreScores (row_at_document (at m) i) document_score scores) where
      right_scores : (r : ℤ) → get scores r ≡ option_and_then (scored_as r) (get x.body.marks r)
      right_scores r = by_document (stand.document r) refl
        where
          unmarked : (o : Option (Mark (Unit {0}))) → is_settled o ≡ false → None ≡ option_and_then (scored_as r) o
          unmarked None h = refl
          unmarked (Some Pending) h = refl
          unmarked (Some (Settled _)) h = cc

          by_text : (o : Option (List ℕ)) → if_some (score q (seen_postings x o) 0 1 last_position) ≡ option_and_then (λ text. if_some (query_score x.prefs q text)) o
          by_text None = ap if_some (silent_score q sound 0 1 last_position)
          by_text (Some text) = refl

          marked : (o : Option (Mark (Unit {0}))) → is_settled o ≡ true → option_and_then (λ text. if_some (query_score x.prefs q text)) (texts_in t x.column r) ≡ option_and_then (scored_as r) o
          marked None h = cc
          marked (Some Pending) h = cc
          marked (Some (Settled _)) h = refl

          by_document : (o : Option ℕ) → stand.document r ≡ o → get scores r ≡ option_and_then (scored_as r) (get x.body.marks r)
          by_document None is =
              are.others r (λ d low at.
              let back = stand.documents.numbers.back r d (sym (document_found d low) ∙ at) in
              let wrong : None ≡ Some d = sym is ∙ back in
              cc)
              ∙ unmarked (get x.body.marks r) (sym (stand.documents.numbers.marked r) ∙ ap is_some is)
          by_document (Some d) is =
              let row = stand.documents.numbers.there r d is in
              let within = stand.documents.numbers.within r d is in
              let numbers = fit.numbers in
              let low : d < 2 ^ 32 = omega (arith, within.1, numbers) in
              are.rows d r low (document_found d low ∙ row)
              ∙ ap if_some (built d low ∙ read_score named feeds fed d r row)
              ∙ by_text (texts_in t x.column r)
              ∙ marked (get x.body.marks r) (sym (stand.documents.numbers.marked r) ∙ ap is_some is)

      -- THE HITS are what a scan of the rows finds
      pub finds : entries scores ≡ found t x q 0
      finds =
          entries_mapped int_cmp int_cmp_total exact_signed scored_as scores x.body.marks right_scores
          ∙ (λ j. filter_map (λ e. scored_found e.0 e.1 j) (entries x.body.marks))
