-- The entries of a text are its postings.
use Rattle.std.proofs.Common.{ℕ, ◌≡◌, ◌+◌, ◌≤◌, ◌^◌, ◌&&◌, ◌||◌, eqb, bytes_eq, Bool, true, false, cond, List, [], ◌∷◌, ◌++◌, length, map, Option, Some, None, refl, sym, ap, ◌∙◌, arith, eqb-true, eq-eqb}
use Rattle.std.specs.List.{list_any, flat_map, filter}
use Rattle.std.specs.Str.{chars}
use Rattle.std.specs.Ordering.{nat_cmp, eq_by_cmp}
use Rattle.std.specs.Cmp.Lexicographic.{slice_cmp}
use Rattle.std.specs.FinMap as fin
use Rattle.std.specs.FinMap.{get, find, get-entries}
use Rattle.std.proofs.lemmas.Bool.{and_parts, and_from}
use Rattle.std.proofs.lemmas.Cmp.{nat_list_cmp_total}
use Rattle.std.proofs.lemmas.Map.Text.{is_eq-slice_cmp}
use Rattle.std.proofs.lemmas.Slice.Eq.{bytes_eq-Decides}
use Rattle.ct_base.specs.Limits.{stream_limit}
use Rattle.ct_base.specs.declared.numbers.Pair.{Pair}
use Rattle.ct_base.specs.laws.Bools.{same_tests}
use Rattle.ct_base.specs.laws.Lists.{cons_parts}
use Rattle.ct_keep.specs.laws.RisingKeys.{below, rises, entries_rise}
use Rattle.ct_keep.specs.laws.FoundKeys.{none_below, below_tied, AllKeys, all_keys}
use Rattle.ix_spans.specs.Occurrences.{has_number}
use Rattle.tx_settings.specs.declared.preferences.Prefs.{Prefs}
use Rattle.tx_settings.specs.PrefsBytes.{IsPrefs}
use Rattle.tx_document.specs.declared.views.WordView.{WordView}
use Rattle.tx_document.specs.declared.views.SectionView.{SectionView}
use Rattle.tx_document.specs.Documents.{document, pair}
use Rattle.tx_document.specs.Places.{had}
use Rattle.tx_document.specs.Entries.{DocumentPlace, places_of, places_under, place_map, positions_of, section_stream, section_place, word_places, entry_of}
use Rattle.tx_document.specs.Promises.{if_any, as_pairs}
use Rattle.tx_document.specs.laws.Found.{get-place_map, places_are_positions, places_under-append}
use Rattle.tx_document.specs.laws.Ordered.{no_word, the_streams}
use Rattle.q_tree.specs.Documents.{DocEntry, DocSection, firsts, has_position, section_pairs}
use Rattle.ix_context.specs.laws.Postings.{Named}
use Rattle.ix_search.specs.Texts.{doc_section, doc_sections}
use Rattle.ix_cursor.specs.Alone.{doc_entry}
use Rattle.ix_search.specs.Promises.{EntriesArePostings}
use Rattle.ix_search.specs.laws.Words.{bytes_turned, positions_stand}

abbrev pub named_order : List ℕ → List ℕ → Rattle.std.specs.declared.cmp.Ordering.Ordering
named_order = slice_cmp nat_cmp

abbrev entries_named : List Named → List DocEntry
entries_named ns = map doc_entry (map entry_of ns)

abbrev IsSome_ : List ℕ → Type 0
IsSome_ name = 1 ≤ length name

-- ---- one name among names that rise

-- the entry is the one of this stream and token
abbrev is_named : ℕ → List ℕ → DocEntry → Bool
is_named s t e = eqb e.stream s && bytes_eq e.token t

pub named_so : (s : ℕ) (t : List ℕ) (stream : ℕ) (token : List ℕ) → (eqb stream s && bytes_eq token t) ≡ eq_by_cmp named_order (s ∷ t) (stream ∷ token)
named_so s t stream token =
    same_tests (eqb stream s && bytes_eq token t) (bytes_eq (s ∷ t) (stream ∷ token))
    (λ h. let p = and_parts (eqb stream s) (bytes_eq token t) h in
    (bytes_eq-Decides (s ∷ t) (stream ∷ token)).1 (ap (λ (n : ℕ). n ∷ t) (sym (eqb-true stream s p.0)) ∙ ap (λ (l : List ℕ). stream ∷ l) (sym ((bytes_eq-Decides token t).0 p.1))))
    (λ h. let p = cons_parts s stream t token ((bytes_eq-Decides (s ∷ t) (stream ∷ token)).0 h) in
    and_from (eqb stream s) (bytes_eq token t) (eq-eqb stream s (sym p.0)) ((bytes_eq-Decides token t).1 (sym p.1)))
    ∙ sym (is_eq-slice_cmp (s ∷ t) (stream ∷ token))

-- what is behind a name that ties isn't found
behind : (name : List ℕ) (n : Named) (ns : List Named) → eq_by_cmp named_order name n.0 ≡ true → below named_order n.0 ns ≡ true → find named_order name ns ≡ None
behind name n ns tie low = none_below named_order name ns (below_tied named_order nat_list_cmp_total name n.0 ns tie low)

-- a test of the places that are found
abbrev at_found : (List Pair → Bool) → Option (List Pair) → Bool
at_found test None = false
at_found test (Some ps) = test ps

module _ (s : ℕ) (t : List ℕ) where
  any_found : (n : ℕ) (ns : List Named) → AllKeys named_order IsSome_ ns → rises named_order ns ≡ true → list_any (has_position s t n) (entries_named ns) ≡ at_found (λ ps. has_number (firsts ps) n) (find named_order (s ∷ t) ns)
  any_found n [] some up = refl
  any_found n (([], places) ∷ ns) some up = let none = some.0 in absurd (omega (arith, none))
  any_found n ((stream ∷ token, places) ∷ ns) some up =
      let b = and_parts (below named_order (stream ∷ token) ns) (rises named_order ns) up in
      ap (λ (x : Bool). (x && has_number (firsts places) n) || list_any (has_position s t n) (entries_named ns)) (named_so s t stream token)
      ∙ ap (λ (x : Bool). (eq_by_cmp named_order (s ∷ t) (stream ∷ token) && has_number (firsts places) n) || x) (any_found n ns some.1 b.1)
      ∙ go (eq_by_cmp named_order (s ∷ t) (stream ∷ token)) refl b.0
    where
      or_false : (x : Bool) → (x || false) ≡ x
      or_false true = refl
      or_false false = refl

      go : (b : Bool) → eq_by_cmp named_order (s ∷ t) (stream ∷ token) ≡ b → below named_order (stream ∷ token) ns ≡ true
          → ((b && has_number (firsts places) n) || at_found (λ ps. has_number (firsts ps) n) (find named_order (s ∷ t) ns)) ≡ at_found (λ ps. has_number (firsts ps) n) (cond b (Some places) (find named_order (s ∷ t) ns))
      go true tie low = ap (λ (o : Option (List Pair)). has_number (firsts places) n || at_found (λ ps. has_number (firsts ps) n) o) (behind (s ∷ t) (stream ∷ token, places) ns tie low) ∙ or_false (has_number (firsts places) n)
      go false tie low = refl

  pairs_found : (ns : List Named) → AllKeys named_order IsSome_ ns → rises named_order ns ≡ true → flat_map (λ (e : DocEntry). e.places) (filter (is_named s t) (entries_named ns)) ≡ had (find named_order (s ∷ t) ns)
  pairs_found [] some up = refl
  pairs_found (([], places) ∷ ns) some up = let none = some.0 in absurd (omega (arith, none))
  pairs_found ((stream ∷ token, places) ∷ ns) some up =
      let b = and_parts (below named_order (stream ∷ token) ns) (rises named_order ns) up in
      let rest = filter (is_named s t) (entries_named ns) in
      ap (λ (x : Bool). flat_map (λ (e : DocEntry). e.places) (cond x (record { stream = stream; token = token; places = places } ∷ rest) rest)) (named_so s t stream token)
      ∙ go (eq_by_cmp named_order (s ∷ t) (stream ∷ token)) refl b.0 (pairs_found ns some.1 b.1)
    where
      none_behind : (ps : List Pair) → ps ++ [] ≡ ps
      none_behind [] = refl
      none_behind (p ∷ ps) = ap (λ (l : List Pair). p ∷ l) (none_behind ps)

      go : (b : Bool) → eq_by_cmp named_order (s ∷ t) (stream ∷ token) ≡ b → below named_order (stream ∷ token) ns ≡ true
          → flat_map (λ (e : DocEntry). e.places) (filter (is_named s t) (entries_named ns)) ≡ had (find named_order (s ∷ t) ns)
          → flat_map (λ (e : DocEntry). e.places) (cond b (record { stream = stream; token = token; places = places } ∷ filter (is_named s t) (entries_named ns)) (filter (is_named s t) (entries_named ns)))
          ≡ had (cond b (Some places) (find named_order (s ∷ t) ns))
      go true tie low rest = ap (λ (l : List Pair). places ++ l) (rest ∙ ap had (behind (s ∷ t) (stream ∷ token, places) ns tie low)) ∙ none_behind places
      go false tie low rest = rest

-- ---- no name is empty

nothing_in : (name key : List ℕ) (q : Pair) (ss : List ℕ) → name ≡ [] → places_under name (map {B = DocumentPlace} (λ s. (s ∷ key, q)) ss) ≡ []
nothing_in [] key q [] is = refl
nothing_in [] key q (s ∷ ss) is = nothing_in [] key q ss is
nothing_in (n ∷ name) key q ss is = cc

nothing_at : (position : ℕ) (key : Option (List ℕ)) (streams : List ℕ) (start end : ℕ) → places_under [] (word_places (record { position = position; key = key; streams = streams; start = start; end = end })) ≡ []
nothing_at position None streams start end = refl
nothing_at position (Some k) streams start end = nothing_in [] k (pair position position) streams refl

nothing_of_words : (ws : List WordView) → places_under [] (flat_map word_places ws) ≡ []
nothing_of_words [] = refl
nothing_of_words (w ∷ ws) =
    places_under-append [] (word_places w) (flat_map word_places ws)
    ∙ ap (λ (l : List Pair). l ++ places_under [] (flat_map word_places ws)) (nothing_at w.position w.key w.streams w.start w.end)
    ∙ nothing_of_words ws

nothing_of_sections : (ss : List SectionView) → places_under [] (map section_place ss) ≡ []
nothing_of_sections [] = refl
nothing_of_sections (s ∷ ss) = nothing_of_sections ss

nothing_named : (ws : List WordView) (ss : List SectionView) → places_under [] (flat_map word_places ws ++ map section_place ss) ≡ []
nothing_named ws ss = places_under-append [] (flat_map word_places ws) (map section_place ss) ∙ ap (λ (l : List Pair). l ++ places_under [] (map section_place ss)) (nothing_of_words ws) ∙ nothing_of_sections ss

-- ---- the law

firsts_same : (n : ℕ) (ps : List ℕ) → at_found (λ qs. has_number (firsts qs) n) (if_any (as_pairs ps)) ≡ has_number ps n
firsts_same n [] = refl
firsts_same n (p ∷ ps) = ap (λ (b : Bool). eqb p n || b) (go ps)
  where
    go : (ps : List ℕ) → has_number (firsts (as_pairs ps)) n ≡ has_number ps n
    go [] = refl
    go (q ∷ qs) = ap (λ (b : Bool). eqb q n || b) (go qs)

pub sections_under : (name : List ℕ) (ss : List SectionView) → places_under (section_stream ∷ name) (map section_place ss) ≡ section_pairs name (doc_sections ss)
sections_under name [] = refl
sections_under name (s ∷ ss) =
    ap (λ (b : Bool). cond b (pair s.first s.last ∷ places_under (section_stream ∷ name) (map section_place ss)) (places_under (section_stream ∷ name) (map section_place ss))) (bytes_turned name s.section)
    ∙ go (bytes_eq s.section name) (sections_under name ss)
  where
    later : List DocSection
    later = filter (λ (d : DocSection). bytes_eq d.name name) (doc_sections ss)

    go : (b : Bool) → places_under (section_stream ∷ name) (map section_place ss) ≡ section_pairs name (doc_sections ss)
        → cond b (pair s.first s.last ∷ places_under (section_stream ∷ name) (map section_place ss)) (places_under (section_stream ∷ name) (map section_place ss))
        ≡ map (λ (d : DocSection). d.pair) (cond b (doc_section s ∷ later) later)
    go true rest = ap (λ (l : List Pair). pair s.first s.last ∷ l) rest
    go false rest = rest

module _ (p : Prefs) (text : List ℕ) where
  abbrev places : List DocumentPlace
  places = places_of (document p (chars text))

  abbrev names : List Named
  names = fin.entries (place_map places)

  some_names : AllKeys named_order IsSome_ names
  some_names = all_keys named_order nat_list_cmp_total IsSome_ (place_map places) (λ name ps found. some name ps found (sym (get-place_map places name) ∙ found))
    where
      some : (name : List ℕ) (ps : List Pair) → get (place_map places) name ≡ Some ps → if_any (places_under name places) ≡ Some ps → 1 ≤ length name
      some [] ps found is =
          let none : None ≡ Some ps = ap if_any (sym (nothing_named (document p (chars text)).words (document p (chars text)).sections)) ∙ is in
          cc
      some (n ∷ name) ps found is = omega arith

  found_under : (name : List ℕ) → find named_order name names ≡ if_any (places_under name places)
  found_under name = sym (get-entries (place_map places) name) ∙ get-place_map places name

  -- the pairs of a section, among all places
  pub section_places : IsPrefs p → length text ≤ 2 ^ 24 → (name : List ℕ) → places_under (section_stream ∷ name) places ≡ section_pairs name (doc_sections (document p (chars text)).sections)
  section_places is short name =
      let d = document p (chars text) in
      places_under-append (section_stream ∷ name) (flat_map word_places d.words) (map section_place d.sections)
      ∙ ap (λ (l : List Pair). l ++ places_under (section_stream ∷ name) (map section_place d.sections)) (no_word name (1 + stream_limit) d.words (omega arith) (the_streams p text is short))
      ∙ sections_under name d.sections

  had_any : (ps : List Pair) → had (if_any ps) ≡ ps
  had_any [] = refl
  had_any (q ∷ ps) = refl

pub entries_are_postings : EntriesArePostings
entries_are_postings p text is short =
    let d = document p (chars text) in
    record {
      positions = λ s t n low.
          any_found s t n (names p text) (some_names p text) (entries_rise named_order (place_map (places_of d)))
          ∙ ap (at_found (λ ps. has_number (firsts ps) n)) (found_under p text (s ∷ t) ∙ ap if_any (places_are_positions p text s t low))
          ∙ firsts_same n (positions_of s t d.words)
          ∙ positions_stand s t d.words n;
      pairs = λ name.
          pairs_found section_stream name (names p text) (some_names p text) (entries_rise named_order (place_map (places_of d)))
          ∙ ap had (found_under p text (section_stream ∷ name))
          ∙ had_any p text (places_under (section_stream ∷ name) (places_of d))
          ∙ section_places p text is short name;
    }
