-- What stands anywhere in a document is a key in a stream, or a section; and its places rise.
use Rattle.std.proofs.Common.{◌≡◌, ℕ, ◌+◌, ◌^◌, ◌<◌, ◌≤◌, ◌⊎◌, inl, inr, Bool, true, false, cond, List, [], ◌∷◌, ◌++◌, length, map, Option, Some, None, refl, sym, ap, subst, ◌∙◌, arith, leb-true}
use Rattle.std.specs.Prelude.{◌&&◌, ◌||◌, ◌==◌, nat_le, not, bytes_eq, flat_map}
use Rattle.std.specs.List.{AllByRecursion}
use Rattle.std.specs.Str.{chars, encode_utf8_all}
use Rattle.std.specs.Ordering.{nat_cmp, ordering_then}
use Rattle.std.specs.declared.cmp.Ordering.TheVariants.{Less, Equal}
use Rattle.std.specs.Cmp.Lexicographic.{slice_cmp}
use Rattle.std.specs.FinMap.{get}
use Rattle.std.proofs.lemmas.Bool.{and_parts, eqb-true}
use Rattle.std.proofs.lemmas.Cmp.{nat_list_cmp_total, tied_itself}
use Rattle.std.proofs.lemmas.List.{length-map}
use Rattle.std.proofs.lemmas.List.Elements.{recursion_from_All}
use Rattle.std.proofs.lemmas.Slice.Eq.{bytes_eq-Decides}
use Rattle.ct_base.specs.declared.numbers.Pair.{Pair}
use Rattle.ct_base.specs.Limits.{token_limit, stream_limit}
use Rattle.ct_base.specs.Names.{IsName}
use Rattle.ct_base.specs.laws.Orders.{less_by_parts, lt_from_less, eq_from_equal}
use Rattle.tx_chars.specs.laws.KeyLimit.{limit as key_limit}
use Rattle.tx_lexer.specs.declared.tokens.Token.{Token}
use Rattle.tx_lexer.specs.Tokens.{tokens, rules}
use Rattle.tx_lexer.specs.laws.TokenKeys.{some_keys, limit}
use Rattle.tx_stop.specs.StopKeys.{is_stop}
use Rattle.tx_tags.specs.Groups.{SectionGroup, are_sections, field_count, is_empty, is_group, section_limit, zone_count}
use Rattle.tx_tags.specs.Tags.{tags_in, blanked}
use Rattle.tx_settings.specs.declared.preferences.Prefs.{Prefs}
use Rattle.tx_document.specs.declared.views.WordView.{WordView}
use Rattle.tx_document.specs.declared.views.SectionView.{SectionView}
use Rattle.tx_document.specs.Documents.{Extent, extents, pair, words_from, word_of, instances, rising, section_cmp}
use Rattle.tx_document.specs.Entries.{DocumentPlace, places_under, place_map, positions_of, section_stream, section_place, word_places, is_at}
use Rattle.tx_settings.specs.PrefsBytes.{IsPrefs}
use Rattle.tx_document.specs.Promises.{InstancesRise, IsInstance, IsKey, if_any, as_pairs, PositionsRise, Follows, PairsRise, IsWordEntry, IsSectionEntry, EntriesAreOrdered}
use Rattle.tx_document.specs.Fields.{fields}
use Rattle.tx_document.specs.laws.Streams.{Between, between_wider, fields_of_sections}
use Rattle.tx_document.specs.laws.Found.{Streams, words_streams, key_places, get-place_map, places_under-append}
use Rattle.tx_document.specs.laws.Counts.{few_tokens, few_instances}
use Rattle.tx_document.specs.laws.Instances.{rising_rises, all_rising, instances_are, extents_named}

-- ---- names of words and of sections

pub record IsWordName (name : List ℕ) : Type 0 where
  pub stream : ℕ
  pub token : List ℕ
  pub named : name ≡ stream ∷ token
  pub main_or_field : stream ≤ stream_limit
  pub some : 1 ≤ length token
  pub short : length token ≤ token_limit

pub record IsSectionName (name : List ℕ) : Type 0 where
  pub section : List ℕ
  pub named : name ≡ section_stream ∷ section
  pub is_name : IsName section

abbrev IsAnyName : List ℕ → Type 0
IsAnyName name = IsWordName name ⊎ IsSectionName name

abbrev HasName : DocumentPlace → Type 0
HasName x = IsAnyName x.0

places_append : (P : DocumentPlace → Type 0) (xs ys : List DocumentPlace) → AllByRecursion P xs → AllByRecursion P ys → AllByRecursion P (xs ++ ys)
places_append P [] ys all more = more
places_append P (x ∷ xs) ys all more = (all.0, places_append P xs ys all.1 more)

streams_named : (k : List ℕ) (q : Pair) (least : ℕ) (ns : List ℕ) → (1 ≤ length k) × (length k ≤ token_limit) → Between least (1 + stream_limit) ns → AllByRecursion HasName (map {B = DocumentPlace} (λ s. (s ∷ k, q)) ns)
streams_named k q least [] key b = tt
streams_named k q least (n ∷ ns) key b =
    (inl (record { stream = n; token = k; named = refl; main_or_field = omega (arith, b.1); some = key.0; short = key.1 }), streams_named k q (n + 1) ns key b.2)

abbrev word_with : ℕ → Option (List ℕ) → List ℕ → ℕ → ℕ → WordView
word_with position key streams start end = record { position = position; key = key; streams = streams; start = start; end = end }

word_named : (position : ℕ) (key : Option (List ℕ)) (streams : List ℕ) (start end : ℕ) → IsKey key → Between 0 (1 + stream_limit) streams → AllByRecursion HasName (word_places (word_with position key streams start end))
word_named position None streams start end key b = tt
word_named position (Some k) streams start end key b = streams_named k (pair position position) 0 streams key b

words_named : (ws : List WordView) → AllByRecursion (λ (w : WordView). IsKey w.key) ws → AllByRecursion (Streams (1 + stream_limit)) ws → AllByRecursion HasName (flat_map word_places ws)
words_named [] keys streams = tt
words_named (w ∷ ws) keys streams = places_append HasName (word_places w) (flat_map word_places ws) (word_named w.position w.key w.streams w.start w.end keys.0 streams.0) (words_named ws keys.1 streams.1)

sections_named : (count : ℕ) (is : List SectionView) → AllByRecursion (IsInstance count) is → AllByRecursion HasName (map section_place is)
sections_named count [] all = tt
sections_named count (i ∷ is) all = (inr (record { section = i.section; named = refl; is_name = all.0.named }), sections_named count is all.1)

-- a name under which something stands is that of a place
found_named : (name : List ℕ) (xs : List DocumentPlace) → AllByRecursion HasName xs → (p : Pair) (ps : List Pair) → places_under name xs ≡ p ∷ ps → IsAnyName name
found_named name [] all p ps is = cc
found_named name (x ∷ xs) all p ps is = go (bytes_eq name x.0) refl is (found_named name xs all.1 p ps)
  where
    go : (b : Bool) → bytes_eq name x.0 ≡ b → cond b (x.1 ∷ places_under name xs) (places_under name xs) ≡ p ∷ ps → (places_under name xs ≡ p ∷ ps → IsAnyName name) → IsAnyName name
    go true same is rest = subst IsAnyName (sym ((bytes_eq-Decides name x.0).0 same)) all.0
    go false same is rest = rest is

-- ---- keys of words

pub words_keys : (stop : List (List ℕ)) (es : List Extent) (n : ℕ) (ts : List Token) → AllByRecursion (λ (t : Token). 0 < length t.key) ts → AllByRecursion (λ (t : Token). length t.key ≤ token_limit) ts
    → AllByRecursion (λ (w : WordView). IsKey w.key) (words_from stop es n ts)
words_keys stop es n [] some short = tt
words_keys stop es n (t ∷ ts) some short = (go (is_stop stop t.key) some.0 short.0, words_keys stop es (n + 1) ts some.1 short.1)
  where
    go : (b : Bool) → 0 < length t.key → length t.key ≤ token_limit → IsKey (cond b None (Some t.key))
    go true more few = tt
    go false more few = (omega arith, few)

-- ---- positions and pairs

positions_rise : (stream : ℕ) (key : List ℕ) (stop : List (List ℕ)) (es : List Extent) (before n : ℕ) (ts : List Token) → before < n → n + length ts ≤ 2 ^ 32
    → PositionsRise before (positions_of stream key (words_from stop es n ts))
positions_rise stream key stop es before n [] less fits = tt
positions_rise stream key stop es before n (t ∷ ts) less fits =
    let here : n < 2 ^ 32 = omega arith in
    go (is_at stream key (word_of stop es n t)) here (positions_rise stream key stop es n (n + 1) ts (omega arith) (omega arith)) (positions_rise stream key stop es before (n + 1) ts (omega arith) (omega arith))
  where
    go : (b : Bool) → n < 2 ^ 32 → PositionsRise n (positions_of stream key (words_from stop es (n + 1) ts)) → PositionsRise before (positions_of stream key (words_from stop es (n + 1) ts))
        → PositionsRise before (cond b (n ∷ positions_of stream key (words_from stop es (n + 1) ts)) (positions_of stream key (words_from stop es (n + 1) ts)))
    go true here taken passed = (less, here, taken)
    go false here taken passed = passed

-- of one section, what is less stands before
follows : (a b : SectionView) → a.section ≡ b.section → section_cmp a b ≡ Less → Follows (pair a.first a.last) (pair b.first b.last)
follows a b same less = go (less_by_parts (slice_cmp nat_cmp a.section b.section) _ less)
  where
    tie : slice_cmp nat_cmp a.section b.section ≡ Equal
    tie = ap (λ (s : List ℕ). slice_cmp nat_cmp a.section s) (sym same) ∙ tied_itself nat_list_cmp_total a.section

    places : (nat_cmp a.first b.first ≡ Less) ⊎ ((nat_cmp a.first b.first ≡ Equal) × (nat_cmp a.last b.last ≡ Less)) → Follows (pair a.first a.last) (pair b.first b.last)
    places (inl l) = inl (lt_from_less _ _ l)
    places (inr e) = inr (eq_from_equal _ _ e.0, lt_from_less _ _ e.1)

    go : (slice_cmp nat_cmp a.section b.section ≡ Less) ⊎ ((slice_cmp nat_cmp a.section b.section ≡ Equal) × (ordering_then (nat_cmp a.first b.first) (nat_cmp a.last b.last) ≡ Less)) → Follows (pair a.first a.last) (pair b.first b.last)
    go (inl l) = let no : Less ≡ Equal = sym l ∙ tie in cc
    go (inr e) = places (less_by_parts (nat_cmp a.first b.first) (nat_cmp a.last b.last) e.1)

abbrev FollowsAll : List ℕ → Pair → List SectionView → Type 0
FollowsAll section before is = AllByRecursion (λ (j : SectionView). section ≡ j.section → Follows before (pair j.first j.last)) is

later_follow : (section : List ℕ) (i : SectionView) (is : List SectionView) → section ≡ i.section → AllByRecursion (λ (j : SectionView). section_cmp i j ≡ Less) is → FollowsAll section (pair i.first i.last) is
later_follow section i [] same all = tt
later_follow section i (j ∷ js) same all = (λ is. follows i j (sym same ∙ is) all.0, later_follow section i js same all.1)

pairs_rise : (section : List ℕ) (before : Pair) (count : ℕ) (is : List SectionView) → InstancesRise is → AllByRecursion (IsInstance count) is → count < 2 ^ 32 → FollowsAll section before is
    → PairsRise before (places_under (section_stream ∷ section) (map section_place is))
pairs_rise section before count [] rise all fits after = tt
pairs_rise section before count (i ∷ is) rise all fits after =
    go (bytes_eq section i.section) refl (λ same. pairs_rise section (pair i.first i.last) count is rise.1 all.1 fits (later_follow section i is same rise.0)) (pairs_rise section before count is rise.1 all.1 fits after.1)
  where
    go : (b : Bool) → bytes_eq section i.section ≡ b → (section ≡ i.section → PairsRise (pair i.first i.last) (places_under (section_stream ∷ section) (map section_place is)))
        → PairsRise before (places_under (section_stream ∷ section) (map section_place is))
        → PairsRise before (cond b (pair i.first i.last ∷ places_under (section_stream ∷ section) (map section_place is)) (places_under (section_stream ∷ section) (map section_place is)))
    go true is next passed =
        let same = (bytes_eq-Decides section i.section).0 is in
        let within = all.0.within in
        (after.0 same, all.0.some, all.0.forward, omega (arith, within, fits), next same)
    go false is next passed = passed

follow_none : (section : List ℕ) (count : ℕ) (is : List SectionView) → AllByRecursion (IsInstance count) is → FollowsAll section (pair 0 0) is
follow_none section count [] all = tt
follow_none section count (i ∷ is) all = let some = all.0.some in (λ same. inl (omega (arith, some)), follow_none section count is all.1)

pub few_under : (name : List ℕ) (xs : List DocumentPlace) → length (places_under name xs) ≤ length xs
few_under name [] = omega arith
few_under name (x ∷ xs) = go (bytes_eq name x.0) (few_under name xs)
  where
    go : (b : Bool) → length (places_under name xs) ≤ length xs → length (cond b (x.1 ∷ places_under name xs) (places_under name xs)) ≤ length (x ∷ xs)
    go true few = omega arith
    go false few = omega arith

-- no word stands under the name of a section
no_word_in : (section k : List ℕ) (q : Pair) (least most : ℕ) (ns : List ℕ) → most ≤ section_stream → Between least most ns → places_under (section_stream ∷ section) (map {B = DocumentPlace} (λ s. (s ∷ k, q)) ns) ≡ []
no_word_in section k q least most [] le b = refl
no_word_in section k q least most (n ∷ ns) le b = go (section_stream == n) refl (no_word_in section k q (n + 1) most ns le b.2)
  where
    go : (t : Bool) → (section_stream == n) ≡ t → places_under (section_stream ∷ section) (map {B = DocumentPlace} (λ s. (s ∷ k, q)) ns) ≡ []
        → cond (t && bytes_eq section k) (q ∷ places_under (section_stream ∷ section) (map {B = DocumentPlace} (λ s. (s ∷ k, q)) ns)) (places_under (section_stream ∷ section) (map {B = DocumentPlace} (λ s. (s ∷ k, q)) ns)) ≡ []
    go true is rest = absurd (omega (arith, eqb-true section_stream n is, b.1, le))
    go false is rest = rest

no_word_at : (section : List ℕ) (position : ℕ) (key : Option (List ℕ)) (streams : List ℕ) (start end most : ℕ) → most ≤ section_stream → Between 0 most streams
    → places_under (section_stream ∷ section) (word_places (word_with position key streams start end)) ≡ []
no_word_at section position None streams start end most le b = refl
no_word_at section position (Some k) streams start end most le b = no_word_in section k (pair position position) 0 most streams le b

pub no_word : (section : List ℕ) (most : ℕ) (ws : List WordView) → most ≤ section_stream → AllByRecursion (Streams most) ws → places_under (section_stream ∷ section) (flat_map word_places ws) ≡ []
no_word section most [] le all = refl
no_word section most (w ∷ ws) le all =
    places_under-append (section_stream ∷ section) (word_places w) (flat_map word_places ws)
    ∙ ap (λ (l : List Pair). l ++ places_under (section_stream ∷ section) (flat_map word_places ws)) (no_word_at section w.position w.key w.streams w.start w.end most le all.0)
    ∙ no_word section most ws le all.1

-- ---- the law

pub few_fields : (g : SectionGroup) → is_group g ≡ true → field_count g.sections ≤ stream_limit
few_fields g is =
    let all = (and_parts (not g.is_null || is_empty g.sections) (are_sections g.sections) is).1 in
    let rest = (and_parts (nat_le (zone_count g.sections) section_limit) _ all).1 in
    leb-true (field_count g.sections) section_limit (and_parts (nat_le (field_count g.sections) section_limit) _ rest).0

some_length : (p : Pair) (ps : List Pair) (positions : List ℕ) → as_pairs positions ≡ p ∷ ps → 1 ≤ length positions
some_length p ps [] is = cc
some_length p ps (q ∷ qs) is = omega arith

module _ (p : Prefs) (text : List ℕ) (rules_are : IsPrefs p) (short : length text ≤ 2 ^ 24) where
  abbrev pub all_extents : List Extent
  all_extents = extents (tags_in p.group (chars text)) (length (encode_utf8_all (chars text))) p.group.sections

  abbrev pub all_tokens : List Token
  all_tokens = tokens (rules p.lexer) (blanked p.group (chars text))

  abbrev pub all_words : List WordView
  all_words = words_from p.stop all_extents 1 all_tokens

  abbrev pub all_instances : List SectionView
  all_instances = rising (instances p.group all_extents all_tokens)

  abbrev pub all_places : List DocumentPlace
  all_places = flat_map word_places all_words ++ map section_place all_instances

  pub the_streams : AllByRecursion (Streams (1 + stream_limit)) all_words
  the_streams = all_wider all_words (words_streams p.stop all_extents 1 all_tokens)
    where
      few : fields all_extents ≤ stream_limit
      few = let same = fields_of_sections (tags_in p.group (chars text)) (length (encode_utf8_all (chars text))) 0 p.group.sections in let le = few_fields p.group rules_are.group in omega (arith, same, le)

      all_wider : (ws : List WordView) → AllByRecursion (Streams (1 + fields all_extents)) ws → AllByRecursion (Streams (1 + stream_limit)) ws
      all_wider [] all = tt
      all_wider (w ∷ ws) all = (between_wider 0 0 (1 + fields all_extents) (1 + stream_limit) w.streams (omega arith) (omega (arith, few)) all.0, all_wider ws all.1)

  the_instances : AllByRecursion (IsInstance (length all_tokens)) all_instances
  the_instances = all_rising (IsInstance (length all_tokens)) (instances p.group all_extents all_tokens)
      (instances_are p.group all_extents all_tokens (extents_named (tags_in p.group (chars text)) (length (encode_utf8_all (chars text))) 0 p.group.sections rules_are.named))

  the_names : AllByRecursion HasName all_places
  the_names =
      let r = rules p.lexer in
      let cs = blanked p.group (chars text) in
      let some = recursion_from_All (λ (t : Token). 0 < length t.key) all_tokens (some_keys r cs) in
      let few = recursion_from_All (λ (t : Token). length t.key ≤ token_limit) all_tokens (limit r token_limit (key_limit p.lexer.base_letter p.lexer.mixed_case) cs) in
      places_append HasName (flat_map word_places all_words) (map section_place all_instances)
      (words_named all_words (words_keys p.stop all_extents 1 all_tokens some few) the_streams)
      (sections_named (length all_tokens) all_instances the_instances)

  few_words : 1 + length all_tokens ≤ 2 ^ 32
  few_words = let few = few_tokens (rules p.lexer) p.group text in omega (arith, few, short)

  word_entry : (name : List ℕ) (q : Pair) (qs : List Pair) → places_under name all_places ≡ q ∷ qs → IsWordName name → IsWordEntry name (q ∷ qs)
  word_entry name q qs is w =
      let positions = positions_of w.stream w.token all_words in
      let same : q ∷ qs ≡ as_pairs positions = sym is ∙ ap (λ (n : List ℕ). places_under n all_places) w.named ∙ key_places w.stream w.token (1 + stream_limit) all_words all_instances w.main_or_field the_streams in
      record {
        stream = w.stream;
        token = w.token;
        named = w.named;
        main_or_field = w.main_or_field;
        some = w.some;
        short = w.short;
        positions = positions;
        are = same;
        anywhere = some_length q qs positions (sym same);
        rise = positions_rise w.stream w.token p.stop all_extents 0 1 all_tokens (omega arith) few_words;
      }

  section_entry : (name : List ℕ) (q : Pair) (qs : List Pair) → places_under name all_places ≡ q ∷ qs → IsSectionName name → IsSectionEntry name (q ∷ qs)
  section_entry name q qs is s =
      let sections = places_under (section_stream ∷ s.section) (map section_place all_instances) in
      let same : sections ≡ q ∷ qs =
      ap (λ (l : List Pair). l ++ sections) (sym (no_word s.section (1 + stream_limit) all_words (omega arith) the_streams))
      ∙ sym (places_under-append (section_stream ∷ s.section) (flat_map word_places all_words) (map section_place all_instances))
      ∙ ap (λ (n : List ℕ). places_under n all_places) (sym s.named) ∙ is in
      let under = few_under (section_stream ∷ s.section) (map section_place all_instances) in
      let long = length-map all_instances section_place in
      let all = few_instances (rules p.lexer) p.group (length (encode_utf8_all (chars text))) text short in
      let words = few_words in
      let few : length sections < 2 ^ 32 = omega (arith, under, long, all) in
      let rise = pairs_rise s.section (pair 0 0) (length all_tokens) all_instances (rising_rises (instances p.group all_extents all_tokens)) the_instances (omega (arith, words)) (follow_none s.section (length all_tokens) all_instances the_instances) in
      record {
        section = s.section;
        named = s.named;
        is_name = s.is_name;
        anywhere = omega arith;
        few = subst (λ (l : List Pair). length l < 2 ^ 32) same few;
        rise = subst (PairsRise (pair 0 0)) same rise;
      }

  ordered_at : (name : List ℕ) (places : List Pair) → get (place_map all_places) name ≡ Some places → IsWordEntry name places ⊎ IsSectionEntry name places
  ordered_at name places found = go (places_under name all_places) refl (sym (get-place_map all_places name) ∙ found)
    where
      by_name : (q : Pair) (qs : List Pair) → places_under name all_places ≡ q ∷ qs → IsAnyName name → IsWordEntry name (q ∷ qs) ⊎ IsSectionEntry name (q ∷ qs)
      by_name q qs is (inl w) = inl (word_entry name q qs is w)
      by_name q qs is (inr s) = inr (section_entry name q qs is s)

      go : (ps : List Pair) → places_under name all_places ≡ ps → if_any ps ≡ Some places → IsWordEntry name places ⊎ IsSectionEntry name places
      go [] is some = cc
      go (q ∷ qs) is some =
          let same : q ∷ qs ≡ places = cc in
          subst (λ (l : List Pair). IsWordEntry name l ⊎ IsSectionEntry name l) same (by_name q qs is (found_named name all_places the_names q qs is))

pub entries_are_ordered : EntriesAreOrdered
entries_are_ordered p text rules_are short name places found = ordered_at p text rules_are short name places found
