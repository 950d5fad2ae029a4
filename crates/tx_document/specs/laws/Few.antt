-- How many places a key or a section has in a document at most.
use Rattle.std.proofs.Common.{◌≡◌, ℕ, ◌+◌, ◌*◌, ◌≤◌, ◌^◌, Bool, true, false, cond, List, [], ◌∷◌, ◌++◌, length, map, ◌⊎◌, refl, sym, ap, ◌∙◌, arith, inl, inr}
use Rattle.std.specs.List.{flat_map}
use Rattle.std.specs.Str.{chars, encode_utf8_all}
use Rattle.std.proofs.lemmas.List.{length-map}
use Rattle.ct_base.specs.Limits.{stream_limit}
use Rattle.ct_base.specs.declared.numbers.Pair.{Pair}
use Rattle.tx_lexer.specs.declared.tokens.Token.{Token}
use Rattle.tx_lexer.specs.Tokens.{rules}
use Rattle.tx_settings.specs.declared.preferences.Prefs.{Prefs}
use Rattle.tx_document.specs.declared.views.WordView.{WordView}
use Rattle.tx_document.specs.Documents.{Extent, document, pair, words_from}
use Rattle.tx_document.specs.Entries.{places_of, places_under, positions_of, is_at, section_place, section_stream, word_places}
use Rattle.tx_settings.specs.PrefsBytes.{IsPrefs}
use Rattle.tx_document.specs.Promises.{PlacesAreFew, IsWordEntry, IsSectionEntry, if_any}
use Rattle.tx_document.specs.laws.Counts.{few_tokens, instances_few}
use Rattle.tx_document.specs.laws.Found.{places_are_found, places_are_positions, places_under-append}
use Rattle.tx_document.specs.laws.Ordered.{entries_are_ordered, few_under, no_word, the_streams, all_extents, all_words, all_instances, all_tokens}

few_positions : (stream : ℕ) (key : List ℕ) (ws : List WordView) → length (positions_of stream key ws) ≤ length ws
few_positions stream key [] = omega arith
few_positions stream key (w ∷ ws) = go (is_at stream key w) (few_positions stream key ws)
  where
    go : (b : Bool) → length (positions_of stream key ws) ≤ length ws → length (cond b (w.position ∷ positions_of stream key ws) (positions_of stream key ws)) ≤ length (w ∷ ws)
    go true few = omega arith
    go false few = omega arith

pub words_are_tokens : (stop : List (List ℕ)) (es : List Extent) (position : ℕ) (ts : List Token) → length (words_from stop es position ts) ≡ length ts
words_are_tokens stop es position [] = refl
words_are_tokens stop es position (t ∷ ts) = let rest = words_are_tokens stop es (position + 1) ts in omega (arith, rest)

module _ (p : Prefs) (text name : List ℕ) (are : IsPrefs p) (short : length text ≤ 2 ^ 24) where
  abbrev here : List Pair
  here = places_under name (places_of (document p (chars text)))

  words_few : length (all_words p text are short) ≤ 4 * length text
  words_few = let same = words_are_tokens p.stop (all_extents p text are short) 1 (all_tokens p text are short) in let few = few_tokens (rules p.lexer) p.group text in omega (arith, same, few)

  of_word : (ps : List Pair) → here ≡ ps → IsWordEntry name ps → length ps ≤ 9 * length text + 2
  of_word ps is w =
      let same = ap (λ (n : List ℕ). places_under n (places_of (document p (chars text)))) w.named ∙ places_are_positions p text w.stream w.token w.main_or_field in
      let long = ap length (sym is ∙ same) in
      let pairs = length-map (positions_of w.stream w.token (all_words p text are short)) (λ q. pair q q) in
      let few = few_positions w.stream w.token (all_words p text are short) in
      let words = words_few in
      omega (arith, long, pairs, few, words)

  of_section : (ps : List Pair) → here ≡ ps → IsSectionEntry name ps → length ps ≤ 9 * length text + 2
  of_section ps is s =
      let instances = map section_place (all_instances p text are short) in
      let sections = places_under (section_stream ∷ s.section) instances in
      let same : ps ≡ sections =
      sym is ∙ ap (λ (n : List ℕ). places_under n (places_of (document p (chars text)))) s.named
      ∙ places_under-append (section_stream ∷ s.section) (flat_map word_places (all_words p text are short)) instances
      ∙ ap (λ (l : List Pair). l ++ sections) (no_word s.section (1 + stream_limit) (all_words p text are short) (omega arith) (the_streams p text are short)) in
      let long = ap length same in
      let under = few_under (section_stream ∷ s.section) instances in
      let all = length-map (all_instances p text are short) section_place in
      let few = instances_few (rules p.lexer) p.group (length (encode_utf8_all (chars text))) text in
      omega (arith, long, under, all, few)

pub places_are_few : PlacesAreFew
places_are_few p text name are short = go (here p text name are short) refl
  where
    either : (q : Pair) (qs : List Pair) → here p text name are short ≡ q ∷ qs → IsWordEntry name (q ∷ qs) ⊎ IsSectionEntry name (q ∷ qs) → length (q ∷ qs) ≤ 9 * length text + 2
    either q qs is (inl w) = of_word p text name are short (q ∷ qs) is w
    either q qs is (inr s) = of_section p text name are short (q ∷ qs) is s

    go : (ps : List Pair) → here p text name are short ≡ ps → length (here p text name are short) ≤ 9 * length text + 2
    go [] is = let e = ap length is in omega (arith, e)
    go (q ∷ qs) is =
        let found = places_are_found p text name ∙ ap if_any is in
        let few = either q qs is (entries_are_ordered p text are short name (q ∷ qs) found) in
        let e = ap length is in
        omega (arith, e, few)
