-- What a text has under the terms of an index: of a key of a stream the positions that a scan finds, and of a section its pairs.
use Rattle.std.proofs.Common.{◌≡◌, ℕ, ◌≤◌, ◌^◌, Bool, true, false, cond, List, [], ◌∷◌, length, map, Option, Some, None, refl, sym, ap, subst, ◌∙◌, arith}
use Rattle.std.specs.List.{cons_option}
use Rattle.std.specs.Option.{option_map}
use Rattle.std.specs.Str.{chars}
use Rattle.std.specs.Ordering.{nat_cmp, eq_by_cmp}
use Rattle.std.specs.Cmp.Lexicographic.{slice_cmp}
use Rattle.std.specs.FinMap.{get, find, get-entries, get-from_entries}
use Rattle.std.proofs.lemmas.Bool.{eqb-true}
use Rattle.std.proofs.lemmas.Cmp.{nat_list_cmp_total}
use Rattle.ct_base.specs.Limits.{stream_limit}
use Rattle.ct_base.specs.declared.numbers.Pair.{Pair}
use Rattle.ct_base.specs.laws.Lists.{cons_parts}
use Rattle.ct_entry.specs.Keys.{same_list}
use Rattle.ct_entry.specs.laws.Keys.{lists_tie, list_from_same, list_same}
use Rattle.ct_entry.specs.laws.Maps.{names_tie}
use Rattle.tx_settings.specs.declared.preferences.Prefs.{Prefs}
use Rattle.tx_settings.specs.PrefsBytes.{IsPrefs}
use Rattle.tx_document.specs.Documents.{document}
use Rattle.tx_document.specs.Entries.{place_map, entry_of, positions_of, section_stream}
use Rattle.tx_document.specs.Promises.{as_pairs, if_any}
use Rattle.tx_document.specs.laws.Found.{places_are_found, places_are_positions}
use Rattle.ix_rows.specs.WordRows.{word_term}
use Rattle.ix_context.specs.Postings.{places_in_text, text_entries, is_section_entry, word_terms, section_terms}
use Rattle.ix_rows.specs.Firsts.{first_positions}
use Rattle.ix_rows.specs.SpanRows.{section_term}
use Rattle.ix_context.specs.Documents.{text_postings}
use Rattle.ix_context.specs.laws.Postings.{Named, text_names, firsts_of_pairs}
use Rattle.q_tree.specs.Documents.{section_pairs}
use Rattle.ix_search.specs.Texts.{doc_sections}
use Rattle.ix_search.specs.laws.Entries.{section_places}

tie_alike : (a b c d : List ℕ) → (a ≡ b → c ≡ d) → (c ≡ d → a ≡ b) → eq_by_cmp (slice_cmp nat_cmp) a b ≡ eq_by_cmp (slice_cmp nat_cmp) c d
tie_alike a b c d from to =
    names_tie a b ∙ lists_tie a b (same_list c d) (λ e. subst (λ (l : List ℕ). same_list c l ≡ true) (from e) (list_same c)) (λ h. to (list_from_same c d h)) ∙ sym (names_tie c d)

apart : (a b : List ℕ) → (a ≡ b → ⊥) → eq_by_cmp (slice_cmp nat_cmp) a b ≡ false
apart a b other = names_tie a b ∙ lists_tie a b false (λ e. absurd (other e)) (λ h. let wrong : false ≡ true = h in absurd (cc))

option_map_cond : (b : Bool) (x : List Pair) (o : Option (List Pair)) → option_map first_positions (cond b (Some x) o) ≡ cond b (Some (first_positions x)) (option_map first_positions o)
option_map_cond true x o = refl
option_map_cond false x o = refl

-- ---- words

-- positions, where there are some
abbrev pub any_positions : List ℕ → Option (List ℕ)
any_positions [] = None
any_positions (p ∷ ps) = Some (p ∷ ps)

firsts_any : (ps : List ℕ) → option_map first_positions (if_any (as_pairs ps)) ≡ any_positions ps
firsts_any [] = refl
firsts_any (p ∷ ps) = ap (λ (l : List ℕ). Some (p ∷ l)) (firsts_of_pairs ps)

module _ (s : ℕ) (low : s ≤ stream_limit) (w : List ℕ) (some : 1 ≤ length w) where
  -- the same name and the same term
  terms_tie : (stream : ℕ) (token : List ℕ) → eq_by_cmp (slice_cmp nat_cmp) (word_term s w) (word_term stream token) ≡ eq_by_cmp (slice_cmp nat_cmp) (s ∷ w) (stream ∷ token)
  terms_tie stream token = tie_alike (word_term s w) (word_term stream token) (s ∷ w) (stream ∷ token) from to
    where
      from : word_term s w ≡ word_term stream token → s ∷ w ≡ stream ∷ token
      from e =
          let p = cons_parts s stream (length w ∷ w) (length token ∷ token) e in
          let q = cons_parts (length w) (length token) w token p.1 in
          ap (λ (n : ℕ). n ∷ w) p.0 ∙ ap (λ (l : List ℕ). stream ∷ l) q.1

      to : s ∷ w ≡ stream ∷ token → word_term s w ≡ word_term stream token
      to e = let p = cons_parts s stream w token e in ap (λ (n : ℕ). word_term n w) p.0 ∙ ap (word_term stream) p.1

  no_term : word_term s w ≡ word_term 0 [] → ⊥
  no_term e = let long : length w ≡ 0 = (cons_parts (length w) 0 w [] (cons_parts s 0 (length w ∷ w) (0 ∷ []) e).1).0 in absurd (omega (arith, some, long))

  find-term : (ns : List Named) → find (slice_cmp nat_cmp) (word_term s w) (word_terms (map entry_of ns)) ≡ option_map first_positions (find (slice_cmp nat_cmp) (s ∷ w) ns)
  find-term [] = refl
  find-term (([], places) ∷ ns) =
      ap (λ (b : Bool). cond b (Some (first_positions places)) (find (slice_cmp nat_cmp) (word_term s w) (word_terms (map entry_of ns)))) (apart (word_term s w) (word_term 0 []) no_term)
      ∙ find-term ns
      ∙ sym (ap (λ (b : Bool). option_map first_positions (cond b (Some places) (find (slice_cmp nat_cmp) (s ∷ w) ns))) (apart (s ∷ w) [] (λ e. cc)))
  find-term ((stream ∷ token, places) ∷ ns) = go (is_section_entry (entry_of (stream ∷ token, places))) refl (find-term ns)
    where
      name : Bool
      name = eq_by_cmp (slice_cmp nat_cmp) (s ∷ w) (stream ∷ token)

      no_name : stream ≡ section_stream → s ∷ w ≡ stream ∷ token → ⊥
      no_name last e = let first = (cons_parts s stream w token e).0 in absurd (omega (arith, last, first, low))

      go : (b : Bool) → is_section_entry (entry_of (stream ∷ token, places)) ≡ b
          → find (slice_cmp nat_cmp) (word_term s w) (word_terms (map entry_of ns)) ≡ option_map first_positions (find (slice_cmp nat_cmp) (s ∷ w) ns)
          → find (slice_cmp nat_cmp) (word_term s w) (cons_option (cond b None (Some (word_term stream token, first_positions places))) (word_terms (map entry_of ns))) ≡ option_map first_positions (cond name (Some places) (find (slice_cmp nat_cmp) (s ∷ w) ns))
      go true so rest =
          rest ∙ sym (ap (λ (b : Bool). option_map first_positions (cond b (Some places) (find (slice_cmp nat_cmp) (s ∷ w) ns))) (apart (s ∷ w) (stream ∷ token) (no_name (eqb-true stream section_stream so))))
      go false so rest =
          ap (λ (b : Bool). cond b (Some (first_positions places)) (find (slice_cmp nat_cmp) (word_term s w) (word_terms (map entry_of ns)))) (terms_tie stream token)
          ∙ ap (cond name (Some (first_positions places))) rest
          ∙ sym (option_map_cond name places (find (slice_cmp nat_cmp) (s ∷ w) ns))

  pub get-word : (p : Prefs) (text : List ℕ) → get (text_postings p (Some text)).words (word_term s w) ≡ any_positions (positions_of s w (document p (chars text)).words)
  get-word p text =
      get-from_entries nat_list_cmp_total (word_terms (text_entries p text)) (word_term s w)
      ∙ find-term (text_names p text)
      ∙ ap (option_map first_positions) (sym (get-entries (place_map (places_in_text p text)) (s ∷ w)) ∙ places_are_found p text (s ∷ w) ∙ ap if_any (places_are_positions p text s w low))
      ∙ firsts_any (positions_of s w (document p (chars text)).words)

-- ---- sections

module _ (w : List ℕ) where
  names_tie_so : (token : List ℕ) → eq_by_cmp (slice_cmp nat_cmp) (section_term w) (section_term token) ≡ eq_by_cmp (slice_cmp nat_cmp) (section_stream ∷ w) (section_stream ∷ token)
  names_tie_so token = tie_alike (section_term w) (section_term token) (section_stream ∷ w) (section_stream ∷ token)
      (λ e. ap (λ (l : List ℕ). section_stream ∷ l) (cons_parts (length w) (length token) w token e).1)
      (λ e. ap section_term (cons_parts section_stream section_stream w token e).1)

  find-section : (ns : List Named) → find (slice_cmp nat_cmp) (section_term w) (section_terms (map entry_of ns)) ≡ find (slice_cmp nat_cmp) (section_stream ∷ w) ns
  find-section [] = refl
  find-section (([], places) ∷ ns) =
      find-section ns ∙ sym (ap (λ (b : Bool). cond b (Some places) (find (slice_cmp nat_cmp) (section_stream ∷ w) ns)) (apart (section_stream ∷ w) [] (λ e. cc)))
  find-section ((stream ∷ token, places) ∷ ns) = go (is_section_entry (entry_of (stream ∷ token, places))) refl (find-section ns)
    where
      found : Option (List Pair)
      found = find (slice_cmp nat_cmp) (section_stream ∷ w) ns

      go : (b : Bool) → is_section_entry (entry_of (stream ∷ token, places)) ≡ b → find (slice_cmp nat_cmp) (section_term w) (section_terms (map entry_of ns)) ≡ found
          → find (slice_cmp nat_cmp) (section_term w) (cons_option (cond b (Some (section_term token, places)) None) (section_terms (map entry_of ns))) ≡ cond (eq_by_cmp (slice_cmp nat_cmp) (section_stream ∷ w) (stream ∷ token)) (Some places) found
      go true so rest =
          let one : stream ≡ section_stream = eqb-true stream section_stream so in
          ap (λ (b : Bool). cond b (Some places) (find (slice_cmp nat_cmp) (section_term w) (section_terms (map entry_of ns)))) (names_tie_so token ∙ ap (λ (n : ℕ). eq_by_cmp (slice_cmp nat_cmp) (section_stream ∷ w) (n ∷ token)) (sym one))
          ∙ ap (cond (eq_by_cmp (slice_cmp nat_cmp) (section_stream ∷ w) (stream ∷ token)) (Some places)) rest
      go false so rest =
          rest ∙ sym (ap (λ (b : Bool). cond b (Some places) found) (apart (section_stream ∷ w) (stream ∷ token) (λ e.
          let one : section_stream ≡ stream = (cons_parts section_stream stream w token e).0 in
          let wrong : true ≡ false = sym (ap (λ (n : ℕ). is_section_entry (entry_of (n ∷ token, places))) (sym one)) ∙ so in
          absurd (cc))))

  pub get-section : (p : Prefs) (text : List ℕ) → IsPrefs p → length text ≤ 2 ^ 24 → get (text_postings p (Some text)).spans (section_term w) ≡ if_any (section_pairs w (doc_sections (document p (chars text)).sections))
  get-section p text is short =
      get-from_entries nat_list_cmp_total (section_terms (text_entries p text)) (section_term w)
      ∙ find-section (text_names p text)
      ∙ sym (get-entries (place_map (places_in_text p text)) (section_stream ∷ w)) ∙ places_are_found p text (section_stream ∷ w)
      ∙ ap if_any (section_places p text is short w)
