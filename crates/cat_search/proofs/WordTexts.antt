-- The words of a text are texts themselves.
use Rattle.std.proofs.Common.{ℕ, ◌≡◌, ◌≤◌, ◌^◌, inl, inr, eqb, bytes_eq, Bool, true, false, cond, ◌&&◌, List, [], ◌∷◌, length, Option, Some, None, refl, sym, ap, subst, ◌∙◌, arith}
use Rattle.std.specs.List.{list_any, cons_option}
use Rattle.std.specs.Str.{chars, IsUtf8}
use Rattle.std.proofs.lemmas.Bool.{and_parts, and_from, or_cases, or_left, or_right, eq-eqb}
use Rattle.std.proofs.lemmas.Slice.Eq.{bytes_eq-Decides}
use Rattle.ct_base.specs.declared.numbers.Pair.{Pair}
use Rattle.ct_entry.specs.Lists.{EachIs}
use Rattle.tx_settings.specs.declared.preferences.Prefs.{Prefs}
use Rattle.tx_settings.specs.PrefsBytes.{IsPrefs}
use Rattle.tx_document.specs.declared.entries.Entry.{Entry}
use Rattle.tx_document.specs.Documents.{document}
use Rattle.tx_document.specs.Entries.{entries}
use Rattle.ix_spans.specs.Occurrences.{has_number}
use Rattle.q_tree.specs.Documents.{DocWord, DocEntry, firsts, has_position, is_in_stream, is_key_of, is_word_at}
use Rattle.ix_cursor.specs.Alone.{AreDocumentEntries, doc_entry, doc_entries}
use Rattle.ix_search.specs.Texts.{text_words as doc_words_of, entries_of_text}
use Rattle.ix_search.specs.laws.Entries.{entries_are_postings}
use Rattle.ix_search.specs.laws.EntriesAlone.{entries_can_be_scored}
use Rattle.ix_search.specs.laws.WordKeys.{IsWordKey, HaveKeys, word_keys}
use Rattle.cat_index.specs.Filings.{main_words, text_words}

-- a token that a word has
key_is_text : (t : List ℕ) (n : ℕ) (ws : List DocWord) → HaveKeys ws → list_any (is_word_at 0 t n) ws ≡ true → IsUtf8 t
key_is_text t n [] keys h = cc
key_is_text t n (w ∷ ws) keys h = elim (or_cases (is_word_at 0 t n w) (list_any (is_word_at 0 t n) ws) h) [
  | inl here ↦ of_key w.key keys.0 (and_parts (eqb w.position n && is_in_stream 0 w) (is_key_of t w.key) here).1
  | inr later ↦ key_is_text t n ws keys.1 later
]
  where
    of_key : (key : Option (List ℕ)) → IsWordKey key → is_key_of t key ≡ true → IsUtf8 t
    of_key None is h = cc
    of_key (Some k) is h = subst IsUtf8 ((bytes_eq-Decides k t).0 h) is.1

module _ (all : List DocEntry) (ws : List DocWord) (keys : HaveKeys ws) (same : (t : List ℕ) (n : ℕ) → list_any (has_position 0 t n) all ≡ list_any (is_word_at 0 t n) ws) where
  -- an entry stands somewhere, and there a word has its token
  token_is_text : (e : Entry) (ps : List Pair) → e.places ≡ ps → 1 ≤ length ps → eqb e.stream 0 ≡ true → ((t : List ℕ) (n : ℕ) → has_position 0 t n (doc_entry e) ≡ true → list_any (has_position 0 t n) all ≡ true) → IsUtf8 e.token
  token_is_text e [] is some main within = absurd (omega (arith, some))
  token_is_text e (p ∷ ps) is some main within =
      let itself = (bytes_eq-Decides e.token e.token).1 refl in
      let first : has_number (firsts e.places) p.first ≡ true =
      ap (λ (l : List Pair). has_number (firsts l) p.first) is ∙ or_left (eqb p.first p.first) (has_number (firsts ps) p.first) (eq-eqb p.first p.first refl) in
      key_is_text e.token p.first ws keys
      (sym (same e.token p.first)
      ∙ within e.token p.first (and_from (eqb e.stream 0 && bytes_eq e.token e.token) (has_number (firsts e.places) p.first) (and_from (eqb e.stream 0) (bytes_eq e.token e.token) main itself) first))

  main_texts : (es : List Entry) → AreDocumentEntries es → ((t : List ℕ) (n : ℕ) → list_any (has_position 0 t n) (doc_entries es) ≡ true → list_any (has_position 0 t n) all ≡ true) → EachIs IsUtf8 (main_words es)
  main_texts [] are within = tt
  main_texts (e ∷ es) are within =
      go (eqb e.stream 0) refl (main_texts es are.2 (λ t n h. within t n (or_right (has_position 0 t n (doc_entry e)) (list_any (has_position 0 t n) (doc_entries es)) h)))
    where
      go : (b : Bool) → eqb e.stream 0 ≡ b → EachIs IsUtf8 (main_words es) → EachIs IsUtf8 (cons_option (cond b (Some e.token) None) (main_words es))
      go true is rest = (token_is_text e e.places refl are.0.some is (λ t n h. within t n (or_left (has_position 0 t n (doc_entry e)) (list_any (has_position 0 t n) (doc_entries es)) h)), rest)
      go false is rest = rest

pub word_texts : (p : Prefs) (text : List ℕ) → IsPrefs p → length text ≤ 2 ^ 24 → IsUtf8 text → EachIs IsUtf8 (text_words p (Some text))
word_texts p text is short utf8 =
    main_texts (entries_of_text p text) (doc_words_of p text) (word_keys p text utf8) (λ t n. (entries_are_postings p text is short).positions 0 t n (omega arith)) (entries (document p (chars text))) (entries_can_be_scored p text is short) (λ t n h. h)
