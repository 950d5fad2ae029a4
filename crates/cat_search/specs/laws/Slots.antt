-- A slot has positions in the main stream of a text exactly where it takes one of the text's words, and they lie within the range of a document.
use Rattle.std.proofs.Common.{ℕ, ◌≡◌, ◌+◌, ◌≤◌, ◌^◌, eqb, nat_lt, Bool, true, false, cond, ◌&&◌, ◌||◌, List, [], ◌∷◌, length, map, Some, None, refl, sym, ap, ◌∙◌, arith}
use Rattle.std.specs.List.{AllByRecursion, list_any, filter, cons_option}
use Rattle.std.specs.Str.{chars, encode_utf8_all}
use Rattle.ct_base.specs.declared.numbers.Pair.{Pair}
use Rattle.tx_lexer.specs.declared.tokens.Token.{Token}
use Rattle.tx_lexer.specs.Tokens.{tokens, rules}
use Rattle.tx_tags.specs.Tags.{tags_in, blanked}
use Rattle.tx_settings.specs.declared.preferences.Prefs.{Prefs}
use Rattle.tx_settings.specs.PrefsBytes.{IsPrefs}
use Rattle.tx_document.specs.declared.entries.Entry.{Entry}
use Rattle.tx_document.specs.Documents.{Extent, extents, word_of, words_from, document}
use Rattle.tx_document.specs.Entries.{entries}
use Rattle.tx_document.specs.laws.Counts.{few_tokens}
use Rattle.q_tree.specs.declared.flats.Slot.{Slot}
use Rattle.q_tree.specs.declared.flats.Slot.TheVariants.{Takes}
use Rattle.q_tree.specs.Slots.{takes}
use Rattle.q_tree.specs.Scores.{last_position}
use Rattle.q_tree.specs.Documents.{DocWord, put_position, put_all, firsts, entry_positions, word_positions, fits_word}
use Rattle.q_tree.specs.laws.Postings.{same_positions}
use Rattle.ix_cursor.specs.Alone.{AreDocumentEntries, doc_entries}
use Rattle.ix_search.specs.Texts.{text_words as doc_words_of, text_sections, entries_of_text, doc_word, doc_words, scanned_postings}
use Rattle.ix_search.specs.laws.Words.{words_rise}
use Rattle.ix_search.specs.laws.Entries.{entries_are_postings}
use Rattle.ix_search.specs.laws.EntriesAlone.{entries_can_be_scored}
use Rattle.cat_index.specs.Filings.{main_words, text_words}
use Rattle.cat_search.specs.Promises.{WordsRuleOut, WordsTell}
use Rattle.cat_search.specs.laws.Ruling.{is_some_list, IsWithin, AreWordsOf, rules_out, tells}

-- ---- by its entries

some_put : (p : ℕ) (qs : List ℕ) → is_some_list (put_position p qs) ≡ true
some_put p [] = refl
some_put p (q ∷ qs) = go (nat_lt p q) (eqb p q)
  where
    go : (a b : Bool) → is_some_list (cond a (p ∷ q ∷ qs) (cond b (q ∷ qs) (q ∷ put_position p qs))) ≡ true
    go true b = refl
    go false true = refl
    go false false = refl

some_put_all : (ps : List Pair) (qs : List ℕ) → 1 ≤ length ps → is_some_list (put_all (firsts ps) qs) ≡ true
some_put_all [] qs some = absurd (omega (arith, some))
some_put_all (p ∷ ps) qs some = some_put p.first (put_all (firsts ps) qs)

entries_some : (slot : Slot) (es : List Entry) → AreDocumentEntries es → is_some_list (entry_positions 0 slot (doc_entries es)) ≡ list_any (takes slot) (main_words es)
entries_some slot [] are = refl
entries_some slot (e ∷ es) are = go (eqb e.stream 0) (takes slot e.token) refl (entries_some slot es are.2)
  where
    go : (b t : Bool) → takes slot e.token ≡ t → is_some_list (entry_positions 0 slot (doc_entries es)) ≡ list_any (takes slot) (main_words es)
        → is_some_list (cond (b && takes slot e.token) (put_all (firsts e.places) (entry_positions 0 slot (doc_entries es))) (entry_positions 0 slot (doc_entries es)))
        ≡ list_any (takes slot) (cons_option (cond b (Some e.token) None) (main_words es))
    go false t is rest = rest
    go true true is rest =
        ap (λ (x : Bool). is_some_list (cond x (put_all (firsts e.places) (entry_positions 0 slot (doc_entries es))) (entry_positions 0 slot (doc_entries es)))) is
        ∙ some_put_all e.places (entry_positions 0 slot (doc_entries es)) are.0.some
        ∙ sym (ap (λ (x : Bool). x || list_any (takes slot) (main_words es)) is)
    go true false is rest =
        ap (λ (x : Bool). is_some_list (cond x (put_all (firsts e.places) (entry_positions 0 slot (doc_entries es))) (entry_positions 0 slot (doc_entries es)))) is
        ∙ rest
        ∙ sym (ap (λ (x : Bool). x || list_any (takes slot) (main_words es)) is)

-- ---- by its words

positions_within : (stop : List (List ℕ)) (es : List Extent) (slot : Slot) (n : ℕ) (ts : List Token) → 1 ≤ n → n + length ts ≤ 1 + last_position
    → AllByRecursion IsWithin (word_positions 0 slot (doc_words (words_from stop es n ts)))
positions_within stop es slot n [] from to = tt
positions_within stop es slot n (t ∷ ts) from to = go (fits_word 0 slot first) (positions_within stop es slot (n + 1) ts (omega arith) (omega (arith, to)))
  where
    first : DocWord
    first = doc_word (word_of stop es n t)

    go : (b : Bool) → AllByRecursion IsWithin (word_positions 0 slot (doc_words (words_from stop es (n + 1) ts)))
        → AllByRecursion IsWithin (map (λ (w : DocWord). w.position) (cond b (first ∷ filter (fits_word 0 slot) (doc_words (words_from stop es (n + 1) ts))) (filter (fits_word 0 slot) (doc_words (words_from stop es (n + 1) ts)))))
    go true rest = (record { from = from; to = omega (arith, to) }, rest)
    go false rest = rest

-- ---- the law

pub words_of_text : (p : Prefs) (text : List ℕ) → IsPrefs p → length text ≤ 2 ^ 24 → AreWordsOf (scanned_postings p text) (text_words p (Some text))
words_of_text p text is short = record {
  some = λ keys patterns.
      ap is_some_list (sym (same_positions (doc_words_of p text) (text_sections p text) (entries_of_text p text) (words_rise p text) (entries_are_postings p text is short) 0 (omega arith) (Takes keys patterns)))
      ∙ entries_some (Takes keys patterns) (entries (document p (chars text))) (entries_can_be_scored p text is short);
  within = λ keys patterns.
      let few = few_tokens (rules p.lexer) p.group text in
      positions_within p.stop (extents (tags_in p.group (chars text)) (length (encode_utf8_all (chars text))) p.group.sections) (Takes keys patterns) 1 (tokens (rules p.lexer) (blanked p.group (chars text))) (omega arith)
      (omega (arith, few, short));
}

-- ---- the laws

pub words_rule_out : WordsRuleOut
words_rule_out p text q is short boolean sound h = rules_out (scanned_postings p text) (text_words p (Some text)) (words_of_text p text is short) q boolean sound h

pub words_tell : WordsTell
words_tell p text q is short boolean sound exact = tells (scanned_postings p text) (text_words p (Some text)) (words_of_text p text is short) q boolean sound exact
