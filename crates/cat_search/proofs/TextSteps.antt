-- The texts of rows, scored by their entries.
use Rattle.std.proofs.Common.{ℕ, ◌≡◌, ◌≤◌, ◌^◌, nat_lt, true, List, length, sym, ap, subst, ◌∙◌, arith}
use Rattle.std.specs.Str.{chars}
use Rattle.tx_settings.specs.declared.preferences.Prefs.{Prefs}
use Rattle.tx_settings.specs.PrefsBytes.{IsPrefs}
use Rattle.tx_document.specs.declared.entries.Entry.{Entry}
use Rattle.tx_document.specs.Documents.{document}
use Rattle.tx_document.specs.Entries.{entries}
use Rattle.q_tree.specs.ReducedQueries.{Reduced}
use Rattle.q_tree.specs.Scores.{whole_score}
use Rattle.q_tree.specs.Soundness.{is_sound}
use Rattle.q_tree.specs.Documents.{postings_of_entries}
use Rattle.q_tree.specs.laws.SameScores.{score_by_entries}
use Rattle.ix_cursor.specs.Alone.{AreDocumentEntries, doc_entries}
use Rattle.ix_search.specs.Texts.{text_words, text_sections, entries_of_text, scanned_postings}
use Rattle.ix_search.specs.laws.Words.{words_rise}
use Rattle.ix_search.specs.laws.Entries.{entries_are_postings}
use Rattle.ix_search.specs.laws.EntriesAlone.{entries_can_be_scored}
use Rattle.cat_search.specs.Queries.{is_boolean}
use Rattle.cat_search.specs.Meeting.{meets}
use Rattle.cat_search.specs.laws.Truth.{holds_by_score}

module _ (p : Prefs) (text : List ℕ) (is : IsPrefs p) (short : length text ≤ 2 ^ 19) (es : List Entry) (are : es ≡ entries (document p (chars text))) where
  pub can_be_scored : AreDocumentEntries es
  can_be_scored = subst AreDocumentEntries (sym are) (entries_can_be_scored p text is (omega (arith, short)))

  pub score_tells : (q : Reduced) → is_boolean q ≡ true → is_sound q ≡ true → (score : ℕ) → score ≡ whole_score q (postings_of_entries (doc_entries es)) → nat_lt 0 score ≡ meets p q text
  score_tells q boolean sound score scored =
      ap (nat_lt 0) (scored ∙ ap (λ (l : List Entry). whole_score q (postings_of_entries (doc_entries l))) are
      ∙ score_by_entries q (text_words p text) (text_sections p text) (entries_of_text p text) sound (words_rise p text) (entries_are_postings p text is (omega (arith, short))))
      ∙ sym (holds_by_score q (scanned_postings p text) boolean)
