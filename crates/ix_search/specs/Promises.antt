-- What the functions of `src/laws.rt` promise.
use Rattle.std.specs.Prelude.{ℕ, ◌≡◌, ◌≤◌, ◌^◌, List, [], length, refl}
use Rattle.std.specs.Str.{chars}
use lib.Utf8.{encode}
use Rattle.ucd_category.proofs.Computing.{ucd_category}
use Rattle.caseless.proofs.Computing.{caseless}
use Rattle.tx_chars.specs.Keys.{key_text}
use Rattle.tx_settings.specs.declared.preferences.Prefs.{Prefs}
use Rattle.tx_settings.specs.PrefsBytes.{IsPrefs}
use Rattle.tx_settings.specs.Defaults.{default_prefs}
use Rattle.tx_document.specs.Documents.{document}
use Rattle.tx_document.specs.Entries.{entries}
use Rattle.q_tree.specs.ReducedQueries.{Reduced}
use Rattle.q_tree.specs.Scores.{DocPostings, score}
use Rattle.q_tree.specs.Documents.{WordsRise, ArePostings}
use Rattle.ix_cursor.specs.Alone.{AreDocumentEntries}
use Rattle.ix_search.specs.Parts.{OfParts}
use Rattle.ix_search.specs.Texts.{text_words, text_sections, entries_of_text}

-- The positions of a text's words rise.
abbrev pub WordsOfTextsRise : Type 0
WordsOfTextsRise = (p : Prefs) (text : List ℕ) → WordsRise 0 (text_words p text)

-- What an index has of a text are its postings.
abbrev pub EntriesArePostings : Type 0
EntriesArePostings = (p : Prefs) (text : List ℕ) → IsPrefs p → length text ≤ 2 ^ 24 → ArePostings (text_words p text) (text_sections p text) (entries_of_text p text)

-- And they are such that the text can be scored alone.
abbrev pub EntriesCanBeScored : Type 0
EntriesCanBeScored = (p : Prefs) (text : List ℕ) → IsPrefs p → length text ≤ 2 ^ 24 → AreDocumentEntries (entries (document p (chars text)))

-- A query has one score over two documents whose postings agree for each of its slots and sections.
abbrev pub PartsScoreAlike : Type 0
PartsScoreAlike =
    (c d : DocPostings) (f : Reduced) (s : ℕ) → OfParts (λ t slot. c.positions t slot ≡ d.positions t slot) (λ name. c.spans name ≡ d.spans name) f s
    → (lo hi : ℕ) → score f c s lo hi ≡ score f d s lo hi

-- computed example: an empty text has no words
no_words : text_words default_prefs [] ≡ []
unfolding encode chars caseless ucd_category key_text
no_words = refl
