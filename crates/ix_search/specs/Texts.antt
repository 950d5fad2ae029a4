-- Texts as the documents of queries: their words and sections, and what an index has of them.
use Rattle.std.specs.Prelude.{ℕ, ◌≡◌, List, [], ◌∷◌, map, Some, codes, refl}
use Rattle.std.specs.Str.{chars}
use lib.Utf8.{encode}
use Rattle.ucd_category.proofs.Computing.{ucd_category}
use Rattle.caseless.proofs.Computing.{caseless}
use Rattle.tx_chars.specs.Keys.{key_text}
use Rattle.tx_tags.specs.Groups.{zones}
use Rattle.tx_settings.specs.declared.preferences.Prefs.{Prefs}
use Rattle.tx_settings.specs.Defaults.{plain}
use Rattle.tx_document.specs.declared.views.WordView.{WordView}
use Rattle.tx_document.specs.declared.views.SectionView.{SectionView}
use Rattle.tx_document.specs.Documents.{document, pair}
use Rattle.tx_document.specs.Entries.{entries}
use Rattle.q_tree.specs.Scores.{DocPostings}
use Rattle.q_tree.specs.Documents.{DocWord, DocSection, DocEntry, postings_of_words}
use Rattle.ix_cursor.specs.Alone.{doc_entries}

abbrev pub doc_word : WordView → DocWord
doc_word w = record { position = w.position; key = w.key; streams = w.streams }

abbrev pub doc_words : List WordView → List DocWord
doc_words ws = map doc_word ws

abbrev pub doc_section : SectionView → DocSection
doc_section s = record { name = s.section; pair = pair s.first s.last }

abbrev pub doc_sections : List SectionView → List DocSection
doc_sections ss = map doc_section ss

-- the words of a text, its sections, and its entries
abbrev pub text_words : Prefs → List ℕ → List DocWord
text_words p text = doc_words (document p (chars text)).words

abbrev pub text_sections : Prefs → List ℕ → List DocSection
text_sections p text = doc_sections (document p (chars text)).sections

abbrev pub entries_of_text : Prefs → List ℕ → List DocEntry
entries_of_text p text = doc_entries (entries (document p (chars text)))

-- THE POSTINGS OF A TEXT, by scanning its words and sections
abbrev pub scanned_postings : Prefs → List ℕ → DocPostings
scanned_postings p text = postings_of_words (text_words p text) (text_sections p text)

-- computed examples: the field t is invisible, and p is a zone
abbrev pub with_tags : List ℕ
with_tags = codes "<T>alpha</T> <P>beta</P>"

its_words : text_words (plain zones) with_tags ≡ record { position = 1; key = Some (codes "alpha"); streams = 1 ∷ [] } ∷ record { position = 2; key = Some (codes "beta"); streams = 0 ∷ [] } ∷ []
unfolding encode chars caseless ucd_category key_text
its_words = refl

its_section : text_sections (plain zones) with_tags ≡ record { name = codes "p"; pair = pair 2 2 } ∷ []
unfolding encode chars caseless ucd_category key_text
its_section = refl
