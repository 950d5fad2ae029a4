-- What is gathered of the texts of rows that become documents: the rows of postings of all terms, while they grow.
use Rattle.std.specs.Prelude.{ℕ, ℤ, pos, ◌≡◌, List, [], ◌∷◌, ◌++◌, Option, Some, None, codes, refl}
use Rattle.std.specs.Bool.{if◌then◌else◌}
use Rattle.std.specs.Coded.{Coded, code_by, coded×}
use Rattle.std.specs.FinMap.{empty}
use Rattle.ct_entry.specs.declared.kinds.Kind.TheVariants as kind
use Rattle.ct_entry.specs.Keys.{Key}
use Rattle.ct_entry.specs.Each.{numbered}
use Rattle.ct_bytes.specs.Varints.{varint}
use Rattle.ix_posting.specs.Forms.{counted_bytes, number_form, pair_form}
use Rattle.ix_rows.specs.RowMaps.{TermRowsView, row_map_code, with_posting, row_map_changes}
use Rattle.ix_rows.specs.WordRows.{word_term}
use Rattle.tx_settings.specs.declared.preferences.Prefs.{Prefs}
use Rattle.tx_document.specs.declared.entries.Entry.{Entry}
use Rattle.tx_document.specs.Documents.{pair}
use Rattle.tx_document.specs.Entries.{entry}
use Rattle.ix_context.specs.Postings.{is_section_entry, text_entries}
use Rattle.ix_rows.specs.Firsts.{first_positions}
use Rattle.ix_rows.specs.SpanRows.{section_term}

-- the rows of words, and those of sections
pub record IndexRowsView : Type 0 where
  pub words : TermRowsView
  pub sections : TermRowsView

abbrev pub index_rows_code : Coded IndexRowsView
index_rows_code = code_by (TermRowsView × TermRowsView) (coded× row_map_code row_map_code) (λ g. (g.words, g.sections)) (λ p. record { words = p.0; sections = p.1 }) (λ _. refl)

abbrev pub nothing_gathered : IndexRowsView
nothing_gathered = record { words = empty; sections = empty }

-- an entry of a document comes: to its section, or to its key in its stream
abbrev pub with_section_entry : IndexRowsView → ℕ → Entry → IndexRowsView
with_section_entry g d e = record g { sections = with_posting g.sections (section_term e.token) d (counted_bytes pair_form e.places) }

abbrev pub with_word_entry : IndexRowsView → ℕ → Entry → IndexRowsView
with_word_entry g d e = record g { words = with_posting g.words (word_term e.stream e.token) d (counted_bytes number_form (first_positions e.places)) }

abbrev pub with_entry : IndexRowsView → ℕ → Entry → IndexRowsView
with_entry g d e = if is_section_entry e then with_section_entry g d e else with_word_entry g d e

abbrev pub with_entries : IndexRowsView → ℕ → List Entry → IndexRowsView
with_entries g d [] = g
with_entries g d (e ∷ es) = with_entries (with_entry g d e) d es

-- the entries of a document's text come, if it has one
abbrev pub with_text : Prefs → IndexRowsView → ℕ → Option (List ℕ) → IndexRowsView
with_text p g d None = g
with_text p g d (Some text) = with_entries g d (text_entries p text)

-- documents come one after the other, where rows have these texts
abbrev pub with_texts : Prefs → (ℤ → Option (List ℕ)) → IndexRowsView → List (ℕ × ℤ) → IndexRowsView
with_texts p text g [] = g
with_texts p text g (n ∷ ns) = with_texts p text (with_text p g n.0 (text n.1)) ns

-- rows become documents, the first of them this one
abbrev pub texts_gathered : Prefs → (ℤ → Option (List ℕ)) → ℕ → List ℤ → IndexRowsView
texts_gathered p text first rows = with_texts p text nothing_gathered (numbered first rows)

-- the changes that put all rows: of words, and then of sections, each in the order of the terms
abbrev pub gathering_changes : List ℕ → IndexRowsView → List (Key × Option (List ℕ))
gathering_changes i g = row_map_changes kind.Postings i g.words ++ row_map_changes kind.Spans i g.sections

-- computed examples: a key of the first field, and a section, of the document 7
abbrev an_entry : Entry
an_entry = entry 1 (codes "alpha") (pair 1 1 ∷ pair 4 4 ∷ [])

a_word_comes : with_entry nothing_gathered 7 an_entry ≡ record { words = with_posting empty (1 ∷ 5 ∷ codes "alpha") 7 (2 ∷ 1 ∷ 3 ∷ []); sections = empty }
unfolding varint
a_word_comes = refl

no_text_comes : (p : Prefs) → with_text p nothing_gathered 7 None ≡ nothing_gathered
no_text_comes p = refl

rows_without_texts : (p : Prefs) → texts_gathered p (λ r. None) 5 (pos 2 ∷ pos 7 ∷ []) ≡ nothing_gathered
rows_without_texts p = refl
