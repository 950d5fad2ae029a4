-- What is gathered of several texts at once: their postings, which come in any order that leaves those of each term as they are.
use Rattle.std.specs.Prelude.{ℕ, ℤ, pos, ◌≡◌, ◌≤◌, ◌<◌, ◌^◌, nat_le, Bool, List, [], ◌∷◌, length, map, take, Option, Some, None, codes, refl}
use Rattle.std.specs.Bool.{if◌then◌else◌}
use Rattle.ct_base.specs.declared.numbers.RowKey.{RowKey}
use Rattle.ct_entry.specs.Each.{numbered}
use Rattle.tb_table.specs.declared.columns.Target.{Target}
use Rattle.tb_table.specs.Tables.{Tables}
use Rattle.ix_invert.specs.declared.postings.Posting.{Posting}
use Rattle.ix_invert.specs.Inverting.{all_postings}
use Rattle.tx_settings.specs.declared.preferences.Prefs.{Prefs}
use Rattle.tx_document.specs.declared.entries.Entry.{Entry}
use Rattle.tx_document.specs.Documents.{pair}
use Rattle.tx_document.specs.Entries.{entry}
use Rattle.ix_context.specs.Gathering.{IndexRowsView, nothing_gathered, with_entry, with_texts}
use Rattle.ix_posting.specs.Forms.{counted_bytes, number_form, pair_form}
use Rattle.ix_rows.specs.Firsts.{first_positions}
use Rattle.ix_rows.specs.Runs.{with_run}
use Rattle.ix_rows.specs.SpanRows.{section_term}
use Rattle.ix_rows.specs.WordRows.{word_term}
use Rattle.ix_context.specs.Indexes.{target_text}
use Rattle.ix_context.specs.Postings.{IsPosting, indexed_text_limit, is_section_entry, text_entries}
use Rattle.ix_context.specs.laws.Postings.{most_places}

-- ---- postings

-- an entry of a document, as a posting; and the entry that a posting is
abbrev pub posting_of : ℕ → Entry → Posting
posting_of d e = record { stream = e.stream; token = e.token; doc = record { 0 = d }; places = e.places }

abbrev pub entry_in : Posting → Entry
entry_in p = entry p.stream p.token p.places

-- the postings of a text as this document; one of over 2^19 bytes has none
abbrev pub postings_as : Prefs → ℕ → List ℕ → List Posting
postings_as p d text = if nat_le (length text) indexed_text_limit then map (posting_of d) (text_entries p text) else []

-- what rows of postings need of one that comes
pub record Comes (p : Posting) : Type 0 where
  pub is : IsPosting (entry_in p)
  pub few : length p.places ≤ most_places
  pub document : p.doc.0 < 2 ^ 32

-- ---- as they come

abbrev pub with_postings : IndexRowsView → List Posting → IndexRowsView
with_postings g [] = g
with_postings g (p ∷ ps) = with_postings (with_entry g p.doc.0 (entry_in p)) ps

-- A PORTION of texts comes, the first of them as this document.
abbrev pub with_portion : Prefs → IndexRowsView → ℕ → List (List ℕ) → IndexRowsView
with_portion p g d texts = with_postings g (all_postings (postings_as p) d texts)

-- ---- by runs

-- the term of an entry, and the bytes of its places, as they stand in rows
abbrev pub entry_term : Entry → List ℕ
entry_term e = if is_section_entry e then section_term e.token else word_term e.stream e.token

abbrev pub entry_places : Entry → List ℕ
entry_places e = if is_section_entry e then counted_bytes pair_form e.places else counted_bytes number_form (first_positions e.places)

-- documents come to one term, which is a section's or a word's, one behind the other, each with the bytes of its places
abbrev pub with_term_run : IndexRowsView → Bool → List ℕ → List (ℕ × List ℕ) → IndexRowsView
with_term_run g is_section t xs = if is_section then record g { sections = with_run g.sections t xs } else record g { words = with_run g.words t xs }

-- ---- the texts of rows

-- a row without a text takes part with an empty one
abbrev pub text_or_empty : Option (List ℕ) → List ℕ
text_or_empty None = []
text_or_empty (Some text) = text

abbrev pub texts_of : (ℤ → Option (List ℕ)) → List ℤ → List (List ℕ)
texts_of text rows = map (λ r. text_or_empty (text r)) rows

-- so many of these rows: at least one, where there are any
pub record IsSomeOf (rows : List RowKey) (count : ℕ) : Type 0 where
  pub some : 1 ≤ length rows → 1 ≤ count
  pub within : count ≤ length rows

-- The first so many of these rows became the next documents, the first of them this one, where rows have these texts.
abbrev pub GathersPortion : Prefs → (ℤ → Option (List ℕ)) → ℕ → List RowKey → ℕ → IndexRowsView → IndexRowsView → Type 0
GathersPortion p text d rows count old new = new ≡ with_texts p text old (numbered d (map (λ r. r.0) (take count rows)))

-- these are the texts of the first of these rows, as an index on this target sees them
abbrev pub ArePortion : Tables → Target → List RowKey → List (List ℕ) → Type 0
ArePortion ts target rows texts = texts ≡ texts_of (target_text ts target) (map (λ r. r.0) (take (length texts) rows))

-- so many of these rows came, with the texts that an index on this target sees
abbrev pub GathersRows : Tables → Target → Prefs → ℕ → List RowKey → IndexRowsView → IndexRowsView → ℕ → Type 0
GathersRows ts target p d rows old new count = GathersPortion p (target_text ts target) d rows count old new

-- ---- computed examples

abbrev alpha : Posting
alpha = posting_of 7 (entry 1 (codes "alpha") (pair 1 1 ∷ pair 4 4 ∷ []))

as_an_entry : with_postings nothing_gathered (alpha ∷ []) ≡ with_entry nothing_gathered 7 (entry 1 (codes "alpha") (pair 1 1 ∷ pair 4 4 ∷ []))
as_an_entry = refl

no_texts : (p : Prefs) → with_portion p nothing_gathered 5 [] ≡ nothing_gathered
no_texts p = refl

two_rows_without_texts : texts_of (λ r. None) (pos 2 ∷ pos 7 ∷ []) ≡ [] ∷ [] ∷ []
two_rows_without_texts = refl
