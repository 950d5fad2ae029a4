-- What a document of an index has: its postings, and what they cost.
use Rattle.std.specs.Prelude.{ℕ, ℤ, ◌≡◌, ◌+◌, sum_by, List, [], ◌∷◌, Option, Some, None, codes, refl}
use Rattle.std.specs.Option.{option_map}
use Rattle.std.specs.Ordering.{nat_cmp}
use Rattle.std.specs.Cmp.Lexicographic.{slice_cmp}
use Rattle.std.specs.FinMap.{FinMap, get, entries, from_entries, empty}
use Rattle.ct_base.specs.declared.numbers.Pair.{Pair}
use Rattle.ct_entry.specs.Maps.{Names}
use Rattle.ix_posting.specs.declared.rows.RowDocument.{RowDocument}
use Rattle.ix_posting.specs.Rows.{WordDocument, SpanDocument}
use Rattle.ix_rows.specs.WordRows.{positions_cost}
use Rattle.ix_rows.specs.SpanRows.{pairs_cost}
use Rattle.tx_settings.specs.declared.preferences.Prefs.{Prefs}
use Rattle.tx_document.specs.declared.entries.Entry.{Entry}
use Rattle.tx_settings.specs.Defaults.{default_prefs}
use Rattle.ix_context.specs.Postings.{text_entries, word_terms, section_terms, fox_and_quick}
use Rattle.std.proofs.Common.{ap}

-- the positions under each stream and token, and the pairs under each section, by the terms' bytes in keys
pub record Postings : Type 0 where
  pub words : FinMap (slice_cmp nat_cmp) (List ℕ)
  pub spans : FinMap (slice_cmp nat_cmp) (List Pair)

-- what is listed as entries of a document
abbrev pub entries_postings : List Entry → Postings
entries_postings es = record { words = from_entries (word_terms es); spans = from_entries (section_terms es) }

-- what a row has by its text, if it has one
abbrev pub text_postings : Prefs → Option (List ℕ) → Postings
text_postings p None = record { words = empty; spans = empty }
text_postings p (Some text) = entries_postings (text_entries p text)

-- what rows have by these texts
abbrev pub postings_by : Prefs → (ℤ → Option (List ℕ)) → ℤ → Postings
postings_by p text r = text_postings p (text r)

-- ---- as the rows of postings have them

abbrev pub document_with : {P : Type 0} → ℕ → List P → RowDocument P
document_with d places = record { document = d; places = places }

-- what a row has under a term, as this document
abbrev pub row_posting : {P : Type 0} → (ℤ → Names (List P)) → ℤ → List ℕ → ℕ → Option (RowDocument P)
row_posting has r term d = option_map (document_with d) (get (has r) term)

abbrev pub word_posting : (ℤ → Postings) → ℤ → List ℕ → ℕ → Option WordDocument
word_posting doc = row_posting (λ r. (doc r).words)

abbrev pub section_posting : (ℤ → Postings) → ℤ → List ℕ → ℕ → Option SpanDocument
section_posting doc = row_posting (λ r. (doc r).spans)

-- ---- costs

-- What a document costs: the sum, over its postings, of the weight of the entry that has this posting alone, under the greatest number.
abbrev pub words_cost : List ℕ → Postings → ℕ
words_cost i p = sum_by (positions_cost i) (entries p.words)

abbrev pub spans_cost : List ℕ → Postings → ℕ
spans_cost i p = sum_by (pairs_cost i) (entries p.spans)

abbrev pub document_cost : List ℕ → Postings → ℕ
document_cost i p = words_cost i p + spans_cost i p

-- computed examples
pub its_terms : word_terms (text_entries default_prefs (codes "quick fox quick")) ≡ (0 ∷ 3 ∷ codes "fox", 2 ∷ []) ∷ (0 ∷ 5 ∷ codes "quick", 1 ∷ 3 ∷ []) ∷ []
its_terms = ap word_terms fox_and_quick

pub no_sections : section_terms (text_entries default_prefs (codes "quick fox quick")) ≡ []
no_sections = ap section_terms fox_and_quick

-- a row without a text has nothing
no_text : text_postings default_prefs None ≡ record { words = empty; spans = empty }
no_text = refl
