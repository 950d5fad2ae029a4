-- Of which kinds, and of which index, the changes are that put rows of postings.
use Rattle.std.proofs.Common.{◌≡◌, ℕ, ℤ, true, List, [], ◌∷◌, map, refl}
use Rattle.ct_entry.specs.declared.kinds.Kind.{Kind}
use Rattle.ct_entry.specs.declared.kinds.Kind.TheVariants as kind
use Rattle.ct_entry.specs.Keys.{key}
use Rattle.ct_entry.specs.Changes.{put_value, AllOf, AllOn}
use Rattle.ct_entry.specs.Each.{numbered}
use Rattle.ct_entry.specs.laws.Changes.{all-append, all_on-append}
use Rattle.ct_entry.specs.laws.Each.{all_each, all_on-each}
use Rattle.ix_posting.specs.Rows.{posting_bytes, span_row_bytes}
use Rattle.ix_rows.specs.Gathering.{terms_of, gathered_rows, rows_put}
use Rattle.ix_rows.specs.Spelling.{row_key, first_document}
use Rattle.ix_rows.specs.PlacedRows.{document_number}
use Rattle.ix_context.specs.Documents.{Postings, document_with}
use Rattle.ix_context.specs.Changes.{word_changes, section_changes, postings_changes}
use Rattle.ix_context.specs.Spelling.{is_context_part}

-- ---- the rows of a term

module _ {D : Type 0} (k : Kind) (i : List ℕ) (place value : List D → List ℕ) where
  puts_of_part : is_context_part k ≡ true → (rows : List (List D)) → AllOf is_context_part (map (λ (row : List D). put_value (key k i (place row)) (value row)) rows)
  puts_of_part is [] = tt
  puts_of_part is (row ∷ rows) = (is, puts_of_part is rows)

  puts_on : (rows : List (List D)) → AllOn i (map (λ (row : List D). put_value (key k i (place row)) (value row)) rows)
  puts_on [] = tt
  puts_on (row ∷ rows) = (refl, puts_on rows)

-- ---- of all terms

module _ {D X : Type 0} (number : D → ℕ) (bytes_of : List D → List ℕ) (made : ℕ → X → D) (k : Kind) (i : List ℕ) where
  rows_of_part : is_context_part k ≡ true → (es : List (List ℕ × List (List D))) → AllOf is_context_part (rows_put number bytes_of made k i es)
  rows_of_part is es =
      all_each is_context_part (λ (e : List ℕ × List (List D)). map (λ (row : List D). put_value (key k i (row_key e.0 (first_document number row))) (bytes_of row)) e.1)
      (λ e. puts_of_part k i (λ row. row_key e.0 (first_document number row)) bytes_of is e.1) es

  rows_on : (es : List (List ℕ × List (List D))) → AllOn i (rows_put number bytes_of made k i es)
  rows_on es =
      all_on-each i (λ (e : List ℕ × List (List D)). map (λ (row : List D). put_value (key k i (row_key e.0 (first_document number row))) (bytes_of row)) e.1)
      (λ e. puts_on k i (λ row. row_key e.0 (first_document number row)) bytes_of e.1) es

module _ (i : List ℕ) (doc : ℤ → Postings) (first : ℕ) (rows : List ℤ) where
  pub postings_of_part : AllOf is_context_part (postings_changes i doc first rows)
  postings_of_part =
      all-append is_context_part (word_changes i doc first rows) (section_changes i doc first rows)
      (rows_of_part document_number posting_bytes document_with kind.Postings i refl (gathered_rows document_number posting_bytes document_with (λ r. (doc r).words) (numbered first rows) (terms_of (λ r. (doc r).words) rows)))
      (rows_of_part document_number span_row_bytes document_with kind.Spans i refl (gathered_rows document_number span_row_bytes document_with (λ r. (doc r).spans) (numbered first rows) (terms_of (λ r. (doc r).spans) rows)))

  pub postings_on : AllOn i (postings_changes i doc first rows)
  postings_on =
      all_on-append i (word_changes i doc first rows) (section_changes i doc first rows)
      (rows_on document_number posting_bytes document_with kind.Postings i (gathered_rows document_number posting_bytes document_with (λ r. (doc r).words) (numbered first rows) (terms_of (λ r. (doc r).words) rows)))
      (rows_on document_number span_row_bytes document_with kind.Spans i (gathered_rows document_number span_row_bytes document_with (λ r. (doc r).spans) (numbered first rows) (terms_of (λ r. (doc r).spans) rows)))
