-- Which entries matter to what a CONTEXT index has.
use Rattle.std.proofs.Common.{◌≡◌, ℕ, ℤ, Bool, true, cond, List, [], ◌∷◌, Option, Some, refl, ap, ◌∙◌}
use Rattle.ct_entry.specs.declared.kinds.Kind.{Kind}
use Rattle.ct_entry.specs.declared.kinds.Kind.TheVariants as kind
use Rattle.ct_entry.specs.Keys.{Key, key}
use Rattle.ct_entry.specs.Changes.{put_value, told, view}
use Rattle.ct_entry.specs.laws.Keys.{key_same}
use Rattle.ct_entry.specs.laws.Changes.{told_frame}
use Rattle.ix_posting.specs.Rows.{IsPostingRow, posting_bytes, IsSpanRow, span_row_bytes}
use Rattle.ix_rows.specs.PlacedRows.{document_number}
use Rattle.ix_rows.specs.WordRows.{IsWordTerm, word_cost}
use Rattle.ix_rows.specs.SpanRows.{IsSpanTerm, span_cost}
use Rattle.ix_rows.specs.laws.Stores.{store_agree}
use Rattle.ix_docmap.specs.Marks.{Marks}
use Rattle.ix_kinds.specs.Standing.{is_of_part, is_entry}
use Rattle.ix_kinds.specs.laws.Standing.{no_entry}
use Rattle.ix_context.specs.Indexes.{Part}
use Rattle.ix_context.specs.Documents.{Postings, word_posting, section_posting}
use Rattle.ix_context.specs.Spelling.{is_context_part}
use Rattle.ix_context.specs.Standing.{PartStands}

-- ---- only the entries of its own name, of its kinds

pub part_of_any : (k : Kind) → is_context_part k ≡ true → is_of_part k ≡ true
part_of_any kind.DocumentRows h = refl
part_of_any kind.RowDocuments h = refl
part_of_any kind.Pending h = refl
part_of_any kind.Postings h = refl
part_of_any kind.Spans h = refl
part_of_any k h = cc

pub part_agree : (f g : Key → Option (List ℕ)) (i : List ℕ) (doc : ℤ → Postings) (mark : Marks) (part : Part)
    → ((k : Key) → k.owner ≡ i → is_context_part k.kind ≡ true → g k ≡ f k) → PartStands f i doc mark part → PartStands g i doc mark part
part_agree f g i doc mark part same stand = record {
  document = stand.document;
  row = stand.row;
  word_rows = stand.word_rows;
  span_rows = stand.span_rows;
  words_waste = stand.words_waste;
  spans_waste = stand.spans_waste;
  documents = record {
    numbers = stand.documents.numbers;
    rows = λ d doc. same _ refl refl ∙ stand.documents.rows d doc;
    documents = λ r fits. same _ refl refl ∙ stand.documents.documents r fits;
    queue = λ r fits. same _ refl refl ∙ stand.documents.queue r fits;
  };
  words = store_agree document_number posting_bytes IsPostingRow IsWordTerm (word_cost i) f g kind.Postings i (word_posting doc) stand.row part.given part.tidiness stand.words_waste stand.word_rows (λ q. same _ refl refl) stand.words;
  spans = store_agree document_number span_row_bytes IsSpanRow IsSpanTerm (span_cost i) f g kind.Spans i (section_posting doc) stand.row part.given part.tidiness stand.spans_waste stand.span_rows (λ q. same _ refl refl) stand.spans;
  waste = stand.waste;
}

-- ---- the entry of the index itself

-- its change leaves what the others stand for
pub entry_put : (f : Key → Option (List ℕ)) (i v : List ℕ) (doc : ℤ → Postings) (mark : Marks) (part : Part)
    → PartStands f i doc mark part → PartStands (view (put_value (key kind.Indexes i []) v ∷ []) f) i doc mark part
entry_put f i v doc mark part stand =
    part_agree f (view (put_value (key kind.Indexes i []) v ∷ []) f) i doc mark part (λ k owner of. told_frame is_entry (put_value (key kind.Indexes i []) v ∷ []) k (f k) (refl, tt) (no_entry k.kind (part_of_any k.kind of))) stand

pub entry_here : (i : List ℕ) (v : List ℕ) (old : Option (List ℕ)) → told (put_value (key kind.Indexes i []) v ∷ []) (key kind.Indexes i []) old ≡ Some v
entry_here i v old = ap (λ (b : Bool). cond b (Some v) old) (key_same (key kind.Indexes i []))
