-- What INSERT, UPDATE and DELETE of a row make of a CONTEXT index.
use Rattle.std.specs.Prelude.{ℕ, ℤ, ◌≡◌, ◌+◌, ◌<◌, ◌^◌, Bool, true, false, cond, List, [], ◌∷◌, ◌++◌, Option, Some, None, refl}
use Rattle.std.specs.Ordering.{int_eq}
use Rattle.std.specs.FinMap.{get, insert, remove}
use Rattle.std.proofs.Common.{sym, ap, subst, ◌∙◌}
use Rattle.ct_entry.specs.declared.kinds.Kind.TheVariants as kind
use Rattle.ct_entry.specs.Keys.{Key, key, row_part, IsRow}
use Rattle.ct_entry.specs.Changes.{put_value, drop_key, view}
use Rattle.ct_entry.specs.laws.Maps.{get_row-insert, get_row-remove}
use Rattle.ct_entry.specs.laws.Changes.{view-append}
use Rattle.ct_entry.specs.laws.Parts.{int_same, int_from_eq}
use Rattle.ix_rows.specs.Stores.{Untidy}
use Rattle.ix_rows.specs.laws.Stores.{store_untidy}
use Rattle.ix_docmap.specs.Marks.{Mark, Pending, Settled, is_settled, Marks}
use Rattle.ix_context.specs.Indexes.{Part, ContextIndex, part_after_loss}
use Rattle.ix_docmap.specs.laws.Documents.{with_mark}
use Rattle.ix_docmap.specs.Changes.{unmark_changes}
use Rattle.ix_context.specs.Documents.{Postings, document_cost, word_posting, section_posting}
use Rattle.ix_context.specs.Standing.{PartStands}
use Rattle.ix_context.specs.laws.Parts.{part_queued, part_unmapped, part_see}
use Rattle.ix_rows.specs.SpanRows.{span_cost, IsSpanTerm}
use Rattle.ix_rows.specs.PlacedRows.{document_number}
use Rattle.ix_posting.specs.Rows.{IsPostingRow, posting_bytes, IsSpanRow, span_row_bytes}
use Rattle.ix_rows.specs.WordRows.{IsWordTerm, word_cost}

-- INSERT: a new row waits
pub context_new : (f : Key → Option (List ℕ)) (i : List ℕ) (doc doc' : ℤ → Postings) (x : ContextIndex) (r : ℤ) → IsRow r → get x.marks r ≡ None
    → ((s : ℤ) → is_settled (get x.marks s) ≡ true → doc' s ≡ doc s)
    → PartStands f i doc ((λ s. get x.marks s)) x.part
    → PartStands (view (put_value (key kind.Pending i (row_part r)) [] ∷ []) f) i doc' ((λ s. get (insert x.marks r Pending) s)) x.part
context_new f i doc doc' x r is_row free same stand =
    let seen = part_see f i doc doc' (λ s. get x.marks s) x.part same stand in
    let waits = part_queued f i doc' (λ s. get x.marks s) x.part r (Some Pending) is_row (ap is_settled free) refl seen in
    subst (λ (m : Marks). PartStands (view (put_value (key kind.Pending i (row_part r)) [] ∷ []) f) i doc' m x.part) (λ j s. sym (get_row-insert x.marks r Pending s) j) waits

other_row : (x : ContextIndex) (r s : ℤ) → is_settled (with_mark r None (λ s. get x.marks s) s) ≡ true → (int_eq s r ≡ false) × (is_settled (get x.marks s) ≡ true)
other_row x r s = go (int_eq s r) refl
  where
    go : (b : Bool) → int_eq s r ≡ b → is_settled (cond b None (get x.marks s)) ≡ true → (int_eq s r ≡ false) × (is_settled (get x.marks s) ≡ true)
    go true e h = cc
    go false e h = (e, h)

-- DELETE of a row that is settled: the entries of its document go, its postings stay, and their cost is wasted
pub context_gone : (f : Key → Option (List ℕ)) (i : List ℕ) (doc doc' : ℤ → Postings) (x : ContextIndex) (r : ℤ) → IsRow r
    → get x.marks r ≡ Some (Settled tt) → x.part.given < 2 ^ 32 → ((s : ℤ) → int_eq s r ≡ false → is_settled (get x.marks s) ≡ true → doc' s ≡ doc s)
    → (stand : PartStands f i doc ((λ s. get x.marks s)) x.part) (d : ℕ) → stand.document r ≡ Some d
    → PartStands (view (unmark_changes i d r) f) i doc' ((λ s. get (remove x.marks r) s)) (part_after_loss (get x.marks r) (document_cost i (doc r)) x.part)
context_gone f i doc doc' x r is_row here room same stand d is =
    let unmapped = part_unmapped f i doc (λ s. get x.marks s) x.part r is_row (ap is_settled here) room stand d is in
    let seen = part_see (view (unmark_changes i d r) f) i doc doc' (with_mark r None (λ s. get x.marks s)) (record x.part { tidiness = Untidy; waste = x.part.waste + document_cost i (doc r) }) (λ s h. let o = other_row x r s h in same s o.0 o.1) unmapped in
    let marks = subst (λ (m : Marks). PartStands (view (unmark_changes i d r) f) i doc' m (record x.part { tidiness = Untidy; waste = x.part.waste + document_cost i (doc r) })) (λ j s. sym (get_row-remove x.marks r s) j) seen in
    subst (λ (o : Option (Mark (Unit {0}))). PartStands (view (unmark_changes i d r) f) i doc' (λ s. get (remove x.marks r) s) (part_after_loss o (document_cost i (doc r)) x.part)) (sym here) marks

-- UPDATE of the column of a row that is settled: the same, and the row waits
pub context_changed : (f : Key → Option (List ℕ)) (i : List ℕ) (doc doc' : ℤ → Postings) (x : ContextIndex) (r : ℤ) → IsRow r
    → get x.marks r ≡ Some (Settled tt) → x.part.given < 2 ^ 32 → ((s : ℤ) → int_eq s r ≡ false → is_settled (get x.marks s) ≡ true → doc' s ≡ doc s)
    → (stand : PartStands f i doc ((λ s. get x.marks s)) x.part) (d : ℕ) → stand.document r ≡ Some d
    → PartStands (view (unmark_changes i d r ++ put_value (key kind.Pending i (row_part r)) [] ∷ []) f) i doc' ((λ s. get (insert x.marks r Pending) s)) (part_after_loss (get x.marks r) (document_cost i (doc r)) x.part)
context_changed f i doc doc' x r is_row here room same stand d is =
    let lost = context_gone f i doc doc' x r is_row here room same stand d is in
    let part = part_after_loss (get x.marks r) (document_cost i (doc r)) x.part in
    let free : is_settled (get (remove x.marks r) r) ≡ false = ap is_settled (get_row-remove x.marks r r ∙ ap (λ (b : Bool). cond b None (get x.marks r)) (int_same r)) in
    let waits = part_queued (view (unmark_changes i d r) f) i doc' (λ s. get (remove x.marks r) s) part r (Some Pending) is_row free refl lost in
    let words : view (put_value (key kind.Pending i (row_part r)) [] ∷ []) (view (unmark_changes i d r) f) ≡ view (unmark_changes i d r ++ put_value (key kind.Pending i (row_part r)) [] ∷ []) f = sym (view-append (unmark_changes i d r) (put_value (key kind.Pending i (row_part r)) [] ∷ []) f) in
    subst (λ (g : Key → Option (List ℕ)). PartStands g i doc' (λ s. get (insert x.marks r Pending) s) part) words
    (subst (λ (m : Marks). PartStands (view (put_value (key kind.Pending i (row_part r)) [] ∷ []) (view (unmark_changes i d r) f)) i doc' m part) (λ j s. both s j) waits)
  where
    both : (s : ℤ) → with_mark r (Some Pending) (λ s. get (remove x.marks r) s) s ≡ get (insert x.marks r Pending) s
    both s = ap (cond (int_eq s r) (Some Pending)) (get_row-remove x.marks r s) ∙ once (int_eq s r) ∙ sym (get_row-insert x.marks r Pending s)
      where
        once : (b : Bool) → cond b (Some Pending) (cond b None (get x.marks s)) ≡ cond b (Some Pending) (get x.marks s)
        once true = refl
        once false = refl

-- ---- rows that only waited: nothing is lost, and the index is untidy

pub part_untidy : (f : Key → Option (List ℕ)) (i : List ℕ) (doc : ℤ → Postings) (mark : Marks) (part : Part) → PartStands f i doc mark part
    → PartStands f i doc mark (record part { tidiness = Untidy })
part_untidy f i doc mark part stand = record {
  document = stand.document;
  row = stand.row;
  word_rows = stand.word_rows;
  span_rows = stand.span_rows;
  words_waste = stand.words_waste;
  spans_waste = stand.spans_waste;
  documents = stand.documents;
  words = store_untidy document_number posting_bytes IsPostingRow IsWordTerm (word_cost i) f kind.Postings i (word_posting doc) stand.row part.given part.tidiness stand.words_waste stand.word_rows stand.words;
  spans = store_untidy document_number span_row_bytes IsSpanRow IsSpanTerm (span_cost i) f kind.Spans i (section_posting doc) stand.row part.given part.tidiness stand.spans_waste stand.span_rows stand.spans;
  waste = stand.waste;
}

-- DELETE of a row that waits
pub context_gone_waiting : (f : Key → Option (List ℕ)) (i : List ℕ) (doc doc' : ℤ → Postings) (cost : ℕ) (x : ContextIndex) (r : ℤ) → IsRow r
    → get x.marks r ≡ Some Pending → ((s : ℤ) → is_settled (get x.marks s) ≡ true → doc' s ≡ doc s)
    → PartStands f i doc ((λ s. get x.marks s)) x.part
    → PartStands (view (drop_key (key kind.Pending i (row_part r)) ∷ []) f) i doc' ((λ s. get (remove x.marks r) s)) (part_after_loss (get x.marks r) cost x.part)
context_gone_waiting f i doc doc' cost x r is_row here same stand =
    let seen = part_see f i doc doc' (λ s. get x.marks s) x.part same stand in
    let waits = part_queued f i doc' (λ s. get x.marks s) x.part r None is_row (ap is_settled here) refl seen in
    let untidy = part_untidy (view (drop_key (key kind.Pending i (row_part r)) ∷ []) f) i doc' (with_mark r None (λ s. get x.marks s)) x.part waits in
    let marks = subst (λ (m : Marks). PartStands (view (drop_key (key kind.Pending i (row_part r)) ∷ []) f) i doc' m (record x.part { tidiness = Untidy })) (λ j s. sym (get_row-remove x.marks r s) j) untidy in
    subst (λ (o : Option (Mark (Unit {0}))). PartStands (view (drop_key (key kind.Pending i (row_part r)) ∷ []) f) i doc' (λ s. get (remove x.marks r) s) (part_after_loss o cost x.part)) (sym here) marks

-- UPDATE of a row that waits: it waits on, and nothing is put
pub context_changed_waiting : (f : Key → Option (List ℕ)) (i : List ℕ) (doc doc' : ℤ → Postings) (cost : ℕ) (x : ContextIndex) (r : ℤ)
    → get x.marks r ≡ Some Pending → ((s : ℤ) → is_settled (get x.marks s) ≡ true → doc' s ≡ doc s)
    → PartStands f i doc ((λ s. get x.marks s)) x.part → PartStands f i doc' ((λ s. get (insert x.marks r Pending) s)) (part_after_loss (get x.marks r) cost x.part)
context_changed_waiting f i doc doc' cost x r here same stand =
    let seen = part_see f i doc doc' (λ s. get x.marks s) x.part same stand in
    let untidy = part_untidy f i doc' (λ s. get x.marks s) x.part seen in
    let marks = subst (λ (m : Marks). PartStands f i doc' m (record x.part { tidiness = Untidy })) (λ j s. both s j) untidy in
    subst (λ (o : Option (Mark (Unit {0}))). PartStands f i doc' (λ s. get (insert x.marks r Pending) s) (part_after_loss o cost x.part)) (sym here) marks
  where
    both : (s : ℤ) → get x.marks s ≡ get (insert x.marks r Pending) s
    both s = go (int_eq s r) refl ∙ sym (get_row-insert x.marks r Pending s)
      where
        go : (b : Bool) → int_eq s r ≡ b → get x.marks s ≡ cond b (Some Pending) (get x.marks s)
        go true e = ap (λ (z : ℤ). get x.marks z) (int_from_eq s r e) ∙ here
        go false e = refl
