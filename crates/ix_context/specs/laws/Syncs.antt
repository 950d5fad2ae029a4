-- What SYNC_INDEX and CREATE INDEX make of a CONTEXT index: just the rows that wait are settled; and an index without entries stands for no marks.
use Rattle.ix_rows.specs.PlacedRows.{document_number}
use Rattle.ct_entry.specs.laws.Maps.{get-each_value}
use Rattle.std.specs.Prelude.{ℕ, ℤ, ◌≡◌, Bool, true, false, cond, ◌||◌, List, [], ◌∷◌, map, Option, Some, None, is_some, refl}
use Rattle.std.specs.List.{list_any}
use Rattle.std.specs.Option.{option_map, option_and_then}
use Rattle.std.specs.Ordering.{int_cmp, int_eq}
use Rattle.std.specs.FinMap.{get, find, get-from_entries}
use Rattle.std.proofs.Common.{sym, ap, ◌∙◌, arith}
use Rattle.std.proofs.lemmas.Cmp.{int_cmp_total}
use Rattle.ct_entry.specs.Keys.{Key}
use Rattle.ct_entry.specs.Maps.{Rows}
use Rattle.ct_entry.specs.laws.Rows.{has_key}
use Rattle.ix_rows.specs.laws.Stored.{none_left}
use Rattle.ix_docmap.specs.Marks.{Mark, Pending, Settled, Marks}
use Rattle.ix_context.specs.Indexes.{settled_rows}
use Rattle.ix_context.specs.Indexes.{in_queue, no_part, waiting_rows, all_settled}
use Rattle.ix_docmap.specs.laws.Documents.{with_mark, settled_in}
use Rattle.ix_context.specs.Documents.{Postings}
use Rattle.ix_context.specs.Standing.{PartStands}
use Rattle.ix_rows.specs.SpanRows.{span_cost, IsSpanTerm}
use Rattle.ix_rows.specs.WordRows.{IsWordTerm, word_cost}

-- ---- the rows that wait

abbrev waits : Option (Mark (Unit {0})) → Bool
waits o = is_some (option_and_then in_queue o)

pending_at : (ms : Rows (Mark (Unit {0}))) (r : ℤ) → list_any (int_eq r) (waiting_rows ms) ≡ waits (get ms r)
pending_at ms r = has_key int_cmp int_cmp_total in_queue ms r

pub settled_in-at : (rows : List ℤ) (mark : Marks) (s : ℤ) → settled_in rows mark s ≡ cond (list_any (int_eq s) rows) (Some (Settled tt)) (mark s)
settled_in-at [] mark s = refl
settled_in-at (r ∷ rows) mark s = settled_in-at rows (with_mark r (Some (Settled tt)) mark) s ∙ either (int_eq s r) (list_any (int_eq s) rows)
  where
    either : (a b : Bool) → cond b (Some (Settled tt)) (cond a (Some (Settled tt)) (mark s)) ≡ cond (a || b) (Some (Settled tt)) (mark s)
    either true true = refl
    either true false = refl
    either false b = refl

pub settled_pending : (ms : Rows (Mark (Unit {0}))) (r : ℤ) → settled_in (waiting_rows ms) (λ r. get ms r) r ≡ get (all_settled ms) r
settled_pending ms r =
    settled_in-at (waiting_rows ms) (λ r. get ms r) r ∙ ap (λ (b : Bool). cond b (Some (Settled tt)) (get ms r)) (pending_at ms r) ∙ go (get ms r) ∙ sym (get-each_value int_cmp_total (λ (m : Mark (Unit {0})). Settled tt) ms r)
  where
    go : (o : Option (Mark (Unit {0}))) → cond (waits o) (Some (Settled tt)) o ≡ option_map (λ (m : Mark (Unit {0})). Settled tt) o
    go None = refl
    go (Some Pending) = refl
    go (Some (Settled a)) = refl

-- ---- an index without entries

-- nothing stands for no marks: so does CREATE INDEX begin, and so is a name that no index has
pub part_empty : (f : Key → Option (List ℕ)) (i : List ℕ) (doc : ℤ → Postings) → ((k : Key) → k.owner ≡ i → f k ≡ None) → PartStands f i doc (λ r. None) no_part
part_empty f i doc none = record {
  document = λ r. None;
  row = λ d. None;
  word_rows = λ t. [];
  span_rows = λ t. [];
  words_waste = 0;
  spans_waste = 0;
  documents = record {
    numbers = record { marked = λ r. refl; there = λ r d h. cc; back = λ r d h. cc; within = λ r d h. cc };
    rows = λ d h. none _ refl;
    documents = λ r h. none _ refl;
    queue = λ r h. none _ refl;
  };
  words = record {
    spelled = record { spelled = λ t d h k. none _ refl };
    are = λ t h. record { each = tt; rise = tt };
    lists = record { exact = λ t d r h e. cc; known = λ t d x h e. cc; bounded = none_left document_number IsWordTerm (word_cost i) (λ d. None) (λ t. []) (λ s stray. let e = stray.stored in cc) };
    tidy = λ t h. tt;
  };
  spans = record {
    spelled = record { spelled = λ t d h k. none _ refl };
    are = λ t h. record { each = tt; rise = tt };
    lists = record { exact = λ t d r h e. cc; known = λ t d x h e. cc; bounded = none_left document_number IsSpanTerm (span_cost i) (λ d. None) (λ t. []) (λ s stray. let e = stray.stored in cc) };
    tidy = λ t h. tt;
  };
  waste = omega arith;
}

-- the marks of a new index
find_created : (rows : List ℤ) (r : ℤ) → find int_cmp r (map {B = ℤ × Mark (Unit {0})} (λ s. (s, Settled tt)) rows) ≡ cond (list_any (int_eq r) rows) (Some (Settled tt)) None
find_created [] r = refl
find_created (s ∷ rows) r = go (int_eq r s) (find_created rows r)
  where
    go : (b : Bool) → find int_cmp r (map {B = ℤ × Mark (Unit {0})} (λ s. (s, Settled tt)) rows) ≡ cond (list_any (int_eq r) rows) (Some (Settled tt)) None
        → cond b (Some (Settled tt)) (find int_cmp r (map {B = ℤ × Mark (Unit {0})} (λ s. (s, Settled tt)) rows)) ≡ cond (b || list_any (int_eq r) rows) (Some (Settled tt)) None
    go true rest = refl
    go false rest = rest

pub settled_row : (rows : List ℤ) (r : ℤ) → get (settled_rows rows) r ≡ cond (list_any (int_eq r) rows) (Some (Settled tt)) None
settled_row rows r = get-from_entries int_cmp_total (map {B = ℤ × Mark (Unit {0})} (λ s. (s, Settled tt)) rows) r ∙ find_created rows r
