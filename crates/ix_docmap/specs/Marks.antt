-- Which rows of a table are documents of an index, and which wait: the map and the queue of an index.
use Rattle.std.specs.Prelude.{ℕ, ℤ, ◌≡◌, ◌≤◌, Bool, true, false, Option, Some, None, is_some, pos, refl}
use Rattle.std.specs.Int.{to_be_bytes, w32}
use Rattle.std.specs.Option.{option_map}
use Rattle.ct_bytes.specs.RowKeys.{row_bytes}
use Rattle.ct_entry.specs.declared.kinds.Kind.TheVariants as kind
use Rattle.ct_entry.specs.Keys.{Key, key, row_part, document_part, IsRow, IsDocument}
use Rattle.std.specs.Prelude.{List, []}

-- A row of an index waits for the next synchronisation, or was settled by one, with what came of it. Of a CONTEXT index nothing more is to be said
-- of a settled row than that it is one.
pub data Mark (A : Type 0) : Type 0 where
  Pending : Mark A
  Settled : A → Mark A

-- the marks of rows that settle with nothing more to be said
abbrev pub Marks : Type 0
Marks = ℤ → Option (Mark (Unit {0}))

abbrev pub is_settled : {A : Type 0} → Option (Mark A) → Bool
is_settled None = false
is_settled (Some Pending) = false
is_settled (Some (Settled a)) = true

-- The settled rows have documents, one to one, of those that were given.
pub record AreNumbers (is_document : ℤ → Bool) (given : ℕ) (document : ℤ → Option ℕ) (row : ℕ → Option ℤ) : Type 0 where
  pub marked : (r : ℤ) → is_some (document r) ≡ is_document r
  pub there : (r : ℤ) (d : ℕ) → document r ≡ Some d → row d ≡ Some r
  pub back : (r : ℤ) (d : ℕ) → row d ≡ Some r → document r ≡ Some d
  pub within : (r : ℤ) (d : ℕ) → document r ≡ Some d → (1 ≤ d) × (d ≤ given)

-- what a row has in the queue
abbrev pub queued : Option (Mark (Unit {0})) → Option (List ℕ)
queued None = None
queued (Some Pending) = Some []
queued (Some (Settled _)) = None

abbrev pub settled_at : Marks → ℤ → Bool
settled_at mark r = is_settled (mark r)

-- The entries of the kinds DocumentRows, RowDocuments and Pending of an index are those of these documents and marks.
pub record MapStands (f : Key → Option (List ℕ)) (i : List ℕ) (mark : Marks) (given : ℕ) (document : ℤ → Option ℕ) (row : ℕ → Option ℤ) : Type 0 where
  pub numbers : AreNumbers (settled_at mark) given document row
  pub rows : (d : ℕ) → IsDocument d → f (key kind.DocumentRows i (document_part d)) ≡ option_map row_bytes (row d)
  pub documents : (r : ℤ) → IsRow r → f (key kind.RowDocuments i (row_part r)) ≡ option_map (to_be_bytes w32) (document r)
  pub queue : (r : ℤ) → IsRow r → f (key kind.Pending i (row_part r)) ≡ queued (mark r)

-- computed examples: a row that waits is queued, and isn't a document; and an index that has no row needs no entry
waits : queued (Some Pending) ≡ Some []
waits = refl

no_document_yet : settled_at (λ r. Some Pending) (pos 7) ≡ false
no_document_yet = refl

of_no_row : (i : List ℕ) → MapStands (λ k. None) i (λ r. None) 0 (λ r. None) (λ d. None)
of_no_row i = record {
  numbers = record { marked = λ r. refl; there = λ r d is. cc; back = λ r d is. cc; within = λ r d is. cc };
  rows = λ d document. refl;
  documents = λ r row. refl;
  queue = λ r row. refl;
}
