-- What the changes of a row are on, and what they leave; and which document is read of it.
use Rattle.std.proofs.Common.{◌≡◌, ℕ, ℤ, ◌≤◌, ◌<◌, ◌^◌, Bool, false, cond, List, Option, Some, None, refl, sym, ap, ◌∙◌, arith}
use Rattle.std.specs.Prelude.{is_some}
use Rattle.std.specs.Int.{to_be_bytes, w32}
use Rattle.std.specs.Option.{option_map, option_and_then}
use Rattle.std.specs.Ordering.{int_eq}
use Rattle.std.proofs.lemmas.Nat.{from_be_bytes-to_be_bytes_4}
use Rattle.ct_entry.specs.declared.kinds.Kind.TheVariants as kind
use Rattle.ct_entry.specs.Keys.{Key, key, same_key, same_list, row_part, IsRow}
use Rattle.ct_entry.specs.Changes.{told, AllOf, AllOn}
use Rattle.ct_entry.specs.laws.Parts.{rows_tie, same_kind}
use Rattle.ix_kinds.specs.laws.Tables.{and_false}
use Rattle.ix_docmap.specs.Marks.{Mark, Marks, is_settled, MapStands}
use Rattle.ix_docmap.specs.Changes.{gone_changes, changed_changes}
use Rattle.ix_docmap.specs.Readings.{document_of, document_at}
use Rattle.ix_docmap.specs.laws.Documents.{is_of_map}

-- ---- the document that is read

-- the entry of a row names the document that the row is
pub document_read : (f : Key → Option (List ℕ)) (i : List ℕ) (mark : Marks) (given : ℕ) (document : ℤ → Option ℕ) (row : ℕ → Option ℤ)
    → MapStands f i mark given document row → given < 2 ^ 32 → (r : ℤ) → IsRow r → document_at f i r ≡ document r
document_read f i mark given document row stand room r is_row =
    ap (option_and_then document_of) (stand.documents r is_row) ∙ go (document r) (stand.numbers.within r)
  where
    go : (o : Option ℕ) → ((d : ℕ) → o ≡ Some d → (1 ≤ d) × (d ≤ given)) → option_and_then document_of (option_map (to_be_bytes w32) o) ≡ o
    go None within = refl
    go (Some d) within = let low = (within d refl).1 in ap Some (from_be_bytes-to_be_bytes_4 d (omega (arith, low, room)))

-- a document is there exactly where the row is settled
pub settled_there : (f : Key → Option (List ℕ)) (i : List ℕ) (mark : Marks) (given : ℕ) (document : ℤ → Option ℕ) (row : ℕ → Option ℤ)
    → MapStands f i mark given document row → (r : ℤ) (m : Option (Mark (Unit {0}))) (o : Option ℕ) → mark r ≡ m → document r ≡ o → is_some o ≡ is_settled m
settled_there f i mark given document row stand r m o marked is = sym (ap is_some is) ∙ stand.numbers.marked r ∙ ap is_settled marked

-- ---- what they are on

pub all_gone : (i : List ℕ) (r : ℤ) (o : Option ℕ) → AllOf is_of_map (gone_changes i r o)
all_gone i r None = (refl, tt)
all_gone i r (Some d) = (refl, (refl, tt))

pub all_on_gone : (i : List ℕ) (r : ℤ) (o : Option ℕ) → AllOn i (gone_changes i r o)
all_on_gone i r None = (refl, tt)
all_on_gone i r (Some d) = (refl, (refl, tt))

pub all_changed : (i : List ℕ) (r : ℤ) (o : Option ℕ) → AllOf is_of_map (changed_changes i r o)
all_changed i r None = tt
all_changed i r (Some d) = (refl, (refl, (refl, tt)))

pub all_on_changed : (i : List ℕ) (r : ℤ) (o : Option ℕ) → AllOn i (changed_changes i r o)
all_on_changed i r None = tt
all_on_changed i r (Some d) = (refl, (refl, (refl, tt)))

-- ---- the documents of other rows

other_key : (i j : List ℕ) (r s : ℤ) → IsRow r → IsRow s → int_eq s r ≡ false → same_key (key kind.RowDocuments j (row_part s)) (key kind.RowDocuments i (row_part r)) ≡ false
other_key i j r s r_is s_is apart =
    same_kind kind.RowDocuments j i (row_part s) (row_part r) ∙ and_false (same_list j i) (same_list (row_part s) (row_part r)) (rows_tie s r s_is r_is ∙ apart)

-- the changes of a row leave what names the documents of other rows
pub gone_others : (i j : List ℕ) (r s : ℤ) (o : Option ℕ) (old : Option (List ℕ)) → IsRow r → IsRow s → int_eq s r ≡ false
    → told (gone_changes i r o) (key kind.RowDocuments j (row_part s)) old ≡ old
gone_others i j r s None old r_is s_is apart = refl
gone_others i j r s (Some d) old r_is s_is apart = ap (λ (b : Bool). cond b None old) (other_key i j r s r_is s_is apart)

pub changed_others : (i j : List ℕ) (r s : ℤ) (o : Option ℕ) (old : Option (List ℕ)) → IsRow r → IsRow s → int_eq s r ≡ false
    → told (changed_changes i r o) (key kind.RowDocuments j (row_part s)) old ≡ old
changed_others i j r s None old r_is s_is apart = refl
changed_others i j r s (Some d) old r_is s_is apart = ap (λ (b : Bool). cond b None old) (other_key i j r s r_is s_is apart)
