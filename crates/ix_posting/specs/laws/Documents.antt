-- Documents as items, and a row as a whole of them, whatever the form of the places.
use Rattle.std.proofs.Common.{◌≡◌, ℕ, ◌+◌, ◌-◌, ◌<◌, ◌≤◌, ◌^◌, List, ◌++◌, length, refl, sym, ap, ◌∙◌, subst, append_assoc}
use Rattle.ct_bytes.specs.Varints.{varint}
use Rattle.ix_posting.specs.Forms.{PlaceForm, PlacesRise, places_bytes}
use Rattle.ix_posting.specs.Rows.{DocumentsRise, IsPostingRowOf, document_bytes, documents_bytes, posting_bytes_of}
use Rattle.ix_posting.specs.Places.{StandsAt, IsForm, ArePlacesAt, IsPlaceAt, IsDocumentAt, AreDocumentsAt}
use Rattle.ix_posting.specs.declared.rows.RowDocument.{RowDocument}
use Rattle.ix_posting.specs.laws.Standing.{joined, first_part, second_part}
use Rattle.ix_posting.specs.laws.Heads.{document_head, head_whole, head_parts, head_alone}
use Rattle.ix_posting.specs.laws.Items.{AreItems, items_of, many_alone}
use Rattle.ix_posting.specs.laws.Places.{places}
use Rattle.ix_posting.specs.laws.Wholes.{IsWhole, whole_parts}

module _ {P : Type 0} (form : PlaceForm P) where
  -- what it begins with, and its places, are the bytes of a document
  parted : (before : ℕ) (d : RowDocument P) → document_head before d.document (length d.places) ++ places_bytes form form.origin d.places ≡ document_bytes form before d
  parted before d = append_assoc (varint (d.document - before)) (varint (length d.places)) (places_bytes form form.origin d.places)

  document_stands : (bytes : List ℕ) (before at : ℕ) (d : RowDocument P) (next : ℕ) → IsDocumentAt form bytes before at d next → StandsAt bytes at (document_bytes form before d) next
  document_stands bytes before at d next is =
      subst (λ (b : List ℕ). StandsAt bytes at b next) (parted before d)
      (joined bytes at (document_head before d.document (length d.places)) is.start (places_bytes form form.origin d.places) next (head_whole bytes before at d.document (length d.places) is.start is.head) is.places.stand)

  document_is : (bytes : List ℕ) (before at : ℕ) (d : RowDocument P) (next : ℕ) → before < d.document → d.document < 2 ^ 32 → 1 ≤ length d.places → length d.places < 2 ^ 32 → PlacesRise form form.origin d.places
      → StandsAt bytes at (document_bytes form before d) next → IsDocumentAt form bytes before at d next
  document_is bytes before at d next rises small some few rise stands =
      let head : List ℕ = document_head before d.document (length d.places) in
      let its : List ℕ = places_bytes form form.origin d.places in
      let all : StandsAt bytes at (head ++ its) next = subst (λ (b : List ℕ). StandsAt bytes at b next) (sym (parted before d)) stands in
      record {
        start = at + length head;
        head = head_parts bytes before at d.document (length d.places) (at + length head) rises small some few (first_part bytes at head its next all);
        places = record { many = refl; rise = rise; stand = second_part bytes at head its next all };
      }

  abbrev with_places : ℕ → List P → RowDocument P
  with_places n ps = record { document = n; places = ps }

  document_alone : IsForm form → (bytes : List ℕ) (before at : ℕ) (d : RowDocument P) (i : ℕ) (e : RowDocument P) (j : ℕ) → IsDocumentAt form bytes before at d i → IsDocumentAt form bytes before at e j → (d ≡ e) × (i ≡ j)
  document_alone lawful bytes before at d i e j first second =
      let head = head_alone bytes before at d.document (length d.places) first.start e.document (length e.places) second.start first.head second.head in
      let mine : ArePlacesAt form bytes form.origin second.start (length e.places) d.places i = rw (← head.1, ← head.2) first.places in
      let same = many_alone (IsPlaceAt form bytes) (ArePlacesAt form bytes) (λ p. p) (places form lawful bytes) (length e.places) form.origin second.start d.places i e.places j mine second.places in
      (ap (λ n. with_places n d.places) head.0 ∙ ap (with_places e.document) same.0, same.1)

  pub documents : IsForm form → (bytes : List ℕ) → AreItems (IsDocumentAt form bytes) (AreDocumentsAt form bytes) (λ d. d.document)
  documents lawful bytes = items_of (IsDocumentAt form bytes) (DocumentsRise form) (documents_bytes form) (document_bytes form) (λ d. d.document) bytes record {
    none = λ before. tt;
    no_bytes = λ before. refl;
    more_bytes = λ before d ds. refl;
    stands = document_stands bytes;
    rises = λ before at d next ds is others. (is.head.number.follows, is.head.number.alone, is.head.some, is.head.places.small, is.places.rise, others);
    one = λ before at d next ds rise stands. document_is bytes before at d next rise.0 rise.1 rise.2 rise.3 rise.4 stands;
    others = λ before d ds rise. rise.5;
    alone = document_alone lawful bytes;
  }

  pub row_parts : (bytes : List ℕ) (row : List (RowDocument P)) → IsPostingRowOf form row → posting_bytes_of form row ≡ bytes → IsWhole (AreDocumentsAt form bytes) bytes row
  row_parts bytes row is spelt = whole_parts (DocumentsRise form) (documents_bytes form) bytes row is.few is.rise spelt
