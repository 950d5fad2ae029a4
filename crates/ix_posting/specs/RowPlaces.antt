-- A document of a row, and those behind it.
use Rattle.std.specs.Prelude.{ℕ, ◌≡◌, List, [], ◌∷◌, length, Option, Some, None, refl}
use Rattle.std.proofs.Common.{sym, ap, ◌∙◌}
use Rattle.std.proofs.Math.Logic.{∥∥₁_elim, ∥∥₁_prop}
use mathlib.Core.HLevel.{Σ_prop_path}
use Rattle.ix_posting.specs.Forms.{PlaceForm}
use Rattle.ix_posting.specs.Rows.{WordDocument}
use Rattle.ix_posting.specs.Places.{IsForm, IsPlaceAt, ArePlacesAt, IsDocumentAt, AreDocumentsAt}
use Rattle.ix_posting.specs.Encoded.{same_row}
use Rattle.ix_posting.specs.laws.Items.{many_alone}
use Rattle.ix_posting.specs.laws.Places.{places}
use Rattle.ix_posting.specs.laws.Documents.{documents}
use Rattle.ix_posting.specs.declared.reading.Head.{Head}
use Rattle.ix_posting.specs.declared.rows.RowDocument.{RowDocument}

module _ {P : Type 0} where
  -- the number of the first document; None where there is none
  abbrev pub first_number : List (RowDocument P) → Option ℕ
  first_number [] = None
  first_number (d ∷ ds) = Some d.document

  -- the documents behind the first
  abbrev pub behind_first : List (RowDocument P) → List (RowDocument P)
  behind_first [] = []
  behind_first (d ∷ ds) = ds

  -- the places of the first document
  abbrev pub places_of_first : List (RowDocument P) → List P
  places_of_first [] = []
  places_of_first (d ∷ ds) = d.places

module _ {P : Type 0} (form : PlaceForm P) where
  abbrev with_places : ℕ → List P → RowDocument P
  with_places n ps = record { document = n; places = ps }

  -- Of these documents the first has this number and so many places, which stand from `head.next` on, and so many others stand behind these to the end of the bytes.
  pub record AreFrom (bytes : List ℕ) (head : Head) (left : ℕ) (ds : List (RowDocument P)) : Type 0 where
    pub ps : List P
    pub rest : List (RowDocument P)
    pub mid : ℕ
    pub whole : ds ≡ with_places head.document ps ∷ rest
    pub places : ArePlacesAt form bytes form.origin head.next head.count ps mid
    pub others : AreDocumentsAt form bytes head.document mid left rest (length bytes)

  -- THE DOCUMENTS FROM A PLACE ON, of which there is one list at most
  abbrev pub StandsFrom : List ℕ → Head → ℕ → Type 0
  StandsFrom bytes head left = (ds : List (RowDocument P)) × ∥ AreFrom bytes head left ds ∥₁

  pub from_alone : IsForm form → (bytes : List ℕ) (head : Head) (left : ℕ) (ds es : List (RowDocument P)) → AreFrom bytes head left ds → AreFrom bytes head left es → ds ≡ es
  from_alone lawful bytes head left ds es a b =
      let first = many_alone (IsPlaceAt form bytes) (ArePlacesAt form bytes) (λ p. p) (places form lawful bytes) head.count form.origin head.next a.ps a.mid b.ps b.mid a.places b.places in
      let mine : AreDocumentsAt form bytes head.document b.mid left a.rest (length bytes) = rw (← first.1) a.others in
      let others = many_alone (IsDocumentAt form bytes) (AreDocumentsAt form bytes) (λ d. d.document) (documents form lawful bytes) left head.document b.mid a.rest (length bytes) b.rest (length bytes) mine b.others in
      a.whole ∙ ap (λ ps. with_places head.document ps ∷ a.rest) first.0 ∙ ap (λ rest. with_places head.document b.ps ∷ rest) others.0 ∙ sym b.whole

  pub one_from : IsForm form → (bytes : List ℕ) (head : Head) (left : ℕ) → IsProp (StandsFrom bytes head left)
  one_from lawful bytes head left x y =
      Σ_prop_path (λ _. ∥∥₁_prop) (∥∥₁_elim x.1 (same_row form lawful x.0 y.0) (λ h. ∥∥₁_elim y.1 (same_row form lawful x.0 y.0) (λ k. from_alone lawful bytes head left x.0 y.0 h k)))

-- ---- computed examples: the documents 3 and 8

abbrev at_one : ℕ → WordDocument
at_one document = record { document = document; places = 1 ∷ [] }

the_first : first_number (at_one 3 ∷ at_one 8 ∷ []) ≡ Some 3
the_first = refl

the_others : behind_first (at_one 3 ∷ at_one 8 ∷ []) ≡ at_one 8 ∷ []
the_others = refl

its_places : places_of_first (at_one 3 ∷ at_one 8 ∷ []) ≡ 1 ∷ []
its_places = refl
