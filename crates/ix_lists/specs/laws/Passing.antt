-- What is left where documents are passed, the places of each document, and where the first of them is.
use Rattle.std.specs.Prelude.{ℕ, ◌≡◌, ◌≤◌, ◌<◌, Bool, true, false, nat_lt, eqb, List, [], ◌∷◌, refl}
use Rattle.std.proofs.Common.{sym, ap, ◌∙◌, arith}
use Rattle.std.specs.Bool.{if◌then◌else◌}
use Rattle.std.proofs.lemmas.Bool.{ne_eqb, eq-eqb, ltb-true, ltb-false}
use Rattle.ix_posting.specs.Forms.{PlaceForm}
use Rattle.ix_posting.specs.Rows.{DocumentsRise}
use Rattle.ix_posting.specs.declared.rows.RowDocument.{RowDocument}
use Rattle.ix_lists.specs.Documents.{from_on, places_at, first_document}
use Rattle.ix_lists.specs.Seeking.{SameFrom, has_any, BoundsFrom}
use Rattle.ix_lists.specs.laws.Seeking.{any_of_some}

module _ {P : Type 0} where
  -- Passing documents leaves what each document from there on has
  pub from_on_same : (to : ℕ) (ds : List (RowDocument P)) → SameFrom to (places_at ds) (places_at (from_on to ds))
  from_on_same to [] d le = refl
  from_on_same to (x ∷ xs) d le = go (from_on_same to xs d le) (nat_lt x.document to) refl
    where
      go : places_at (from_on to xs) d ≡ places_at xs d → (t : Bool) → nat_lt x.document to ≡ t → places_at (if t then from_on to xs else x ∷ xs) d ≡ places_at (x ∷ xs) d
      go rest true e =
          let before = ltb-true x.document to e in
          let other : eqb x.document d ≡ false = ne_eqb x.document d (λ same. omega (arith, before, le, same)) in
          rest ∙ sym (ap (λ (t : Bool). if t then x.places else places_at xs d) other)
      go rest false e = refl

  -- the first that is left doesn't stand before the number
  abbrev number_of_first : List (RowDocument P) → ℕ
  number_of_first [] = 0
  number_of_first (d ∷ ds) = d.document

  from_on_least : (to : ℕ) (ds : List (RowDocument P)) (x : RowDocument P) (xs : List (RowDocument P)) → x ∷ xs ≡ from_on to ds → to ≤ x.document
  from_on_least to [] x xs e = let none : x ∷ xs ≡ [] = e in cc
  from_on_least to (y ∷ ys) x xs e = go (from_on_least to ys x xs) (nat_lt y.document to) refl e
    where
      go : (x ∷ xs ≡ from_on to ys → to ≤ x.document) → (t : Bool) → nat_lt y.document to ≡ t → x ∷ xs ≡ (if t then from_on to ys else y ∷ ys) → to ≤ x.document
      go rest true before is = rest is
      go rest false late is =
          let le = ltb-false y.document to late in
          let same : x.document ≡ y.document = ap number_of_first is in
          omega (arith, le, same)

module _ {P : Type 0} (form : PlaceForm P) where
  pub places_at_none : (b : ℕ) (ds : List (RowDocument P)) (d : ℕ) → DocumentsRise form b ds → d ≤ b → places_at ds d ≡ []
  places_at_none b [] d h le = refl
  places_at_none b (x ∷ xs) d h le =
      let first = h.0 in
      let other : eqb x.document d ≡ false = ne_eqb x.document d (λ same. omega (arith, first, le, same)) in
      ap (λ (t : Bool). if t then x.places else places_at xs d) other ∙ places_at_none x.document xs d h.5 (omega (arith, first, le))

  -- before the first document there is none
  places_at_before : (b : ℕ) (x : RowDocument P) (xs : List (RowDocument P)) (d : ℕ) → DocumentsRise form b (x ∷ xs) → d < x.document → places_at (x ∷ xs) d ≡ []
  places_at_before b x xs d h before =
      let other : eqb x.document d ≡ false = ne_eqb x.document d (λ same. omega (arith, before, same)) in
      ap (λ (t : Bool). if t then x.places else places_at xs d) other ∙ places_at_none x.document xs d h.5 (omega (arith, before))

  -- The first that is left bounds where there is any
  pub first_places_at_bound : (to : ℕ) (old new : List (RowDocument P)) → new ≡ from_on to old → DocumentsRise form 0 new → BoundsFrom to (λ d. has_any (places_at new d)) (first_document new)
  first_places_at_bound to old [] is rise = λ d le. refl
  first_places_at_bound to old (x ∷ xs) is rise = (λ d le lt. ap has_any (places_at_before 0 x xs d rise lt), here)
    where
      here : x.document ≤ to → has_any (places_at (x ∷ xs) to) ≡ true
      here le =
          let least = from_on_least to old x xs is in
          let same : eqb x.document to ≡ true = eq-eqb x.document to (omega (arith, le, least)) in
          ap (λ (t : Bool). has_any (if t then x.places else places_at xs to)) same ∙ any_of_some x.places rise.2
