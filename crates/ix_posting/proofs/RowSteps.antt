-- Rows by their bytes: the last document, the first, and those from a place on.
use Rattle.std.proofs.Common.{◌≡◌, ℕ, suc, ◌+◌, ◌-◌, ◌≤◌, List, [], ◌∷◌, ◌++◌, length, drop, Some, sym, ap, ◌∙◌, subst, arith}
use Rattle.std.proofs.lemmas.List.{append-nil, drop_all}
use Rattle.std.proofs.Math.Logic.{∥∥₁_elim, ∥∥₁_prop}
use Rattle.std.specs.Coded.{×_prop, Unit-prop, le_prop}
use Rattle.ct_bytes.specs.Varints.{varint, IsVarintAt}
use Rattle.ix_posting.specs.Forms.{PlaceForm}
use Rattle.ix_posting.specs.Rows.{DocumentsRise, IsPostingRowOf, documents_bytes, posting_bytes_of}
use Rattle.ix_posting.specs.Places.{StandsAt, IsForm, IsHeadAt, IsPlaceAt, ArePlacesAt, IsDocumentAt, AreDocumentsAt}
use Rattle.ix_posting.specs.Passed.{last_number, NoneBehind, HasPlacesAt, HasDocumentsAt, EndsAt}
use Rattle.ix_posting.specs.RowPlaces.{first_number, behind_first, places_of_first, AreFrom, StandsFrom, from_alone}
use Rattle.ix_posting.specs.Encoded.{IsMereRow, SpeltRow, same_row}
use Rattle.ix_posting.specs.laws.Items.{ItemAndRest, many_alone}
use Rattle.ix_posting.specs.laws.Documents.{documents, row_parts}
use Rattle.ix_posting.specs.laws.Places.{places}
use Rattle.ix_posting.specs.laws.Heads.{head_alone}
use Rattle.ix_posting.specs.laws.Wholes.{whole_rest}
use Rattle.ix_posting.specs.laws.Standing.{varint_stands, joined}
use Rattle.ix_posting.specs.declared.reading.Head.{Head}
use Rattle.ix_posting.specs.declared.rows.RowDocument.{RowDocument}

module _ {P : Type 0} where
  -- no document of rising ones stands behind the last
  last_least : (form : PlaceForm P) (b : ℕ) (ds : List (RowDocument P)) → DocumentsRise form b ds → b ≤ last_number b ds
  last_least form b [] rise = omega arith
  last_least form b (d ∷ ds) rise = let first = rise.0 in let more = last_least form d.document ds rise.5 in omega (arith, first, more)

  pub none_behind : (form : PlaceForm P) (b : ℕ) (ds : List (RowDocument P)) → DocumentsRise form b ds → NoneBehind (last_number b ds) ds
  none_behind form b [] rise = tt
  none_behind form b (d ∷ ds) rise = (last_least form d.document ds rise.5, none_behind form d.document ds rise.5)

  pub one_none_behind : (last : ℕ) (ds : List (RowDocument P)) → IsProp (NoneBehind last ds)
  one_none_behind last [] = Unit-prop
  one_none_behind last (d ∷ ds) = ×_prop le_prop (one_none_behind last ds)

module _ {P : Type 0} (form : PlaceForm P) (lawful : IsForm form) (bytes : List ℕ) where
  -- so many documents to the end of the bytes, behind their number, are a row
  pub whole_row : (count start last next : ℕ) → IsVarintAt bytes 0 count start → HasDocumentsAt form bytes start count last next → 1 ≤ count → next ≡ length bytes → EndsAt form bytes last
  whole_row count start last next is has some end =
      let ds = has.0 in
      let many = has.2.many in
      let all : StandsAt bytes 0 (varint count ++ documents_bytes form 0 ds) next = joined bytes 0 (varint count) start (documents_bytes form 0 ds) next (varint_stands bytes 0 count start is) has.2.stand in
      let spelt : bytes ≡ varint count ++ documents_bytes form 0 ds =
      all.spelt ∙ ap (λ (n : ℕ). (varint count ++ documents_bytes form 0 ds) ++ drop n bytes) end ∙ ap (λ (l : List ℕ). (varint count ++ documents_bytes form 0 ds) ++ l) (drop_all (length bytes) bytes (omega arith)) ∙ append-nil (varint count ++ documents_bytes form 0 ds) in
      let few = is.small in
      (ds, record { some = omega (arith, many, some); few = omega (arith, many, few); rise = has.2.rise }, ap (λ (n : ℕ). varint n ++ documents_bytes form 0 ds) many ∙ sym spelt, has.1)

  pub ends_spell : (last : ℕ) → EndsAt form bytes last → SpeltRow form bytes
  ends_spell last ends = (ends.0, ∣ (ends.1, ends.2) ∣₁)

  -- the documents from one on whose beginning was read
  pub from_items : (before at left : ℕ) (head : Head) (ds : List (RowDocument P)) → AreDocumentsAt form bytes before at (suc left) ds (length bytes) → IsHeadAt bytes before at head.document head.count head.next → AreFrom form bytes head left ds
  from_items before at left head ds many is =
      let p : ItemAndRest (IsDocumentAt form bytes) (AreDocumentsAt form bytes) (λ d. d.document) before at left ds (length bytes) = (documents form lawful bytes).parts before at left ds (length bytes) many in
      let one : IsDocumentAt form bytes before at p.first p.mid = p.one in
      let same = head_alone bytes before at p.first.document (length p.first.places) one.start head.document head.count head.next one.head is in
      record {
        ps = p.first.places;
        rest = p.rest;
        mid = p.mid;
        whole = p.whole ∙ ap (λ (n : ℕ). record { document = n; places = p.first.places } ∷ p.rest) same.0;
        places = rw (← same.1, ← same.2) one.places;
        others = subst (λ (n : ℕ). AreDocumentsAt form bytes n p.mid left p.rest (length bytes)) same.0 p.others;
      }

  module _ (row : List (RowDocument P)) (is_row : IsPostingRowOf form row) (spelt : posting_bytes_of form row ≡ bytes) where
    pub no_count : ((n next : ℕ) → IsVarintAt bytes 0 n next → ⊥) → ⊥
    no_count none = let whole = row_parts form bytes row is_row spelt in none _ _ whole.count

    all_at : (count start : ℕ) → IsVarintAt bytes 0 count start → AreDocumentsAt form bytes 0 start count row (length bytes)
    all_at count start is = whole_rest (AreDocumentsAt form bytes) bytes count start row is (row_parts form bytes row is_row spelt)

    some_at : (count start : ℕ) → IsVarintAt bytes 0 count start → AreDocumentsAt form bytes 0 start (suc (count - 1)) row (length bytes)
    some_at count start is =
        let all = all_at count start is in
        let many = all.many in
        let some = is_row.some in
        let same : count ≡ suc (count - 1) = omega (arith, many, some) in
        subst (λ (n : ℕ). AreDocumentsAt form bytes 0 start n row (length bytes)) same all

    pub no_head : (count start : ℕ) → IsVarintAt bytes 0 count start → ((document many next : ℕ) → IsHeadAt bytes 0 start document many next → ⊥) → ⊥
    no_head count start is none =
        let p = (documents form lawful bytes).parts 0 start (count - 1) row (length bytes) (some_at count start is) in
        let one : IsDocumentAt form bytes 0 start p.first p.mid = p.one in
        none _ _ _ one.head

    pub row_from : (count start : ℕ) (head : Head) → IsVarintAt bytes 0 count start → IsHeadAt bytes 0 start head.document head.count head.next → AreFrom form bytes head (count - 1) row
    row_from count start head is first = from_items 0 start (count - 1) head row (some_at count start is) first

  -- ---- the documents from a place on

  pub from_number : (head : Head) (left : ℕ) (ds : List (RowDocument P)) → AreFrom form bytes head left ds → first_number ds ≡ Some head.document
  from_number head left ds from = ap first_number from.whole

  pub no_next : (head : Head) (left : ℕ) (ds : List (RowDocument P)) → AreFrom form bytes head left ds → ((ps : List P) (next : ℕ) → ArePlacesAt form bytes form.origin head.next head.count ps next → ⊥) → ⊥
  no_next head left ds from none = none from.ps from.mid from.places

  pub none_left : (head : Head) (left : ℕ) (ds : List (RowDocument P)) → AreFrom form bytes head left ds → left ≡ 0 → behind_first ds ≡ []
  none_left head left ds from none =
      let others : AreDocumentsAt form bytes head.document from.mid 0 from.rest (length bytes) = rw (← none) from.others in
      ap behind_first from.whole ∙ ((documents form lawful bytes).ended head.document from.mid from.rest (length bytes) others).0

  -- where the next document begins
  next_at : (head : Head) (left mid : ℕ) (ds : List (RowDocument P)) → AreFrom form bytes head left ds → HasPlacesAt form bytes head.next head.count mid → (left ≡ 0 → ⊥) → AreDocumentsAt form bytes head.document mid (suc (left - 1)) (behind_first ds) (length bytes)
  next_at head left mid ds from has some =
      let same = many_alone (IsPlaceAt form bytes) (ArePlacesAt form bytes) (λ p. p) (places form lawful bytes) head.count form.origin head.next from.ps from.mid has.0 mid from.places has.1 in
      let count : left ≡ suc (left - 1) = omega (arith, some) in
      let here : AreDocumentsAt form bytes head.document mid left from.rest (length bytes) = subst (λ (n : ℕ). AreDocumentsAt form bytes head.document n left from.rest (length bytes)) same.1 from.others in
      subst (λ (l : List (RowDocument P)). AreDocumentsAt form bytes head.document mid (suc (left - 1)) l (length bytes)) (sym (ap behind_first from.whole)) (subst (λ (n : ℕ). AreDocumentsAt form bytes head.document mid n from.rest (length bytes)) count here)

  pub no_head_behind : (head : Head) (left mid : ℕ) (ds : List (RowDocument P)) → AreFrom form bytes head left ds → HasPlacesAt form bytes head.next head.count mid → (left ≡ 0 → ⊥) → ((document many next : ℕ) → IsHeadAt bytes head.document mid document many next → ⊥) → ⊥
  no_head_behind head left mid ds from has some none =
      let p = (documents form lawful bytes).parts head.document mid (left - 1) (behind_first ds) (length bytes) (next_at head left mid ds from has some) in
      let one : IsDocumentAt form bytes head.document mid p.first p.mid = p.one in
      none _ _ _ one.head

  pub next_from : (head next : Head) (left mid : ℕ) (ds : List (RowDocument P)) → AreFrom form bytes head left ds → HasPlacesAt form bytes head.next head.count mid → (left ≡ 0 → ⊥) → IsHeadAt bytes head.document mid next.document next.count next.next → AreFrom form bytes next (left - 1) (behind_first ds)
  next_from head next left mid ds from has some is = from_items head.document mid (left - 1) next (behind_first ds) (next_at head left mid ds from has some) is

  -- the places of the first, read once more
  pub places_from : (head : Head) (left next : ℕ) (ds : List (RowDocument P)) (ps : List P) → AreFrom form bytes head left ds → ArePlacesAt form bytes form.origin head.next head.count ps next → ps ≡ places_of_first ds
  places_from head left next ds ps from are =
      let same = many_alone (IsPlaceAt form bytes) (ArePlacesAt form bytes) (λ p. p) (places form lawful bytes) head.count form.origin head.next ps next from.ps from.mid are from.places in
      same.0 ∙ sym (ap places_of_first from.whole)

  -- ---- places as they are kept

  -- the first of a row
  abbrev pub stands_first : (kept : List ℕ) (row : List (RowDocument P)) (count start left : ℕ) (head : Head) → bytes ≡ kept → left ≡ count - 1 → IsMereRow form row → posting_bytes_of form row ≡ bytes → IsVarintAt bytes 0 count start → IsHeadAt bytes 0 start head.document head.count head.next → StandsFrom form kept head left
  stands_first kept row count start left head same others is spelt first its =
      (row, ∥∥₁_elim is ∥∥₁_prop (λ is_row. ∣ subst (λ (n : ℕ). AreFrom form kept head n row) (sym others) (subst (λ (b : List ℕ). AreFrom form b head (count - 1) row) same (row_from row is_row spelt count start head first its)) ∣₁))

  -- the next one
  abbrev pub stands_next : (kept : List ℕ) (head next : Head) (left mid : ℕ) → kept ≡ bytes → (from : StandsFrom form kept head left) → HasPlacesAt form bytes head.next head.count mid → (left ≡ 0 → ⊥) → IsHeadAt bytes head.document mid next.document next.count next.next → StandsFrom form kept next (left - 1)
  stands_next kept head next left mid same from has some is =
      (behind_first from.0, ∥∥₁_elim from.1 ∥∥₁_prop (λ h. ∣ subst (λ (b : List ℕ). AreFrom form b next (left - 1) (behind_first from.0)) (sym same) (next_from head next left mid from.0 (subst (λ (b : List ℕ). AreFrom form b head left from.0) same h) has some is) ∣₁))

-- the documents from a place on are the same, however they are kept
pub alone_kept : {P : Type 0} (form : PlaceForm P) → IsForm form → (b kept : List ℕ) → b ≡ kept → (head : Head) (left : ℕ) (x : StandsFrom form b head left) (y : StandsFrom form kept head left) → x.0 ≡ y.0
alone_kept form lawful b kept same head left x y =
    ∥∥₁_elim x.1 (same_row form lawful x.0 y.0)
    (λ h. ∥∥₁_elim y.1 (same_row form lawful x.0 y.0) (λ k. from_alone form lawful kept head left x.0 y.0 (subst (λ (l : List ℕ). AreFrom form l head left x.0) same h) k))
