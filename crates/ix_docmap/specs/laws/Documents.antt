-- What notes and synchronisations make of the map and the queue of an index.
use Rattle.std.specs.Prelude.{ℕ, ℤ, ◌≡◌, ◌==◌, ◌+◌, ◌≤◌, ◌<◌, ◌^◌, Bool, true, false, cond, ◌&&◌, List, [], ◌∷◌, Option, Some, None, is_some, refl, length}
use Rattle.std.specs.Int.{to_be_bytes, w32}
use Rattle.std.specs.Option.{option_map}
use Rattle.std.specs.Ordering.{int_eq}
use Rattle.std.proofs.Common.{sym, ap, ◌∙◌, arith, subst, inl, inr}
use Rattle.std.proofs.lemmas.Bool.{eqb-true, eq-eqb, ne_eqb}
use Rattle.ct_bytes.specs.RowKeys.{row_bytes}
use Rattle.ct_entry.specs.declared.kinds.Kind.{Kind}
use Rattle.ct_entry.specs.declared.kinds.Kind.TheVariants as kind
use Rattle.ct_entry.specs.Keys.{Key, key, same_key, same_list, row_part, document_part, IsRow, IsDocument}
use Rattle.ct_entry.specs.Changes.{view, AllOf}
use Rattle.ct_entry.specs.laws.Keys.{list_same}
use Rattle.ct_entry.specs.laws.Parts.{same_kind, rows_tie, documents_tie, int_from_eq, int_same}
use Rattle.ix_docmap.specs.Marks.{Mark, Pending, Settled, is_settled, MapStands, queued, AreNumbers, Marks}
use Rattle.ct_entry.specs.Each.{numbered, with_rows}
use Rattle.ct_entry.specs.laws.Each.{all_each}
use Rattle.ct_entry.specs.laws.Changes.{view-append}
use Rattle.ct_entry.specs.Lists.{IsIn, AreApart}
use Rattle.ix_docmap.specs.Changes.{unmark_changes, map_settle_changes, map_changes}

-- ---- marks with another one

abbrev pub with_mark : ℤ → Option (Mark (Unit {0})) → Marks → ℤ → Option (Mark (Unit {0}))
with_mark r m mark s = cond (int_eq s r) m (mark s)

abbrev pub with_document_of : ℤ → Option ℕ → (ℤ → Option ℕ) → ℤ → Option ℕ
with_document_of r o document s = cond (int_eq s r) o (document s)

one_some : {X : Type 0} (x y : X) → Some x ≡ Some y → x ≡ y
one_some x y e = cc

own : (k : Kind) (i p q : List ℕ) → same_key (key k i p) (key k i q) ≡ same_list p q
own k i p q = same_kind k i i p q ∙ ap (λ (b : Bool). b && same_list p q) (list_same i)

own_row : (k : Kind) (i : List ℕ) (s r : ℤ) → IsRow s → IsRow r → same_key (key k i (row_part s)) (key k i (row_part r)) ≡ int_eq s r
own_row k i s r f g = own k i (row_part s) (row_part r) ∙ rows_tie s r f g

own_document : (k : Kind) (i : List ℕ) (e d : ℕ) → IsDocument e → IsDocument d → same_key (key k i (document_part e)) (key k i (document_part d)) ≡ (e == d)
own_document k i e d f g = own k i (document_part e) (document_part d) ∙ documents_tie e d f g

maps_cond : {X : Type 0} (h : X → List ℕ) (b : Bool) (v o : Option X) → cond b (option_map h v) (option_map h o) ≡ option_map h (cond b v o)
maps_cond h true v o = refl
maps_cond h false v o = refl

-- ---- the queue

-- a row that isn't settled, and doesn't become so, has this in the queue now
pub map_queued : (f : Key → Option (List ℕ)) (i : List ℕ) (mark : Marks) (given : ℕ) (document : ℤ → Option ℕ) (row : ℕ → Option ℤ) (r : ℤ) (m : Option (Mark (Unit {0})))
    → IsRow r → is_settled (mark r) ≡ false → is_settled m ≡ false → MapStands f i mark given document row
    → MapStands (view ((key kind.Pending i (row_part r), queued m) ∷ []) f) i (with_mark r m mark) given document row
map_queued f i mark given document row r m is_row free unmarked stand = record {
  numbers = record { marked = λ s. marked s (int_eq s r) refl (stand.numbers.marked s); there = stand.numbers.there; back = stand.numbers.back; within = stand.numbers.within };
  rows = stand.rows;
  documents = stand.documents;
  queue = λ s fits.
      ap (λ (b : Bool). cond b (queued m) (f (key kind.Pending i (row_part s)))) (own_row kind.Pending i s r fits is_row)
      ∙ ap (cond (int_eq s r) (queued m)) (stand.queue s fits)
      ∙ at_mark (int_eq s r) (mark s);
}
  where
    marked : (s : ℤ) (b : Bool) → int_eq s r ≡ b → is_some (document s) ≡ is_settled (mark s) → is_some (document s) ≡ is_settled (cond b m (mark s))
    marked s true h was = was ∙ ap (λ (z : ℤ). is_settled (mark z)) (int_from_eq s r h) ∙ free ∙ sym unmarked
    marked s false h was = was

    at_mark : (b : Bool) (o : Option (Mark (Unit {0}))) → cond b (queued m) (queued o) ≡ queued (cond b m o)
    at_mark true o = refl
    at_mark false o = refl

-- ---- a row that loses its document

pub map_unmapped : (f : Key → Option (List ℕ)) (i : List ℕ) (mark : Marks) (given : ℕ) (document : ℤ → Option ℕ) (row : ℕ → Option ℤ) (r : ℤ) (d : ℕ)
    → IsRow r → IsDocument d → document r ≡ Some d → is_settled (mark r) ≡ true → MapStands f i mark given document row
    → MapStands (view (unmark_changes i d r) f) i (with_mark r None mark) given (with_document_of r None document) (λ e. cond (e == d) None (row e))
map_unmapped f i mark given document row r d is_row is_document is settled stand = record {
  numbers = record {
    marked = λ s. marked s (int_eq s r) (stand.numbers.marked s);
    there = λ s e. there s e (int_eq s r) refl;
    back = λ s e. back s e (e == d) refl;
    within = λ s e. within s e (int_eq s r);
  };
  rows = λ e doc.
      ap (λ (b : Bool). cond b None (f (key kind.DocumentRows i (document_part e)))) (own_document kind.DocumentRows i e d doc is_document)
      ∙ ap (cond (e == d) None) (stand.rows e doc) ∙ maps_cond row_bytes (e == d) None (row e);
  documents = λ s fits.
      ap (λ (b : Bool). cond b None (f (key kind.RowDocuments i (row_part s)))) (own_row kind.RowDocuments i s r fits is_row)
      ∙ ap (cond (int_eq s r) None) (stand.documents s fits) ∙ maps_cond (to_be_bytes w32) (int_eq s r) None (document s);
  queue = λ s fits. stand.queue s fits ∙ no_mark s (int_eq s r) refl;
}
  where
    marked : (s : ℤ) (b : Bool) → is_some (document s) ≡ is_settled (mark s) → is_some (cond b None (document s)) ≡ is_settled (cond b None (mark s))
    marked s true h = refl
    marked s false h = h

    there : (s : ℤ) (e : ℕ) (b : Bool) → int_eq s r ≡ b → cond b None (document s) ≡ Some e → cond (e == d) None (row e) ≡ Some s
    there s e true h at = cc
    there s e false h at = ap (λ (b : Bool). cond b None (row e)) (other (e == d) refl) ∙ stand.numbers.there s e at
      where
        other : (b : Bool) → (e == d) ≡ b → b ≡ false
        other true t =
            let one : r ≡ s = one_some r s (sym (stand.numbers.there r d is) ∙ ap row (sym (eqb-true e d t)) ∙ stand.numbers.there s e at) in
            let wrong : true ≡ false = sym (int_same r) ∙ ap (λ (z : ℤ). int_eq z r) one ∙ h in
            cc
        other false t = refl

    back : (s : ℤ) (e : ℕ) (b : Bool) → (e == d) ≡ b → cond b None (row e) ≡ Some s → cond (int_eq s r) None (document s) ≡ Some e
    back s e true h at = cc
    back s e false h at = ap (λ (b : Bool). cond b None (document s)) (other (int_eq s r) refl) ∙ stand.numbers.back s e at
      where
        other : (b : Bool) → int_eq s r ≡ b → b ≡ false
        other true t =
            let one : d ≡ e = one_some d e (sym is ∙ ap document (sym (int_from_eq s r t)) ∙ stand.numbers.back s e at) in
            let wrong : true ≡ false = sym (eq-eqb e d (sym one)) ∙ h in
            cc
        other false t = refl

    within : (s : ℤ) (e : ℕ) (b : Bool) → cond b None (document s) ≡ Some e → (1 ≤ e) × (e ≤ given)
    within s e true at = cc
    within s e false at = stand.numbers.within s e at

    no_queue : (o : Option (Mark (Unit {0}))) → is_settled o ≡ true → queued o ≡ None
    no_queue None h = cc
    no_queue (Some Pending) h = cc
    no_queue (Some (Settled a)) h = refl

    no_mark : (s : ℤ) (b : Bool) → int_eq s r ≡ b → queued (mark s) ≡ queued (cond b None (mark s))
    no_mark s true h = ap (λ (z : ℤ). queued (mark z)) (int_from_eq s r h) ∙ no_queue (mark r) settled
    no_mark s false h = refl

-- ---- a row that becomes the next document

-- no document was given that is above
pub not_given : (is_marked : ℤ → Bool) (given : ℕ) (document : ℤ → Option ℕ) (row : ℕ → Option ℤ) → AreNumbers is_marked given document row → (d : ℕ) → given < d → row d ≡ None
not_given is_marked given document row are d more = go (row d) refl
  where
    go : (o : Option ℤ) → row d ≡ o → o ≡ None
    go None is = refl
    go (Some r) is = let within = (are.within r d (are.back r d is)).1 in absurd (omega (arith, within))

pub map_settled : (f : Key → Option (List ℕ)) (i : List ℕ) (mark : Marks) (given : ℕ) (document : ℤ → Option ℕ) (row : ℕ → Option ℤ) (r : ℤ)
    → IsRow r → given + 1 < 2 ^ 32 → is_settled (mark r) ≡ false → MapStands f i mark given document row
    → MapStands (view (map_settle_changes i (given + 1, r)) f) i (with_mark r (Some (Settled tt)) mark) (given + 1) (with_document_of r (Some (given + 1)) document) (λ e. cond (e == given + 1) (Some r) (row e))
map_settled f i mark given document row r is_row room free stand = record {
  numbers = record {
    marked = λ s. marked s (int_eq s r) (stand.numbers.marked s);
    there = λ s e. there s e (int_eq s r) refl;
    back = λ s e. back s e (e == given + 1) refl;
    within = λ s e. within s e (int_eq s r);
  };
  rows = λ e doc.
      ap (λ (b : Bool). cond b (Some (row_bytes r)) (f (key kind.DocumentRows i (document_part e)))) (own_document kind.DocumentRows i e (given + 1) doc room)
      ∙ ap (cond (e == given + 1) (Some (row_bytes r))) (stand.rows e doc) ∙ maps_cond row_bytes (e == given + 1) (Some r) (row e);
  documents = λ s fits.
      ap (λ (b : Bool). cond b (Some (to_be_bytes w32 (given + 1))) (f (key kind.RowDocuments i (row_part s)))) (own_row kind.RowDocuments i s r fits is_row)
      ∙ ap (cond (int_eq s r) (Some (to_be_bytes w32 (given + 1)))) (stand.documents s fits) ∙ maps_cond (to_be_bytes w32) (int_eq s r) (Some (given + 1)) (document s);
  queue = λ s fits.
      ap (λ (b : Bool). cond b None (f (key kind.Pending i (row_part s)))) (own_row kind.Pending i s r fits is_row)
      ∙ ap (cond (int_eq s r) None) (stand.queue s fits) ∙ at_mark (int_eq s r) (mark s);
}
  where
    at_mark : (b : Bool) (o : Option (Mark (Unit {0}))) → cond b None (queued o) ≡ queued (cond b (Some (Settled tt)) o)
    at_mark true o = refl
    at_mark false o = refl

    marked : (s : ℤ) (b : Bool) → is_some (document s) ≡ is_settled (mark s) → is_some (cond b (Some (given + 1)) (document s)) ≡ is_settled (cond b (Some (Settled tt)) (mark s))
    marked s true h = refl
    marked s false h = h

    there : (s : ℤ) (e : ℕ) (b : Bool) → int_eq s r ≡ b → cond b (Some (given + 1)) (document s) ≡ Some e → cond (e == given + 1) (Some r) (row e) ≡ Some s
    there s e true h at =
        let one : given + 1 ≡ e = one_some (given + 1) e at in
        ap (λ (b : Bool). cond b (Some r) (row e)) (eq-eqb e (given + 1) (sym one)) ∙ ap (λ (z : ℤ). Some z) (sym (int_from_eq s r h))
    there s e false h at =
        let low = (stand.numbers.within s e at).1 in
        ap (λ (b : Bool). cond b (Some r) (row e)) (ne_eqb e (given + 1) (λ one. omega (arith, low, one))) ∙ stand.numbers.there s e at

    other : (s : ℤ) (e : ℕ) (b : Bool) → int_eq s r ≡ b → document s ≡ Some e → b ≡ false
    other s e true h at =
        let here : is_settled (mark r) ≡ true = ap (λ (z : ℤ). is_settled (mark z)) (sym (int_from_eq s r h)) ∙ sym (stand.numbers.marked s) ∙ ap is_some at in
        let wrong : true ≡ false = sym here ∙ free in
        cc
    other s e false h at = refl

    back : (s : ℤ) (e : ℕ) (b : Bool) → (e == given + 1) ≡ b → cond b (Some r) (row e) ≡ Some s → cond (int_eq s r) (Some (given + 1)) (document s) ≡ Some e
    back s e true h at =
        let one : r ≡ s = one_some r s at in
        ap (λ (b : Bool). cond b (Some (given + 1)) (document s)) (ap (λ (z : ℤ). int_eq z r) (sym one) ∙ int_same r) ∙ ap (λ (n : ℕ). Some n) (sym (eqb-true e (given + 1) h))
    back s e false h at = let was = stand.numbers.back s e at in ap (λ (b : Bool). cond b (Some (given + 1)) (document s)) (other s e (int_eq s r) refl was) ∙ was

    within : (s : ℤ) (e : ℕ) (b : Bool) → cond b (Some (given + 1)) (document s) ≡ Some e → (1 ≤ e) × (e ≤ given + 1)
    within s e true at = let one : given + 1 ≡ e = one_some (given + 1) e at in (omega (arith, one), omega (arith, one))
    within s e false at = let old = stand.numbers.within s e at in (old.0, omega (arith, old.1))

-- ---- which entries matter

abbrev pub is_of_map : Kind → Bool
is_of_map kind.DocumentRows = true
is_of_map kind.RowDocuments = true
is_of_map kind.Pending = true
is_of_map k = false

pub map_agree : (f g : Key → Option (List ℕ)) (i : List ℕ) (mark : ℤ → Option (Mark (Unit {0}))) (given : ℕ) (document : ℤ → Option ℕ) (row : ℕ → Option ℤ)
    → ((k : Key) → is_of_map k.kind ≡ true → g k ≡ f k) → MapStands f i mark given document row → MapStands g i mark given document row
map_agree f g i mark given document row same stand = record {
  numbers = stand.numbers;
  rows = λ d doc. same _ refl ∙ stand.rows d doc;
  documents = λ r fits. same _ refl ∙ stand.documents r fits;
  queue = λ r fits. same _ refl ∙ stand.queue r fits;
}

-- ---- a synchronisation

-- each of these rows is settled
abbrev pub settled_in : List ℤ → Marks → Marks
settled_in [] mark = mark
settled_in (r ∷ rs) mark = settled_in rs (with_mark r (Some (Settled tt)) mark)

abbrev pub AllFree : Marks → List ℤ → Type 0
AllFree mark [] = Unit {0}
AllFree mark (r ∷ rs) = IsRow r × (is_settled (mark r) ≡ false) × AllFree mark rs

still_free : (mark : Marks) (r : ℤ) (rs : List ℤ) → (IsIn r rs → ⊥) → AllFree mark rs → AllFree (with_mark r (Some (Settled tt)) mark) rs
still_free mark r [] apart free = tt
still_free mark r (s ∷ rs) apart free = (free.0, at (int_eq s r) refl, still_free mark r rs (λ h. apart (inr h)) free.2)
  where
    at : (b : Bool) → int_eq s r ≡ b → is_settled (cond b (Some (Settled tt)) (mark s)) ≡ false
    at true e = absurd (apart (inl (sym (int_from_eq s r e))))
    at false e = free.1

-- numbers one after the other, or at once
rows_once : (rs : List ℤ) (row : ℕ → Option ℤ) (given k : ℕ) (r : ℤ) (d : ℕ) → k ≤ given
    → with_rows given rs (λ e. cond (e == k) (Some r) (row e)) d ≡ cond (d == k) (Some r) (with_rows given rs row d)
rows_once [] row given k r d low = refl
rows_once (s ∷ rs) row given k r d low =
    ap (cond (d == given + 1) (Some s)) (rows_once rs row (given + 1) k r d (omega (arith, low))) ∙ turn (d == given + 1) (d == k) refl refl
  where
    turn : (a b : Bool) → (d == given + 1) ≡ a → (d == k) ≡ b → cond a (Some s) (cond b (Some r) (with_rows (given + 1) rs row d)) ≡ cond b (Some r) (cond a (Some s) (with_rows (given + 1) rs row d))
    turn true true h g = let one = eqb-true d (given + 1) h in let two = eqb-true d k g in absurd (omega (arith, one, two, low))
    turn true false h g = refl
    turn false true h g = refl
    turn false false h g = refl

-- the documents after each of these rows has become one
pub record MapsAfter (f : Key → Option (List ℕ)) (i : List ℕ) (mark : Marks) (given : ℕ) (row : ℕ → Option ℤ) : Type 0 where
  pub document : ℤ → Option ℕ
  pub stand : MapStands f i mark given document row

pub map_synced : (i : List ℕ) (rows : List ℤ) (f : Key → Option (List ℕ)) (mark : Marks) (given : ℕ) (row : ℕ → Option ℤ) → AreApart rows
    → AllFree mark rows → given + length rows < 2 ^ 32 → MapsAfter f i mark given row
    → MapsAfter (view (map_changes i given rows) f) i (settled_in rows mark) (given + length rows) (with_rows given rows row)
map_synced i [] f mark given row apart free room was = let none : given ≡ given + 0 = omega arith in subst (λ (n : ℕ). MapsAfter f i mark n row) none was
map_synced i (r ∷ rs) f mark given row apart free room was =
    let one = map_settled f i mark given was.document row r free.0 (omega (arith, room)) free.1 was.stand in
    let rest = map_synced i rs (view (map_settle_changes i (given + 1, r)) f) (with_mark r (Some (Settled tt)) mark) (given + 1) (λ e. cond (e == given + 1) (Some r) (row e)) apart.1 (still_free mark r rs apart.0 free.2) (omega (arith, room)) (record { document = with_document_of r (Some (given + 1)) was.document; stand = one }) in
    let count : given + 1 + length rs ≡ given + length (r ∷ rs) = omega arith in
    let words : view (map_changes i (given + 1) rs) (view (map_settle_changes i (given + 1, r)) f) ≡ view (map_changes i given (r ∷ rs)) f = sym (view-append (map_settle_changes i (given + 1, r)) (map_changes i (given + 1) rs) f) in
    let once : with_rows (given + 1) rs (λ e. cond (e == given + 1) (Some r) (row e)) ≡ with_rows given (r ∷ rs) row = λ j d. rows_once rs row (given + 1) (given + 1) r d (omega arith) j in
    subst (MapsAfter (view (map_changes i given (r ∷ rs)) f) i (settled_in (r ∷ rs) mark) (given + length (r ∷ rs))) once
    (subst (λ (g : Key → Option (List ℕ)). MapsAfter g i (settled_in (r ∷ rs) mark) (given + length (r ∷ rs)) (with_rows (given + 1) rs (λ e. cond (e == given + 1) (Some r) (row e)))) words
    (subst (λ (n : ℕ). MapsAfter (view (map_changes i (given + 1) rs) (view (map_settle_changes i (given + 1, r)) f)) i (settled_in (r ∷ rs) mark) n (with_rows (given + 1) rs (λ e. cond (e == given + 1) (Some r) (row e)))) count rest))

pub all_map : (i : List ℕ) (given : ℕ) (rows : List ℤ) → AllOf is_of_map (map_changes i given rows)
all_map i given rows = all_each is_of_map (map_settle_changes i) (λ p. (refl, (refl, (refl, tt)))) (numbered (given + 1) rows)
