-- What passing documents leaves.
use Rattle.std.proofs.Common.{ℕ, ◌≡◌, ◌≤◌, ◌<◌, ◌+◌, Bool, true, false, nat_lt, eqb, List, [], ◌∷◌, ◌++◌, Option, Some, None, drop, get_or, zero, suc, length, refl, sym, ap, subst, ◌∙◌, arith}
use Rattle.std.proofs.lemmas.Bool.{lt-ltb, le-ltb, eq-eqb, ne_eqb}
use Rattle.std.specs.Bool.{if◌then◌else◌}
use Rattle.std.proofs.lemmas.Bool.Decides.{nat_tests}
use Rattle.ix_posting.specs.Lists.{posting_list}
use Rattle.ix_posting.specs.Forms.{PlaceForm, Rise, number_form}
use Rattle.ix_posting.specs.Rows.{WordDocument, DocumentsRise}
use Rattle.ix_posting.specs.Passed.{NoneBehind}
use Rattle.ix_posting.specs.RowPlaces.{first_number, behind_first, places_of_first}
use Rattle.ix_posting.specs.declared.rows.RowDocument.{RowDocument}
use Rattle.ix_spans.specs.Rising.{Above, Rising}
use Rattle.ix_spans.specs.laws.Rising.{above_rises}
use Rattle.ix_lists.specs.Documents.{from_on, from_place, IsShown, places_at, first_places, first_document}
use Rattle.ix_lists.specs.laws.Passing.{places_at_none}

pub at_place : {X : Type 0} (xs : List X) (i : ℕ) (x : X) → i < length xs → drop i xs ≡ get_or xs i x ∷ drop (i + 1) xs
at_place [] i x few = absurd (omega (arith, few))
at_place (y ∷ xs) zero x few = refl
at_place (y ∷ xs) (suc i) x few =
    let e : suc (i + 1) ≡ suc i + 1 = omega arith in
    at_place xs i x (omega (arith, few)) ∙ ap (λ n. get_or xs i x ∷ drop n (y ∷ xs)) e

abbrev or_zero : Option ℕ → ℕ
or_zero None = 0
or_zero (Some n) = n

none_of : {n : ℕ} → Some n ≡ None → ⊥
none_of is = cc

number_in : {n m : ℕ} → Some n ≡ Some m → n ≡ m
number_in is = ap or_zero is

module _ {P : Type 0} where
  -- ---- documents in rows

  pub past : (to : ℕ) (xs ys : List (RowDocument P)) → from_on to xs ≡ [] → from_on to (xs ++ ys) ≡ from_on to ys
  past to [] ys none = refl
  past to (x ∷ xs) ys none = go (past to xs ys) (nat_lt x.document to) none
    where
      go : (from_on to xs ≡ [] → from_on to (xs ++ ys) ≡ from_on to ys) → (t : Bool) → (if t then from_on to xs else x ∷ xs) ≡ [] → (if t then from_on to (xs ++ ys) else x ∷ (xs ++ ys)) ≡ from_on to ys
      go rest true e = rest e
      go rest false e = cc

  pub within : (to : ℕ) (ls xs ys : List (RowDocument P)) → ls ≡ from_on to xs → 0 < length ls → from_on to (xs ++ ys) ≡ ls ++ ys
  within to ls xs ys is some = all xs (subst (λ zs. 0 < length zs) is some) ∙ ap (λ zs. zs ++ ys) (sym is)
    where
      all : (xs : List (RowDocument P)) → 0 < length (from_on to xs) → from_on to (xs ++ ys) ≡ from_on to xs ++ ys
      all [] h = absurd (omega (arith, h))
      all (x ∷ xs) h = go (all xs) (nat_lt x.document to) h
        where
          go : (0 < length (from_on to xs) → from_on to (xs ++ ys) ≡ from_on to xs ++ ys) → (t : Bool) → 0 < length (if t then from_on to xs else x ∷ xs) → (if t then from_on to (xs ++ ys) else x ∷ (xs ++ ys)) ≡ (if t then from_on to xs else x ∷ xs) ++ ys
          go rest true k = rest k
          go rest false k = refl

  -- the first that is decoded is the first of all
  pub first_of_all : (xs ys : List (RowDocument P)) → 0 < length xs → first_document xs ≡ first_document (xs ++ ys)
  first_of_all [] ys some = absurd (omega (arith, some))
  first_of_all (x ∷ xs) ys some = refl

  pub first_more : (xs ys : List (RowDocument P)) (d : ℕ) → 0 < length xs → first_places xs d ≡ first_places (xs ++ ys) d
  first_more [] ys d some = absurd (omega (arith, some))
  first_more (x ∷ xs) ys d some = refl

  -- ---- among rows of which some were taken

  -- the row that is looked at next
  pub next_row : (rows : List (List (RowDocument P))) (i : ℕ) → i < length rows → posting_list (drop i rows) ≡ get_or rows i [] ++ posting_list (drop (i + 1) rows)
  next_row rows i few = ap posting_list (at_place rows i [] few)

  -- ---- in one row

  -- a row that ends before a number has no document from there on
  pub none_from : (last to : ℕ) (ds : List (RowDocument P)) → NoneBehind last ds → last < to → from_on to ds ≡ []
  none_from last to [] none before = refl
  none_from last to (d ∷ ds) none before = let first = none.0 in rw (lt-ltb d.document to (omega (arith, first, before))) (none_from last to ds none.1 before)

  pub stays : (to n : ℕ) (ds : List (RowDocument P)) → Some n ≡ first_number ds → to ≤ n → from_on to ds ≡ ds
  stays to n [] is le = absurd (none_of is)
  stays to n (d ∷ ds) is le = let same : n ≡ d.document = number_in is in rw (le-ltb d.document to (omega (arith, same, le))) refl

  pub passes : (to n : ℕ) (ds : List (RowDocument P)) → Some n ≡ first_number ds → n < to → from_on to ds ≡ from_on to (behind_first ds)
  passes to n [] is before = absurd (none_of is)
  passes to n (d ∷ ds) is before = let same : n ≡ d.document = number_in is in rw (lt-ltb d.document to (omega (arith, same, before))) refl

  pub some_first : (n : ℕ) (ds : List (RowDocument P)) → Some n ≡ first_number ds → 0 < length ds
  some_first n [] is = absurd (none_of is)
  some_first n (d ∷ ds) is = omega arith

  pub shorter : (n : ℕ) (ds : List (RowDocument P)) → Some n ≡ first_number ds → length (behind_first ds) < length ds
  shorter n [] is = absurd (none_of is)
  shorter n (d ∷ ds) is = omega arith

  -- the places of the first, if it is the one
  pub places_here : (n d : ℕ) (ds : List (RowDocument P)) → Some n ≡ first_number ds → n ≡ d → places_of_first ds ≡ first_places ds d
  places_here n d [] is same = refl
  places_here n d (x ∷ xs) is same = let number : n ≡ x.document = number_in is in rw (eq-eqb x.document d (omega (arith, number, same))) refl

  pub places_apart : (n d : ℕ) (ds : List (RowDocument P)) → Some n ≡ first_number ds → (n ≡ d → ⊥) → first_places ds d ≡ []
  places_apart n d [] is other = refl
  places_apart n d (x ∷ xs) is other = let number : n ≡ x.document = number_in is in rw (ne_eqb x.document d (λ same. other (omega (arith, number, same)))) refl

  pub number_of_first : (n : ℕ) (ds : List (RowDocument P)) → Some n ≡ first_number ds → Some n ≡ first_document ds
  number_of_first n [] is = is
  number_of_first n (x ∷ xs) is = is

  -- ---- what a place shows

  pub shown_places : (o : Option (List (RowDocument P))) (rs : List (List (RowDocument P))) (all : List (RowDocument P)) (d : ℕ) → IsShown o rs → from_place o ++ posting_list rs ≡ all → first_places (from_place o) d ≡ first_places all d
  shown_places None rs all d none is = sym (ap (λ ds. first_places ds d) (sym is ∙ ap posting_list none))
  shown_places (Some ds) rs all d some is = first_more ds (posting_list rs) d some ∙ ap (λ es. first_places es d) is

  pub shown_first : (o : Option (List (RowDocument P))) (rs : List (List (RowDocument P))) (all : List (RowDocument P)) → IsShown o rs → from_place o ++ posting_list rs ≡ all → first_document (from_place o) ≡ first_document all
  shown_first None rs all none is = sym (ap first_document (sym is ∙ ap posting_list none))
  shown_first (Some ds) rs all some is = first_of_all ds (posting_list rs) some ∙ ap first_document is

module _ {P : Type 0} (form : PlaceForm P) where
  -- ---- rising documents

  rise_below : (a b : ℕ) (ds : List (RowDocument P)) → a ≤ b → DocumentsRise form b ds → DocumentsRise form a ds
  rise_below a b [] le h = tt
  rise_below a b (d ∷ ds) le h = let first = h.0 in (omega (arith, first), h.1, h.2, h.3, h.4, h.5)

  from_on_rise : (to b : ℕ) (ds : List (RowDocument P)) → DocumentsRise form b ds → DocumentsRise form b (from_on to ds)
  from_on_rise to b [] h = tt
  from_on_rise to b (d ∷ ds) h = let first = h.0 in go (rise_below b d.document (from_on to ds) (omega (arith, first)) (from_on_rise to d.document ds h.5)) (nat_lt d.document to)
    where
      go : DocumentsRise form b (from_on to ds) → (t : Bool) → DocumentsRise form b (if t then from_on to ds else d ∷ ds)
      go rest true = rest
      go rest false = h

  -- documents behind others rise
  pub second_rises : (b : ℕ) (xs ys : List (RowDocument P)) → DocumentsRise form b (xs ++ ys) → DocumentsRise form b ys
  second_rises b [] ys h = h
  second_rises b (x ∷ xs) ys h = let first = h.0 in rise_below b x.document ys (omega (arith, first)) (second_rises x.document xs ys h.5)

  -- what is left after documents were passed
  pub left_rises : (to : ℕ) (new old : List (RowDocument P)) → new ≡ from_on to old → DocumentsRise form 0 old → DocumentsRise form 0 new
  left_rises to new old is rise = subst (DocumentsRise form 0) (sym is) (from_on_rise to 0 old rise)

  -- ---- the places in one document

  -- among rising documents only the first that isn't before it may be the one
  first_found : (b : ℕ) (ds : List (RowDocument P)) (d : ℕ) → DocumentsRise form b ds → first_places (from_on d ds) d ≡ places_at ds d
  first_found b [] d h = refl
  first_found b (x ∷ xs) d h = go (first_found x.document xs d h.5) (nat_lt x.document d) refl
    where
      there : nat_lt x.document d ≡ false → (t : Bool) → eqb x.document d ≡ t → (if t then x.places else []) ≡ (if t then x.places else places_at xs d)
      there e true is = refl
      there e false is = sym (places_at_none form x.document xs d h.5 (grind (arith, nat_tests, e)))

      go : first_places (from_on d xs) d ≡ places_at xs d → (t : Bool) → nat_lt x.document d ≡ t → first_places (if t then from_on d xs else x ∷ xs) d ≡ places_at (x ∷ xs) d
      go rest true e =
          let other : eqb x.document d ≡ false = grind (arith, nat_tests, e) in
          rest ∙ sym (ap (λ (b : Bool). if b then x.places else places_at xs d) other)
      go rest false e = there e (eqb x.document d) refl

  -- where a place shows it
  pub found_shown : (d : ℕ) (o : Option (List (RowDocument P))) (rs : List (List (RowDocument P))) (all : List (RowDocument P)) → DocumentsRise form 0 all → IsShown o rs → from_place o ++ posting_list rs ≡ from_on d all → first_places (from_place o) d ≡ places_at all d
  found_shown d o rs all rise shown is = shown_places o rs (from_on d all) d shown is ∙ first_found 0 all d rise

-- ---- positions rise

positions_rise : (n : ℕ) (ps : List ℕ) → Rise n ps → Above n ps
positions_rise n [] h = tt
positions_rise n (p ∷ ps) h = (h.0, positions_rise p ps h.2)

pub places_rise : (b : ℕ) (ds : List WordDocument) (d : ℕ) → DocumentsRise number_form b ds → Rising (places_at ds d)
places_rise b [] d h = tt
places_rise b (x ∷ xs) d h = go (places_rise x.document xs d h.5) (eqb x.document d)
  where
    go : Rising (places_at xs d) → (t : Bool) → Rising (if t then x.places else places_at xs d)
    go rest true = above_rises 0 x.places (positions_rise 0 x.places h.4)
    go rest false = rest
