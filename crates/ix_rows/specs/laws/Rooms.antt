-- All stored rows of a kind, of all indexes, weigh at most what the documents' postings cost and what is wasted.
use Rattle.std.specs.Prelude.{ℕ, ℤ, ◌≡◌, ◌==◌, ◌+◌, ◌≤◌, Bool, true, false, cond, List, [], ◌∷◌, map, filter, sum_by, Option, Some, None, refl}
use Rattle.std.proofs.Common.{sym, ap, subst, ◌∙◌, inl, inr, arith, ◌⊎◌}
use Rattle.std.proofs.lemmas.Bool.{eqb-true}
use Rattle.std.proofs.lemmas.List.Sums.{sum_by-cons}
use Rattle.ct_keep.specs.Content.{entry_weight}
use Rattle.ct_entry.specs.declared.kinds.Kind.{Kind}
use Rattle.ct_entry.specs.Keys.{Key, key, bytes, same_list, IsDocument}
use Rattle.ct_entry.specs.Each.{latest}
use Rattle.ct_entry.specs.laws.Keys.{list_from_same, list_same}
use Rattle.ct_entry.specs.Lists.{IsIn, AreApart}
use Rattle.ct_entry.specs.laws.Lists.{in_map, in_filter, apart_filter}
use Rattle.ix_rows.specs.Spelling.{row_key, row_value, first_document}
use Rattle.ix_rows.specs.Stores.{Tidiness, StoreStands}
use Rattle.ix_rows.specs.laws.Weighs.{singles, rows_weigh}

module _ {A B : Type 0} (R : A → B → Type 0) (w : A → ℕ) (v : B → ℕ) where
  -- something for each of some elements that stand once, which weighs no less
  pub record Chosen (xs : List A) : Type 0 where
    pub list : List B
    pub apart : AreApart list
    pub each : (b : B) → IsIn b list → (x : A) × IsIn x xs × R x b
    pub sum : sum_by w xs ≤ sum_by v list

  pub chosen : ((x y : A) (b : B) → R x b → R y b → x ≡ y) → (xs : List A) → AreApart xs → ((x : A) → IsIn x xs → (b : B) × R x b × (w x ≤ v b)) → Chosen xs
  chosen one [] apart some = record { list = []; apart = tt; each = λ b h. absurd h; sum = omega arith }
  chosen one (x ∷ xs) apart some =
      let b = some x (inl refl) in
      let rest = chosen one xs apart.1 (λ y h. some y (inr h)) in
      record {
        list = b.0 ∷ rest.list;
        apart = ((λ h. let y = rest.each b.0 h in apart.0 (subst (λ (z : A). IsIn z xs) (sym (one x y.0 b.0 b.1 y.2)) y.1)), rest.apart);
        each = λ c h. elim h [
          | inl e ↦ (x, inl refl, subst (R x) (sym e) b.1)
          | inr t ↦ let y = rest.each c t in (y.0, inr y.1, y.2)
        ];
        sum = omega (arith, sum_by-cons w x xs, sum_by-cons v b.0 rest.list, b.2, rest.sum);
      }

module _ {B : Type 0} (owner : B → List ℕ) (v : B → ℕ) where
  abbrev pub of_owner : List B → List ℕ → List B
  of_owner bs n = filter (λ b. same_list n (owner b)) bs

  more : (b : B) (bs : List B) (n : List ℕ) → sum_by v (of_owner bs n) ≤ sum_by v (of_owner (b ∷ bs) n)
  more b bs n = go (same_list n (owner b))
    where
      go : (t : Bool) → sum_by v (of_owner bs n) ≤ sum_by v (cond t (b ∷ of_owner bs n) (of_owner bs n))
      go true = omega (arith, sum_by-cons v b (of_owner bs n))
      go false = omega arith

  all_more : (b : B) (bs : List B) (names : List (List ℕ)) → sum_by (λ n. sum_by v (of_owner bs n)) names ≤ sum_by (λ n. sum_by v (of_owner (b ∷ bs) n)) names
  all_more b bs [] = omega arith
  all_more b bs (n ∷ names) = omega (arith, sum_by-cons (λ n. sum_by v (of_owner bs n)) n names, sum_by-cons (λ n. sum_by v (of_owner (b ∷ bs) n)) n names, more b bs n, all_more b bs names)

  one_more : (b : B) (bs : List B) (names : List (List ℕ)) → IsIn (owner b) names → v b + sum_by (λ n. sum_by v (of_owner bs n)) names ≤ sum_by (λ n. sum_by v (of_owner (b ∷ bs) n)) names
  one_more b bs [] h = absurd h
  one_more b bs (n ∷ names) h = elim h [
    | inl e ↦
        let here : sum_by v (of_owner (b ∷ bs) n) ≡ v b + sum_by v (of_owner bs n) =
        ap (λ (t : Bool). sum_by v (cond t (b ∷ of_owner bs n) (of_owner bs n))) (ap (λ (l : List ℕ). same_list l (owner b)) (sym e) ∙ list_same (owner b)) ∙ sum_by-cons v b (of_owner bs n)
        in
        omega (arith, sum_by-cons (λ n. sum_by v (of_owner bs n)) n names, sum_by-cons (λ n. sum_by v (of_owner (b ∷ bs) n)) n names, here, all_more b bs names)
    | inr t ↦ omega (arith, sum_by-cons (λ n. sum_by v (of_owner bs n)) n names, sum_by-cons (λ n. sum_by v (of_owner (b ∷ bs) n)) n names, more b bs n, one_more b bs names t)
  ]

  -- a sum by owners
  pub sum_by-owners : (bs : List B) (names : List (List ℕ)) → ((b : B) → IsIn b bs → IsIn (owner b) names) → sum_by v bs ≤ sum_by (λ n. sum_by v (of_owner bs n)) names
  sum_by-owners [] names each = omega arith
  sum_by-owners (b ∷ bs) names each = omega (arith, sum_by-cons v b bs, one_more b bs names (each b (inl refl)), sum_by-owners bs names (λ c h. each c (inr h)))

module _ {A : Type 0} where
  pub sum_by-each-le : (f g : A → ℕ) (xs : List A) → ((x : A) → IsIn x xs → f x ≤ g x) → sum_by f xs ≤ sum_by g xs
  sum_by-each-le f g [] each = omega arith
  sum_by-each-le f g (x ∷ xs) each = omega (arith, sum_by-cons f x xs, sum_by-cons g x xs, each x (inl refl), sum_by-each-le f g xs (λ y h. each y (inr h)))

  pub sum_by-map-is : {B : Type 0} (f : A → B) (v : B → ℕ) (xs : List A) → sum_by v (map f xs) ≡ sum_by (λ x. v (f x)) xs
  sum_by-map-is f v [] = refl
  sum_by-map-is f v (x ∷ xs) = sum_by-cons v (f x) (map f xs) ∙ ap (λ (n : ℕ). v (f x) + n) (sum_by-map-is f v xs) ∙ sym (sum_by-cons (λ x. v (f x)) x xs)

  pub apart_map : {B : Type 0} (f : A → B) (xs : List A) → ((x y : A) → IsIn x xs → IsIn y xs → f x ≡ f y → x ≡ y) → AreApart xs → AreApart (map f xs)
  apart_map f [] one h = tt
  apart_map f (x ∷ xs) one h = (
    (λ i. let y = in_map f (f x) xs i in h.0 (subst (λ (z : A). IsIn z xs) (sym (one x y.0 (inl refl) (inr y.1) y.2)) y.1)),
    apart_map f xs (λ y z i j. one y z (inr i) (inr j)) h.1,
  )

module _ {D : Type 0} (number : D → ℕ) (bytes_of : List D → List ℕ) where
  abbrev FoundRow : List (List D) → ℕ → List ℕ → Type 0
  FoundRow rows d value = (row : List D) × IsIn row rows × (d ≡ first_document number row) × (value ≡ bytes_of row)

  found : (rows : List (List D)) (d : ℕ) (value : List ℕ) (old : Option (List ℕ))
      → latest (λ row. d == first_document number row) (λ row. Some (bytes_of row)) rows old ≡ Some value → FoundRow rows d value ⊎ (old ≡ Some value)
  found [] d value old is = inr is
  found (row ∷ rows) d value old is = elim (found rows d value (cond (d == first_document number row) (Some (bytes_of row)) old) is) [
    | inl f ↦ inl (f.0, inr f.1, f.2, f.3)
    | inr e ↦ go (d == first_document number row) refl e
  ]
    where
      go : (b : Bool) → (d == first_document number row) ≡ b → cond b (Some (bytes_of row)) old ≡ Some value → FoundRow (row ∷ rows) d value ⊎ (old ≡ Some value)
      go true t e = let v : value ≡ bytes_of row = cc in inl (row, inl refl, eqb-true d (first_document number row) t, v)
      go false t e = inr e

  -- what is found at a document is one of the rows
  pub row_found : (rows : List (List D)) (d : ℕ) (value : List ℕ) → row_value number bytes_of rows d ≡ Some value → FoundRow rows d value
  row_found rows d value is = elim (found rows d value None is) [ inl f ↦ f | inr e ↦ absurd (none_some e) ]
    where
      none_some : ◌≡◌ {A = Option (List ℕ)} None (Some value) → ⊥
      none_some e = cc

module _ {D : Type 0} (number : D → ℕ) (bytes_of : List D → List ℕ) (IsRow : List D → Type 0) (IsTerm : List ℕ → Type 0) (cost : List ℕ → List ℕ × D → ℕ) (kind : Kind)
    (light : (i : List ℕ) (e : List ℕ × List D) → IsRow e.1 → entry_weight (bytes (key kind i (row_key e.0 (first_document number e.1))), bytes_of e.1) ≤ sum_by (cost i) (singles e)) where
  abbrev Row : Type 0
  Row = List ℕ × (List ℕ × List D)

  abbrev weigh : Row → ℕ
  weigh b = entry_weight (bytes (key kind b.0 (row_key b.1.0 (first_document number b.1.1))), bytes_of b.1.1)

  module _ (f : Key → Option (List ℕ)) (want : List ℕ → ℤ → List ℕ → ℕ → Option D) (row : List ℕ → ℕ → Option ℤ) (given : List ℕ → ℕ) (tidiness : List ℕ → Tidiness) (waste : List ℕ → ℕ) (rows : List ℕ → List ℕ → List (List D))
      (stand : (i : List ℕ) → StoreStands number bytes_of IsRow IsTerm (cost i) f kind i (want i) (row i) (given i) (tidiness i) (waste i) (rows i)) where
    -- an entry is that of a row
    abbrev IsOf : List ℕ × List ℕ → Row → Type 0
    IsOf e b = (e.0 ≡ bytes (key kind b.0 (row_key b.1.0 (first_document number b.1.1)))) × (e.1 ≡ bytes_of b.1.1) × IsTerm b.1.0 × IsIn b.1.1 (rows b.0 b.1.0)

    -- a key of the kind, with what it has
    abbrev pub IsEntryOf : List ℕ × List ℕ → Type 0
    IsEntryOf e = (i term : List ℕ) × ((d : ℕ) × IsTerm term × IsDocument d × (e.0 ≡ bytes (key kind i (row_key term d))) × (f (key kind i (row_key term d)) ≡ Some e.1))

    one : (x y : List ℕ × List ℕ) (b : Row) → IsOf x b → IsOf y b → x ≡ y
    one x y b p q = let k : x.0 ≡ y.0 = p.0 ∙ sym q.0 in let v : x.1 ≡ y.1 = p.1 ∙ sym q.1 in λ j. (k j, v j)

    some : (e : List ℕ × List ℕ) → IsEntryOf e → (b : Row) × IsOf e b × (entry_weight e ≤ weigh b)
    some e is =
        let i = is.0 in let term = is.1 in let d = is.2.0 in
        let r = row_found number bytes_of (rows i term) d e.1 (sym ((stand i).spelled.spelled term d is.2.1 is.2.2) ∙ is.2.4) in
        let k : e.0 ≡ bytes (key kind i (row_key term (first_document number r.0))) = is.2.3 ∙ ap (λ (n : ℕ). bytes (key kind i (row_key term n))) r.2 in
        let same : e ≡ (bytes (key kind i (row_key term (first_document number r.0))), bytes_of r.0) = λ j. (k j, r.3 j) in
        let weight : entry_weight e ≡ weigh (i, (term, r.0)) = ap entry_weight same in
        ((i, (term, r.0)), (k, r.3, is.2.1, r.1), omega (arith, weight))

    -- ALL ROWS OF ALL INDEXES: entries of the kind, each once, weigh at most the postings of the documents that are rows, and the waste
    pub kind_weighs : (es : List (List ℕ × List ℕ)) (names : List (List ℕ)) (its : List ℕ → List (List ℕ × D)) → AreApart es → ((e : List ℕ × List ℕ) → IsIn e es → IsEntryOf e)
        → ((i term : List ℕ) (r : List D) → IsTerm term → IsIn r (rows i term) → IsIn i names)
        → ((i term : List ℕ) (d : ℕ) (r : ℤ) (x : D) → IsTerm term → row i d ≡ Some r → want i r term d ≡ Some x → IsIn (term, x) (its i))
        → sum_by entry_weight es ≤ sum_by (λ i. sum_by (cost i) (its i) + waste i) names
    kind_weighs es names its apart each named all =
        let c = chosen IsOf entry_weight weigh one es apart (λ e h. some e (each e h)) in
        let owners = sum_by-owners (λ (b : Row). b.0) weigh c.list names (λ b h. let x = c.each b h in named b.0 b.1.0 b.1.1 x.2.2 x.2.3) in
        let inside = sum_by-each-le (λ n. sum_by weigh (of_owner (λ (b : Row). b.0) weigh c.list n)) (λ i. sum_by (cost i) (its i) + waste i) names (λ n h. at_name n c.list c.apart (λ b k. let x = c.each b k in (x.2.2, x.2.3))) in
        omega (arith, c.sum, owners, inside)
      where
        at_name : (n : List ℕ) (bs : List Row) → AreApart bs → ((b : Row) → IsIn b bs → IsTerm b.1.0 × IsIn b.1.1 (rows b.0 b.1.0))
            → sum_by weigh (of_owner (λ (b : Row). b.0) weigh bs n) ≤ sum_by (cost n) (its n) + waste n
        at_name n bs apart stored =
            let own = of_owner (λ (b : Row). b.0) weigh bs n in
            let of_n : (b : Row) → IsIn b own → (n ≡ b.0) × IsIn b bs = λ b h. let p = in_filter (λ (b : Row). same_list n b.0) b bs h in (list_from_same n b.0 p.1, p.0) in
            let w : List ℕ × List D → ℕ = λ e. entry_weight (bytes (key kind n (row_key e.0 (first_document number e.1))), bytes_of e.1) in
            let pairs : List (List ℕ × List D) = map (λ (b : Row). b.1) own in
            let whole = rows_weigh number bytes_of IsRow IsTerm (cost n) f kind n (want n) (row n) (given n) (tidiness n) (waste n) (rows n) (stand n) w pairs (its n) (λ e r. light n e r)
            (apart_map (λ (b : Row). b.1) own (λ x y h k same. let i : x.0 ≡ y.0 = sym (of_n x h).0 ∙ (of_n y k).0 in λ j. (i j, same j)) (apart_filter (λ (b : Row). same_list n b.0) bs apart))
            (λ e h. let b = in_map (λ (b : Row). b.1) e own h in let o = of_n b.0 b.1 in let s = stored b.0 o.1 in
            subst (λ (x : List ℕ × List D). IsTerm x.0 × IsIn x.1 (rows n x.0)) (sym b.2) (s.0, subst (λ (m : List ℕ). IsIn b.0.1.1 (rows m b.0.1.0)) (sym o.0) s.1))
            (λ term d r x is has wants. all n term d r x is has wants)
            in
            let sum = sum_by-map-is (λ (b : Row). b.1) w own in
            let same = sum_by-each-le weigh (λ b. w b.1) own (λ b h. let o = ap (λ (m : List ℕ). entry_weight (bytes (key kind m (row_key b.1.0 (first_document number b.1.1))), bytes_of b.1.1)) (of_n b h).0 in omega (arith, o)) in
            omega (arith, whole, sum, same)
