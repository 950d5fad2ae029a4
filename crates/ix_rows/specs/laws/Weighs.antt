-- The rows of an index weigh at most what the postings of its documents cost, and what is wasted.
use Rattle.std.specs.Prelude.{ℕ, ℤ, ◌≡◌, ◌+◌, ◌≤◌, Bool, true, not, List, [], ◌∷◌, ◌++◌, map, filter, sum_by, Option, Some, None, is_some, refl}
use Rattle.std.specs.List.{flat_map}
use Rattle.std.proofs.Common.{sym, ap, subst, ◌∙◌, inl, inr, arith}
use Rattle.ct_entry.specs.declared.kinds.Kind.{Kind}
use Rattle.ct_entry.specs.Keys.{Key}
use Rattle.ct_entry.specs.Lists.{IsIn, AreApart, EachIs}
use Rattle.ct_entry.specs.laws.Lists.{in_map, in_flat_map, in_filter, apart_filter, apart_flat_map, sum_by-parts, sum_by-within, sum_by-le-flat_map}
use Rattle.ix_posting.specs.Lists.{posting_list}
use Rattle.ix_rows.specs.Posts.{posting, Rises}
use Rattle.ix_rows.specs.laws.Posts.{in_posting_list, in_posting, one_row, rises_apart}
use Rattle.ix_rows.specs.Stored.{IsStray}
use Rattle.ix_rows.specs.Stores.{Tidiness, StoreStands}

module _ {D : Type 0} where
  -- a row's postings, one by one
  abbrev pub singles : List ℕ × List D → List (List ℕ × D)
  singles e = map (λ x. (e.0, x)) e.1

  in_singles : (b : List ℕ × D) (e : List ℕ × List D) → IsIn b (singles e) → (b.0 ≡ e.0) × IsIn b.1 e.1
  in_singles b e h = let m = in_map (λ (x : D). (e.0, x)) b e.1 h in (ap (λ (p : List ℕ × D). p.0) m.2, subst (λ (x : D). IsIn x e.1) (sym (ap (λ (p : List ℕ × D). p.1) m.2)) m.1)

  apart_singles : (t : List ℕ) (xs : List D) → AreApart xs → AreApart {A = List ℕ × D} (map (λ x. (t, x)) xs)
  apart_singles t [] h = tt
  apart_singles t (x ∷ xs) h = ((λ i. h.0 (in_singles (t, x) (t, xs) i).1), apart_singles t xs h.1)

module _ {D : Type 0} (number : D → ℕ) (bytes_of : List D → List ℕ) (IsRow : List D → Type 0) (IsTerm : List ℕ → Type 0) (cost : List ℕ × D → ℕ) where
  -- each row is apart in itself
  row_apart : (rows : List (List D)) (before : ℕ) (row : List D) → Rises number before (posting_list rows) → IsIn row rows → AreApart row
  row_apart [] before row r h = absurd h
  row_apart (y ∷ ys) before row r h = elim h [
    | inl e ↦ subst (λ (z : List D). AreApart z) (sym e) (front before y r)
    | inr t ↦ let b = behind before y r in row_apart ys b.0 row b.1 t
  ]
    where
      behind : (b : ℕ) (zs : List D) → Rises number b (zs ++ posting_list ys) → (c : ℕ) × Rises number c (posting_list ys)
      behind b [] r = (b, r)
      behind b (z ∷ zs) r = behind (number z) zs r.2

      front : (b : ℕ) (zs : List D) → Rises number b (zs ++ posting_list ys) → AreApart zs
      front b zs r = rises_apart number b zs (go b zs r)
        where
          go : (b : ℕ) (zs : List D) → Rises number b (zs ++ posting_list ys) → Rises number b zs
          go b [] r = tt
          go b (z ∷ zs) r = (r.0, r.1, go (number z) zs r.2)

  pub each_in : (P : List D → Type 0) (row : List D) (rows : List (List D)) → EachIs P rows → IsIn row rows → P row
  each_in P row [] all h = absurd h
  each_in P row (y ∷ ys) all h = elim h [ inl e ↦ subst P (sym e) all.0 | inr t ↦ each_in P row ys all.1 t ]

  module _ (f : Key → Option (List ℕ)) (kind : Kind) (i : List ℕ) (want : ℤ → List ℕ → ℕ → Option D) (row : ℕ → Option ℤ) (given : ℕ) (tidiness : Tidiness) (waste : ℕ) (rows : List ℕ → List (List D)) (stand : StoreStands number bytes_of IsRow IsTerm cost f kind i want row given tidiness waste rows) where
    -- Any stored rows, each once, weigh no more than the postings of the documents that are rows, and the waste.
    pub rows_weigh : (weigh : List ℕ × List D → ℕ) (es : List (List ℕ × List D)) (its : List (List ℕ × D))
        → ((e : List ℕ × List D) → IsRow e.1 → weigh e ≤ sum_by cost (singles e))
        → AreApart es → ((e : List ℕ × List D) → IsIn e es → IsTerm e.0 × IsIn e.1 (rows e.0))
        → ((term : List ℕ) (d : ℕ) (r : ℤ) (x : D) → IsTerm term → row d ≡ Some r → want r term d ≡ Some x → IsIn (term, x) its)
        → sum_by weigh es ≤ sum_by cost its + waste
    rows_weigh weigh es its light apart stored all =
        let units = flat_map singles es in
        let whole = sum_by-le-flat_map singles weigh cost es (λ e h. light e (each_in IsRow e.1 (rows e.0) (stand.are e.0 (stored e h).0).each (stored e h).1)) in
        let once : AreApart units = apart_flat_map singles es apart (λ e h. apart_singles e.0 e.1 (row_apart (rows e.0) 0 e.1 (stand.are e.0 (stored e h).0).rise (stored e h).1)) one in
        let parts = sum_by-parts is_row cost units in
        let mapped = sum_by-within cost (filter is_row units) its (apart_filter is_row units once) (λ b h. let p = in_filter is_row b units h in its_own b (in_units b p.0) p.1) in
        let strays = stand.lists.bounded (filter (λ b. not (is_row b)) units) (apart_filter (λ b. not (is_row b)) units once) (λ b h. let p = in_filter (λ (z : List ℕ × D). not (is_row z)) b units h in stray b (in_units b p.0) p.1) in
        omega (arith, whole, parts, mapped, strays)
      where
        is_row : List ℕ × D → Bool
        is_row b = is_some (row (number b.1))

        one : (e e' : List ℕ × List D) (b : List ℕ × D) → IsIn e es → IsIn e' es → IsIn b (singles e) → IsIn b (singles e') → e ≡ e'
        one e e' b h h' i i' =
            let p = in_singles b e i in let p' = in_singles b e' i' in
            let term : e'.0 ≡ e.0 = sym p'.0 ∙ p.0 in
            let there : IsIn e'.1 (rows e.0) = subst (λ (t : List ℕ). IsIn e'.1 (rows t)) term (stored e' h').1 in
            let same = one_row number (rows e.0) 0 b.1 e.1 e'.1 (stand.are e.0 (stored e h).0).rise (stored e h).1 there p.1 p'.1 in
            λ j. (sym term j, same j)

        -- a unit is stored under its term
        in_units : (b : List ℕ × D) → IsIn b (flat_map singles es) → IsTerm b.0 × (posting number (number b.1) (posting_list (rows b.0)) ≡ Some b.1)
        in_units b h =
            let e = in_flat_map singles b es h in
            let s = in_singles b e.0 e.2 in
            let is = stored e.0 e.1 in
            let term = subst IsTerm (sym s.0) is.0 in
            let there : IsIn e.0.1 (rows b.0) = subst (λ (t : List ℕ). IsIn e.0.1 (rows t)) (sym s.0) is.1 in
            (term, in_posting number 0 b.1 (posting_list (rows b.0)) (stand.are b.0 term).rise (in_posting_list b.1 e.0.1 (rows b.0) there s.1))

        its_own : (b : List ℕ × D) → IsTerm b.0 × (posting number (number b.1) (posting_list (rows b.0)) ≡ Some b.1) → is_row b ≡ true → IsIn b its
        its_own b p is = go (row (number b.1)) refl is
          where
            go : (o : Option ℤ) → row (number b.1) ≡ o → is_some o ≡ true → IsIn b its
            go None e is = cc
            go (Some r) e is = all b.0 (number b.1) r b.1 p.0 e (sym (stand.lists.exact b.0 (number b.1) r p.0 e) ∙ p.1)

        stray : (b : List ℕ × D) → IsTerm b.0 × (posting number (number b.1) (posting_list (rows b.0)) ≡ Some b.1) → not (is_row b) ≡ true → IsStray number IsTerm row (λ t. posting_list (rows t)) b
        stray b p is = record { term = p.0; stored = p.1; unmapped = none (row (number b.1)) is }
          where
            none : (o : Option ℤ) → not (is_some o) ≡ true → o ≡ None
            none None h = refl
            none (Some r) h = cc
