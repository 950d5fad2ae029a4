-- The rows of documents, and the steps of mapping candidates to them.
use Rattle.std.proofs.Common.{ℕ, ℤ, ◌≡◌, ◌<◌, ◌≤◌, ◌^◌, ◌⊎◌, inl, inr, Bool, true, false, cond, List, [], ◌∷◌, Option, Some, None, refl, sym, ap, subst, ◌∙◌, arith}
use Rattle.std.specs.Prelude.{nat_lt, ◌&&◌}
use Rattle.std.specs.Ordering.{nat_cmp, eq_by_cmp, is_eq}
use Rattle.std.specs.Cmp.{nat_cmp_total}
use Rattle.std.specs.BTreeMap.{is_at}
use Rattle.std.specs.Map.{keys_of, lookup}
use Rattle.std.specs.List.Sorted.{IsStrictlySortedBy}
use Rattle.std.specs.FinMap.{get, empty, find, from_sorted, get-empty, get-insert, get-entries}
use Rattle.std.proofs.lemmas.Bool.{cases_lt, lt-ltb, le-ltb, and_parts}
use Rattle.std.proofs.lemmas.Cmp.{tied_itself}
use Rattle.ct_base.specs.declared.numbers.DocId.{DocId}
use Rattle.ct_base.specs.laws.SortedMaps.{entries-sorted}
use Rattle.ct_base.specs.laws.Orders.{equal_from_test, eq_from_equal}
use Rattle.ix_cursor.specs.Candidates.{IsLeast, behind_found}
use Rattle.ix_search.specs.Gathering.{Documents, with_row_of, AreRowsOfDocuments}

-- a look-up among entries whose keys rise
found_by_lookup : (d : ℕ) (es : List (ℕ × ℤ)) → lookup (is_at (nat_cmp d)) es ≡ find nat_cmp d es
found_by_lookup d [] = refl
found_by_lookup d (e ∷ es) = ap (cond (eq_by_cmp nat_cmp d e.0) (Some e.1)) (found_by_lookup d es)

pub get_by_lookup : (d : ℕ) (es : List (ℕ × ℤ)) → IsStrictlySortedBy nat_cmp (keys_of es) → lookup (is_at (nat_cmp d)) es ≡ get (from_sorted {R = nat_cmp} es) d
get_by_lookup d es rise = found_by_lookup d es ∙ ap (find nat_cmp d) (sym (entries-sorted nat_cmp es rise)) ∙ sym (get-entries (from_sorted {R = nat_cmp} es) d)

-- These are rows of candidates, among which is that of each candidate that isn't left.
pub record AreRowsSoFar (row : ℕ → Option ℤ) (may left : ℕ → Bool) (rows : Documents ℤ) : Type 0 where
  pub own : (d : ℕ) (r : ℤ) → get rows d ≡ Some r → (may d ≡ true) × (row d ≡ Some r)
  pub each : (d : ℕ) → d < 2 ^ 32 → (get rows d ≡ row d) ⊎ (left d ≡ may d)
  pub within : (d : ℕ) → d < 2 ^ 32 → left d ≡ true → may d ≡ true

one_number : (d x : ℕ) → eq_by_cmp nat_cmp d x ≡ true → d ≡ x
one_number d x h = eq_from_equal d x (equal_from_test _ h)

module _ (row : ℕ → Option ℤ) (may : ℕ → Bool) where
  -- what a map has with the row of a document
  put_own : (x : ℕ) (rows : Documents ℤ) → may x ≡ true → ((d : ℕ) (r : ℤ) → get rows d ≡ Some r → (may d ≡ true) × (row d ≡ Some r)) → (o : Option ℤ) → row x ≡ o
      → (d : ℕ) (r : ℤ) → get (with_row_of x o rows) d ≡ Some r → (may d ≡ true) × (row d ≡ Some r)
  put_own x rows among own None is d r at = own d r at
  put_own x rows among own (Some s) is d r at = go (eq_by_cmp nat_cmp d x) refl (sym (get-insert nat_cmp_total rows x s d) ∙ at)
    where
      go : (b : Bool) → eq_by_cmp nat_cmp d x ≡ b → cond b (Some s) (get rows d) ≡ Some r → (may d ≡ true) × (row d ≡ Some r)
      go true h there = (ap may (one_number d x h) ∙ among, ap row (one_number d x h) ∙ is ∙ there)
      go false h there = own d r there

  put_here : (x : ℕ) (rows : Documents ℤ) → ((d : ℕ) (r : ℤ) → get rows d ≡ Some r → (may d ≡ true) × (row d ≡ Some r)) → (o : Option ℤ) → row x ≡ o → get (with_row_of x o rows) x ≡ o
  put_here x rows own None is = go (get rows x) refl
    where
      go : (o : Option ℤ) → get rows x ≡ o → get rows x ≡ None
      go None at = at
      go (Some r) at =
          let mapped = own x r at in
          let wrong : None ≡ Some r = sym is ∙ mapped.1 in
          cc
  put_here x rows own (Some s) is = get-insert nat_cmp_total rows x s x ∙ ap (λ (b : Bool). cond b (Some s) (get rows x)) (ap is_eq (tied_itself nat_cmp_total x))

  put_apart : (x : ℕ) (rows : Documents ℤ) (o : Option ℤ) (d : ℕ) → (d ≡ x → ⊥) → get (with_row_of x o rows) d ≡ get rows d
  put_apart x rows None d other = refl
  put_apart x rows (Some s) d other = get-insert nat_cmp_total rows x s d ∙ go (eq_by_cmp nat_cmp d x) refl
    where
      go : (b : Bool) → eq_by_cmp nat_cmp d x ≡ b → cond b (Some s) (get rows d) ≡ get rows d
      go true h = absurd (other (one_number d x h))
      go false h = refl

  -- before the first candidate
  pub rows_begin : (rows : Documents ℤ) → rows ≡ empty → AreRowsSoFar row may may rows
  rows_begin rows none = record {
    own = λ d r at. let wrong : None ≡ Some r = sym (ap (λ (m : Documents ℤ). get m d) none ∙ get-empty nat_cmp d) ∙ at in cc;
    each = λ d low. inr refl;
    within = λ d low h. h;
  }

  -- with one candidate more
  pub rows_next : (left next : ℕ → Bool) (found : Option DocId) (x : DocId) (rows more : Documents ℤ) → found ≡ Some x → IsLeast left found → ((d : ℕ) → d < 2 ^ 32 → next d ≡ behind_found found left d)
      → more ≡ with_row_of x.0 (row x.0) rows → AreRowsSoFar row may left rows → AreRowsSoFar row may next more
  rows_next left next found x rows more is first on made far = subst (AreRowsSoFar row may next) (sym made) (record {
    own = put_own x.0 rows (far.within x.0 least.0 least.1) far.own (row x.0) refl;
    each = λ d low. by_place d low (cases_lt d x.0) (cases_lt x.0 d);
    within = λ d low h. far.within d low (and_parts (nat_lt x.0 d) (left d) (sym (behind d low) ∙ h)).1;
  })
    where
      least : IsLeast left (Some x)
      least = subst (IsLeast left) is first

      behind : (d : ℕ) → d < 2 ^ 32 → next d ≡ (nat_lt x.0 d && left d)
      behind d low = on d low ∙ ap (λ (o : Option DocId). behind_found o left d) is

      by_place : (d : ℕ) → d < 2 ^ 32 → (d < x.0) ⊎ (x.0 ≤ d) → (x.0 < d) ⊎ (d ≤ x.0) → (get (with_row_of x.0 (row x.0) rows) d ≡ row d) ⊎ (next d ≡ may d)
      by_place d low (inl before) after = by_far (far.each d low)
        where
          by_far : (get rows d ≡ row d) ⊎ (left d ≡ may d) → (get (with_row_of x.0 (row x.0) rows) d ≡ row d) ⊎ (next d ≡ may d)
          by_far (inl had) = inl (put_apart x.0 rows (row x.0) d (λ same. omega (arith, same, before)) ∙ had)
          by_far (inr same) = inr (behind d low ∙ ap (λ t. t && left d) (le-ltb x.0 d (omega (arith, before))) ∙ sym (least.2 d before) ∙ same)
      by_place d low (inr late) (inl after) = by_far (far.each d low)
        where
          by_far : (get rows d ≡ row d) ⊎ (left d ≡ may d) → (get (with_row_of x.0 (row x.0) rows) d ≡ row d) ⊎ (next d ≡ may d)
          by_far (inl had) = inl (put_apart x.0 rows (row x.0) d (λ same. omega (arith, same, after)) ∙ had)
          by_far (inr same) = inr (behind d low ∙ ap (λ t. t && left d) (lt-ltb x.0 d after) ∙ same)
      by_place d low (inr late) (inr here) =
          let same : x.0 ≡ d = omega (arith, late, here) in
          inl (subst (λ (n : ℕ). get (with_row_of x.0 (row x.0) rows) n ≡ row n) same (put_here x.0 rows far.own (row x.0) refl))

  -- and where no candidate is left
  pub rows_end : (left : ℕ → Bool) (found : Option DocId) (rows : Documents ℤ) → found ≡ None → IsLeast left found → AreRowsSoFar row may left rows → AreRowsOfDocuments row may rows
  rows_end left found rows is first far = record {
    own = far.own;
    all = λ d low among. go d low among (far.each d low);
  }
    where
      none : IsLeast left None
      none = subst (IsLeast left) is first

      go : (d : ℕ) → d < 2 ^ 32 → may d ≡ true → (get rows d ≡ row d) ⊎ (left d ≡ may d) → get rows d ≡ row d
      go d low among (inl had) = had
      go d low among (inr same) = let wrong : true ≡ false = sym among ∙ sym same ∙ none d low in cc
