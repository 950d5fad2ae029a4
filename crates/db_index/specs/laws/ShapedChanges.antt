-- Changes that put well shaped entries alone, whatever they take away: they leave entries on keys alone, and short rows of postings.
use Rattle.std.proofs.Common.{◌≡◌, ℕ, ◌≤◌, Bool, true, false, cond, List, [], ◌∷◌, length, Option, Some, None, refl, sym, ap, subst, ◌∙◌}
use Rattle.std.specs.Prelude.{is_some}
use Rattle.std.specs.Ordering.{nat_cmp, eq_by_cmp}
use Rattle.std.specs.Cmp.Lexicographic.{slice_cmp}
use Rattle.std.specs.FinMap.{get, get-insert, get-remove}
use Rattle.std.proofs.lemmas.Cmp.{nat_list_cmp_total}
use Rattle.std.proofs.lemmas.Map.Lookups.{exact_bytes}
use Rattle.ct_base.specs.laws.Orders.{equal_from_test}
use Rattle.ct_keep.specs.Content.{Content, after, set_to, value_limit}
use Rattle.ct_entry.specs.Keys.{HasKeysOnly, IsKeyOfKind, Key, bytes, same_key}
use Rattle.ct_entry.specs.Changes.{spell, told, view}
use Rattle.ct_entry.specs.Shapes.{AreShaped, IsShaped}
use Rattle.db_state.specs.States.{HasShortRows}

module _ (rule : Key → List ℕ → Type 0) where
  -- ---- entries on keys alone

  one_put : (m : Content) (j value : List ℕ) → IsShaped rule j value → HasKeysOnly m → HasKeysOnly (set_to j (Some value) m)
  one_put m j value is only b has = go (eq_by_cmp (slice_cmp nat_cmp) b j) refl (sym (ap is_some (get-insert nat_list_cmp_total m j value b)) ∙ has)
    where
      go : (t : Bool) → eq_by_cmp (slice_cmp nat_cmp) b j ≡ t → is_some (cond t (Some value) (get m b)) ≡ true → (k : Key) × (b ≡ bytes k) × IsKeyOfKind k
      go true same h = (is.key, exact_bytes b j (equal_from_test _ same) ∙ is.spelt, is.parts)
      go false same h = only b h

  one_gone : (m : Content) (j : List ℕ) → HasKeysOnly m → HasKeysOnly (set_to j None m)
  one_gone m j only b has = go (eq_by_cmp (slice_cmp nat_cmp) b j) (sym (ap is_some (get-remove nat_list_cmp_total m j b)) ∙ has)
    where
      go : (t : Bool) → is_some (cond t None (get m b)) ≡ true → (k : Key) × (b ≡ bytes k) × IsKeyOfKind k
      go true h = cc
      go false h = only b h

  pub keys_left : (changes : List (List ℕ × Option (List ℕ))) (m : Content) → AreShaped rule changes → HasKeysOnly m → HasKeysOnly (after changes m)
  keys_left [] m are only = only
  keys_left ((j, None) ∷ ws) m are only = keys_left ws (set_to j None m) are (one_gone m j only)
  keys_left ((j, Some value) ∷ ws) m are only = keys_left ws (set_to j (Some value) m) are.2 (one_put m j value are.1 only)

  -- ---- short values

  told_short : (ws : List (Key × Option (List ℕ))) (k : Key) (old : Option (List ℕ)) (v : List ℕ) → AreShaped rule (spell ws) → (old ≡ Some v → length v ≤ value_limit) → told ws k old ≡ Some v → length v ≤ value_limit
  told_short [] k old v are short has = short has
  told_short ((j, None) ∷ ws) k old v are short has = told_short ws k (cond (same_key k j) None old) v are (one (same_key k j)) has
    where
      one : (b : Bool) → cond b None old ≡ Some v → length v ≤ value_limit
      one true is = cc
      one false is = short is
  told_short ((j, Some w) ∷ ws) k old v are short has = told_short ws k (cond (same_key k j) (Some w) old) v are.2 (one (same_key k j)) has
    where
      one : (b : Bool) → cond b (Some w) old ≡ Some v → length v ≤ value_limit
      one true is = let same : w ≡ v = cc in subst (λ (l : List ℕ). length l ≤ value_limit) same are.0.bounded
      one false is = short is

  pub rows_short : (ws : List (Key × Option (List ℕ))) (f : Key → Option (List ℕ)) → AreShaped rule (spell ws) → HasShortRows f → HasShortRows (view ws f)
  rows_short ws f are short k v of has = told_short ws k (f k) v are (short k v of) has
