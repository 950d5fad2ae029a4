-- What a content has after changes on keys, and what changes leave alone.
use Rattle.std.proofs.Common.{◌≡◌, ℕ, Bool, true, false, cond, List, [], ◌∷◌, ◌++◌, Option, Some, None, refl, sym, ap, ◌∙◌}
use Rattle.std.specs.Prelude.{is_some}
use Rattle.std.proofs.lemmas.Cmp.{nat_list_cmp_total}
use Rattle.std.proofs.lemmas.Map.Lookups.{exact_bytes}
use Rattle.std.specs.Ordering.{nat_cmp, eq_by_cmp}
use Rattle.std.specs.Cmp.Lexicographic.{slice_cmp}
use Rattle.std.specs.FinMap.{get, get-insert, get-remove}
use Rattle.ct_keep.specs.Content.{Content, set_to, after}
use Rattle.ct_entry.specs.declared.kinds.Kind.{Kind}
use Rattle.ct_entry.specs.Keys.{Key, bytes, same_key, same_list, at, IsKeyOfKind, HasKeysOnly}
use Rattle.ct_entry.specs.Changes.{spell, told, view, AreChanges, AllOf, AllOn}
use Rattle.ct_base.specs.laws.Orders.{equal_from_test}
use Rattle.ct_entry.specs.laws.Keys.{key_from_same, bytes_same, list_same}

-- ---- what the changes say

pub at-set_to : (m : Content) (j : Key) (v : Option (List ℕ)) (k : Key) → at (set_to (bytes j) v m) k ≡ cond (same_key k j) v (at m k)
at-set_to m j (Some v) k = get-insert nat_list_cmp_total m (bytes j) v (bytes k) ∙ ap (λ b. cond b (Some v) (at m k)) (bytes_same k j)
at-set_to m j None k = get-remove nat_list_cmp_total m (bytes j) (bytes k) ∙ ap (λ b. cond b None (at m k)) (bytes_same k j)

-- after a batch each key has what its changes say
pub at-after : (ws : List (Key × Option (List ℕ))) (m : Content) (k : Key) → at (after (spell ws) m) k ≡ told ws k (at m k)
at-after [] m k = refl
at-after (w ∷ ws) m k = at-after ws (set_to (bytes w.0) w.1 m) k ∙ ap (told ws k) (at-set_to m w.0 w.1 k)

pub at_view : (ws : List (Key × Option (List ℕ))) (m : Content) → at (after (spell ws) m) ≡ view ws (at m)
at_view ws m = λ i k. at-after ws m k i

pub told-append : (xs ys : List (Key × Option (List ℕ))) (k : Key) (old : Option (List ℕ)) → told (xs ++ ys) k old ≡ told ys k (told xs k old)
told-append [] ys k old = refl
told-append (x ∷ xs) ys k old = told-append xs ys k (cond (same_key k x.0) x.1 old)

pub view-append : (xs ys : List (Key × Option (List ℕ))) (f : Key → Option (List ℕ)) → view (xs ++ ys) f ≡ view ys (view xs f)
view-append xs ys f = λ i k. told-append xs ys k (f k) i

pub spell-append : (xs ys : List (Key × Option (List ℕ))) → spell (xs ++ ys) ≡ spell xs ++ spell ys
spell-append [] ys = refl
spell-append (x ∷ xs) ys = ap (λ ws. (bytes x.0, x.1) ∷ ws) (spell-append xs ys)

-- ---- no other entries

get-set_to : (m : Content) (j : List ℕ) (v : Option (List ℕ)) (b : List ℕ) → get (set_to j v m) b ≡ cond (eq_by_cmp (slice_cmp nat_cmp) b j) v (get m b)
get-set_to m j (Some v) b = get-insert nat_list_cmp_total m j v b
get-set_to m j None b = get-remove nat_list_cmp_total m j b

only-set_to : (m : Content) (j : Key) (v : Option (List ℕ)) → HasKeysOnly m → IsKeyOfKind j → HasKeysOnly (set_to (bytes j) v m)
only-set_to m j v only is b has =
    elim (eq_by_cmp (slice_cmp nat_cmp) b (bytes j)) as (λ t. eq_by_cmp (slice_cmp nat_cmp) b (bytes j) ≡ t → is_some (cond t v (get m b)) ≡ true → (k : Key) × (b ≡ bytes k) × IsKeyOfKind k) [
      | true ↦ λ t _. (j, exact_bytes b (bytes j) (equal_from_test _ t), is)
      | false ↦ λ t h. only b h
    ] refl (sym (ap is_some (get-set_to m (bytes j) v b)) ∙ has)

-- a batch on keys of the kinds leaves no other entry
pub only-after : (ws : List (Key × Option (List ℕ))) (m : Content) → HasKeysOnly m → AreChanges ws → HasKeysOnly (after (spell ws) m)
only-after [] m only are = only
only-after (w ∷ ws) m only are = only-after ws (set_to (bytes w.0) w.1 m) (only-set_to m w.0 w.1 only are.0) are.1

pub are-append : (xs ys : List (Key × Option (List ℕ))) → AreChanges xs → AreChanges ys → AreChanges (xs ++ ys)
are-append [] ys a b = b
are-append (x ∷ xs) ys a b = (a.0, are-append xs ys a.1 b)

-- ---- what is left alone

-- changes on some kinds leave each key of another kind
pub told_frame : (p : Kind → Bool) (ws : List (Key × Option (List ℕ))) (k : Key) (old : Option (List ℕ)) → AllOf p ws → p k.kind ≡ false → told ws k old ≡ old
told_frame p [] k old all other = refl
told_frame p (w ∷ ws) k old all other = told_frame p ws k (cond (same_key k w.0) w.1 old) all.1 other ∙ ap (λ (b : Bool). cond b w.1 old) apart
  where
    differ : (b : Bool) → b ≡ false → b ≡ true → ⊥
    differ b f t = let e : false ≡ true = sym f ∙ t in cc

    apart : same_key k w.0 ≡ false
    apart = elim (same_key k w.0) as (λ b. same_key k w.0 ≡ b → b ≡ false) [
      | true ↦ λ h. let e : p k.kind ≡ p w.0.kind = ap (λ (j : Key). p j.kind) (key_from_same k w.0 h) in let t = all.0 in absurd (differ (p k.kind) other (e ∙ t))
      | false ↦ λ h. refl
    ] refl

pub all-append : (p : Kind → Bool) (xs ys : List (Key × Option (List ℕ))) → AllOf p xs → AllOf p ys → AllOf p (xs ++ ys)
all-append p [] ys a b = b
all-append p (x ∷ xs) ys a b = (a.0, all-append p xs ys a.1 b)

-- ---- changes on the entries of one owner

pub all_on-append : (i : List ℕ) (xs ys : List (Key × Option (List ℕ))) → AllOn i xs → AllOn i ys → AllOn i (xs ++ ys)
all_on-append i [] ys a b = b
all_on-append i (x ∷ xs) ys a b = (a.0, all_on-append i xs ys a.1 b)

-- they leave the keys of others
pub told_others : (i : List ℕ) (ws : List (Key × Option (List ℕ))) (k : Key) (old : Option (List ℕ)) → AllOn i ws → same_list k.owner i ≡ false
    → told ws k old ≡ old
told_others i [] k old all other = refl
told_others i (w ∷ ws) k old all other =
    told_others i ws k (cond (same_key k w.0) w.1 old) all.1 other ∙ ap (λ (b : Bool). cond b w.1 old) (apart (same_key k w.0) refl)
  where
    apart : (b : Bool) → same_key k w.0 ≡ b → b ≡ false
    apart true h =
        let one : k.owner ≡ i = ap (λ (j : Key). j.owner) (key_from_same k w.0 h) ∙ all.0 in
        let wrong : true ≡ false = sym (list_same i) ∙ ap (λ (l : List ℕ). same_list l i) (sym one) ∙ other in
        cc
    apart false h = refl
