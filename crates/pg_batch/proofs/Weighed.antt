-- What the entries weigh that changes replace, one after the other.
use Rattle.std.specs.Prelude.{map}
use Rattle.std.proofs.Common.{◌≡◌, ℕ, zero, suc, ◌+◌, ◌≤◌, ◌<◌, List, [], ◌∷◌, length, take, get_or, Option, Some, None, refl, sym, ap, ◌∙◌, arith}
use Rattle.std.specs.FinMap.{get}
use Rattle.ct_keep.specs.Content.{Content, Change, entry_weight, value_weight, changes_weight}
use Rattle.ct_keep.specs.laws.Rising.{Entry}
use Rattle.ct_keep.specs.SeenChanges.{change_of}
use Rattle.ct_keep.specs.declared.batches.Change.{Change as OwnChange}
use Rattle.pg_map.specs.Holding.{IsLayout}
use Rattle.pg_map.specs.Kinds.{Each}
use Rattle.pg_directory.specs.declared.entries.EntryAt.{EntryAt}
use Rattle.pg_directory.specs.Listing.{entry_at}
use Rattle.pg_directory.specs.Trees.{StorePage, IsPage, kind_of}
use Rattle.pg_directory.specs.laws.Listing.{has_entry}
use Rattle.pg_batch.specs.Places.{IsKeyPlace, AreKeyPlaces}
use Rattle.pg_batch.specs.Weights.{old_weight}
use Rattle.pg_batch.specs.laws.Places.{none_there, one_there}

-- ---- an entry

pub nothing_weighed : (pages : List StorePage) (m : Content) (are : Each IsPage pages) (layout : IsLayout (map kind_of pages) m) (key : List ℕ)
    → IsKeyPlace pages key None → 0 ≡ value_weight key (get m key)
nothing_weighed pages m are layout key none = ap (value_weight key) (sym (none_there pages m are layout key none))

pub entry_weighed : (pages : List StorePage) (m : Content) (are : Each IsPage pages) (layout : IsLayout (map kind_of pages) m) (key : List ℕ) (at : EntryAt) (entry : Entry) → IsKeyPlace pages key (Some at) → entry_at pages at ≡ entry
    → entry_weight entry ≡ value_weight key (get m key)
entry_weighed pages m are layout key at entry is read =
    let h = has_entry pages m are layout at is.0 in
    ap entry_weight (sym read) ∙ ap (λ (k : List ℕ). entry_weight (k, (entry_at pages at).1)) (h.key ∙ is.1) ∙ ap (value_weight key) (sym (one_there pages m are layout key at is))

-- ---- the first so many

-- The place at an index is that of the change there.
pub record IsPlaceAt (pages : List StorePage) (m : Content) (ws : List Change) (i : ℕ) (o : Option EntryAt) : Type 0 where
  pub key : List ℕ
  pub place : IsKeyPlace pages key o
  pub more : old_weight (take (i + 1) ws) m ≡ old_weight (take i ws) m + value_weight key (get m key)

pub place_at : (pages : List StorePage) (m : Content) (ws : List Change) (os : List (Option EntryAt)) (i : ℕ) (d : Option EntryAt) → AreKeyPlaces pages ws os
    → i < length os → IsPlaceAt pages m ws i (get_or os i d)
place_at pages m [] [] i d are less = absurd (omega (arith, less))
place_at pages m [] (o ∷ os) i d are less = absurd are
place_at pages m (w ∷ ws) [] i d are less = absurd are
place_at pages m (w ∷ ws) (o ∷ os) zero d are less = record { key = w.0; place = are.0; more = omega arith }
place_at pages m (w ∷ ws) (o ∷ os) (suc i) d are less =
    let rest = place_at pages m ws os i d are.1 (omega (arith, less)) in
    let n : i + 1 ≡ suc i = omega arith in
    let one = ap (λ (k : ℕ). old_weight (take k ws) m) n in
    let e : suc i + 1 ≡ suc (suc i) = omega arith in
    let all = ap (λ (k : ℕ). old_weight (take k (w ∷ ws)) m) e in
    let more = rest.more in
    record { key = rest.key; place = rest.place; more = omega (arith, one, all, more) }

-- all of them
pub all_old : (pages : List StorePage) (m : Content) (ws : List Change) (os : List (Option EntryAt)) (i : ℕ) → AreKeyPlaces pages ws os → length os ≤ i
    → old_weight (take i ws) m ≡ old_weight ws m
all_old pages m [] [] zero are all = refl
all_old pages m [] [] (suc i) are all = refl
all_old pages m [] (o ∷ os) i are all = absurd are
all_old pages m (w ∷ ws) [] i are all = absurd are
all_old pages m (w ∷ ws) (o ∷ os) zero are all = absurd (omega (arith, all))
all_old pages m (w ∷ ws) (o ∷ os) (suc i) are all = ap (λ (n : ℕ). value_weight w.0 (get m w.0) + n) (all_old pages m ws os i are.1 (omega (arith, all)))

-- ---- the entries that are put

next_weight : (ws : List OwnChange) (i : ℕ) (w : OwnChange) → i < length ws
    → changes_weight (map change_of (take (suc i) ws)) ≡ changes_weight (map change_of (take i ws)) + value_weight (change_of (get_or ws i w)).0 (change_of (get_or ws i w)).1
next_weight [] i w less = absurd (omega (arith, less))
next_weight (x ∷ ws) zero w less = omega arith
next_weight (x ∷ ws) (suc i) w less = let rest = next_weight ws i w (omega (arith, less)) in omega (arith, rest)

pub more_weight : (ws : List OwnChange) (i : ℕ) (w : OwnChange) → i < length ws → w ≡ get_or ws i w
    → changes_weight (map change_of (take (i + 1) ws)) ≡ changes_weight (map change_of (take i ws)) + value_weight (change_of w).0 (change_of w).1
more_weight ws i w less is =
    let n : suc i ≡ i + 1 = omega arith in
    let all = ap (λ (k : ℕ). changes_weight (map change_of (take k ws))) n in
    let next = next_weight ws i w less in
    let own = ap (λ (v : OwnChange). value_weight (change_of v).0 (change_of v).1) is in
    omega (arith, all, next, own)
