-- The steps of a removal: what was found so far, and the changes that it added.
use Rattle.std.proofs.Common.{◌≡◌, ℕ, List, [], ◌∷◌, ◌++◌, map, Option, Some, None, refl, sym, ap, subst, ◌∙◌, append-nil, append_assoc}
use Rattle.std.proofs.lemmas.List.{map-append}
use Rattle.std.specs.FinMap.{entries}
use Rattle.ct_keep.specs.Content.{Content, entries_above, first_entry}
use Rattle.ct_keep.specs.Tail.{tail}
use Rattle.ct_keep.specs.laws.Tail.{first_above-tail}
use Rattle.ct_keep.specs.laws.Rising.{begins_with_prefix}
use Rattle.ct_keep.specs.KeeperViews.{Counts}
use Rattle.ct_keep.specs.Looks.{next_looks, scan_looks, RisesBy}
use Rattle.ct_keep.proofs.Scanning.{Scanning, scanning_none, scanning_more, scanning_ends, scanning_rises, scanning_short}
use Rattle.ct_entry.specs.declared.kinds.Kind.{Kind}
use Rattle.ct_entry.specs.Keys.{key, prefix_of}
use Rattle.ct_entry.specs.Changes.{spell, drop_key}
use Rattle.ct_entry.specs.laws.Changes.{spell-append}
use Rattle.ct_entry.specs.Removals.{longer_rests, drop_rests}

-- The removal has come to this rest: the changes that it added are those of the entries found so far.
pub record Removing (kind : Kind) (owner after : List ℕ) (m : Content) (old now : List (List ℕ × Option (List ℕ))) (before counts : Counts) : Type 0 where
  pub found : List (List ℕ × List ℕ)
  pub scanning : Scanning (prefix_of kind owner) (prefix_of kind owner ++ after) m found before counts
  pub added : now ≡ old ++ spell (drop_rests kind owner (map (λ e. e.0) found))

pub removing_none : (kind : Kind) (owner : List ℕ) (m : Content) (old : List (List ℕ × Option (List ℕ))) (before : Counts) → Removing kind owner [] m old old before before
removing_none kind owner m old before = record {
  found = [];
  scanning = subst (λ (k : List ℕ). Scanning (prefix_of kind owner) k m [] before before) (sym (append-nil (prefix_of kind owner))) (scanning_none (prefix_of kind owner) m before);
  added = sym (append-nil old);
}

-- the next entry was found, and its removal added
pub removing_more : (kind : Kind) (owner after rest value : List ℕ) (m : Content) (old now new : List (List ℕ × Option (List ℕ))) (before counts next : Counts) → Removing kind owner after m old now before counts
    → Some (rest, value) ≡ first_entry (entries_above after (tail (prefix_of kind owner) m)) → new ≡ now ++ spell (drop_key (key kind owner rest) ∷ []) → RisesBy (next_looks (prefix_of kind owner ++ after) m) counts next
    → Removing kind owner rest m old new before next
removing_more kind owner after rest value m old now new before counts next so_far is added rises = record {
  found = so_far.found ++ (rest, value) ∷ [];
  scanning =
      scanning_more (prefix_of kind owner) (prefix_of kind owner ++ after) m so_far.found before counts next so_far.scanning (rest, value) (prefix_of kind owner ++ rest)
      (is ∙ first_above-tail (prefix_of kind owner) after m) refl rises;
  added =
      added
      ∙ ap (λ (ws : List (List ℕ × Option (List ℕ))). ws ++ spell (drop_key (key kind owner rest) ∷ [])) so_far.added
      ∙ append_assoc old (spell (drop_rests kind owner (map (λ e. e.0) so_far.found))) (spell (drop_key (key kind owner rest) ∷ []))
      ∙ ap (λ (ws : List (List ℕ × Option (List ℕ))). old ++ ws) (sym (
      ap (λ (rests : List (List ℕ)). spell (drop_rests kind owner rests)) (map-append (λ (e : List ℕ × List ℕ). e.0) so_far.found ((rest, value) ∷ []))
      ∙ ap spell (map-append (λ (r : List ℕ). drop_key (key kind owner r)) (map (λ e. e.0) so_far.found) (rest ∷ []))
      ∙ spell-append (drop_rests kind owner (map (λ e. e.0) so_far.found)) (drop_key (key kind owner rest) ∷ [])
      ));
}

-- no entry is left
pub removing_ends : (kind : Kind) (owner after : List ℕ) (m : Content) (old now : List (List ℕ × Option (List ℕ))) (before counts : Counts) → Removing kind owner after m old now before counts
    → None ≡ first_entry (entries_above after (tail (prefix_of kind owner) m)) → now ≡ old ++ spell (drop_rests kind owner (longer_rests kind owner m))
removing_ends kind owner after m old now before counts so_far is =
    let all : so_far.found ≡ entries (tail (prefix_of kind owner) m) =
    scanning_ends (prefix_of kind owner) (prefix_of kind owner ++ after) m so_far.found before counts counts so_far.scanning (is ∙ first_above-tail (prefix_of kind owner) after m) (begins_with_prefix (prefix_of kind owner) after) in
    so_far.added ∙ ap (λ (es : List (List ℕ × List ℕ)). old ++ spell (drop_rests kind owner (map (λ e. e.0) es))) all

-- what the next look-up added, where its prefix and its rest have other names
pub looked_as : (kind : Kind) (owner after prefix rest : List ℕ) (m : Content) (counts next : Counts) → prefix ≡ prefix_of kind owner → rest ≡ after → RisesBy (next_looks (prefix ++ rest) m) counts next
    → RisesBy (next_looks (prefix_of kind owner ++ after) m) counts next
looked_as kind owner after prefix rest m counts next is same rises = subst (λ (k : List ℕ). RisesBy (next_looks k m) counts next) (λ i. is i ++ same i) rises

-- the look-ups so far, with one more that was made
pub removing_rises : (kind : Kind) (owner after : List ℕ) (m : Content) (old now : List (List ℕ × Option (List ℕ))) (before counts next : Counts) → Removing kind owner after m old now before counts
    → RisesBy (next_looks (prefix_of kind owner ++ after) m) counts next → RisesBy (scan_looks (prefix_of kind owner) m) before next
removing_rises kind owner after m old now before counts next so_far rises = scanning_rises (prefix_of kind owner) (prefix_of kind owner ++ after) m so_far.found before counts next so_far.scanning rises

-- and without
pub removing_short : (kind : Kind) (owner after : List ℕ) (m : Content) (old now : List (List ℕ × Option (List ℕ))) (before counts : Counts) → Removing kind owner after m old now before counts → RisesBy (scan_looks (prefix_of kind owner) m) before counts
removing_short kind owner after m old now before counts so_far = scanning_short (prefix_of kind owner) (prefix_of kind owner ++ after) m so_far.found before counts so_far.scanning
