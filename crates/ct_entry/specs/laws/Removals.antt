-- What the removal of all entries of a kind that an owner has leaves.
use Rattle.std.proofs.Common.{◌≡◌, ℕ, Bool, true, false, cond, List, [], ◌∷◌, ◌++◌, map, Option, Some, None, refl, sym, ap, subst, ◌∙◌, append-nil, append_assoc}
use Rattle.std.specs.Prelude.{◌||◌, ◌&&◌, ◌==◌, is_some}
use Rattle.std.specs.Option.{option_and_then}
use Rattle.std.specs.List.{list_any}
use Rattle.std.specs.Ordering.{nat_cmp, eq_by_cmp}
use Rattle.std.specs.Cmp.Lexicographic.{slice_cmp}
use Rattle.std.specs.FinMap.{get, entries}
use Rattle.std.proofs.lemmas.Bool.{eqb-true, eq-eqb, and_parts, and_from}
use Rattle.std.proofs.lemmas.Cmp.{nat_list_cmp_total}
use Rattle.std.proofs.lemmas.List.{map-append}
use Rattle.std.proofs.lemmas.List.Folds.{list_any-append}
use Rattle.ct_keep.specs.Content.{Content, after}
use Rattle.ct_keep.specs.Tail.{tail}
use Rattle.ct_keep.specs.laws.Tail.{get-tail, get-tail_nil}
use Rattle.ct_keep.specs.Changes.{AreWell}
use Rattle.ct_keep.specs.laws.FoundKeys.{AllKeys, all_keys}
use Rattle.ct_entry.specs.declared.kinds.Kind.{Kind}
use Rattle.ct_entry.specs.Kinds.{code}
use Rattle.ct_entry.specs.Keys.{Key, key, bytes, at, prefix_of, same_list, same_key, IsKeyOfKind, HasKeysOnly}
use Rattle.ct_entry.specs.Changes.{spell, drop_key, told, view, AreChanges, AllOf}
use Rattle.ct_entry.specs.Shapes.{AreShaped}
use Rattle.ct_entry.specs.Removals.{empty_rest, longer_rests, rests_of, drop_rests, owned_removals, is_owned, without_owned, SameOwned, OnlyRemoves}
use Rattle.ct_entry.specs.laws.Keys.{kind_from_code, key_from_parts, key_from_bytes, list_from_same, list_same}
use Rattle.ct_entry.specs.laws.Changes.{at_view}
use Rattle.ct_entry.specs.laws.Each.{map-each, told_each}
use Rattle.ct_entry.specs.laws.Maps.{names_tie}
use Rattle.ct_entry.specs.laws.Rows.{has_key, keys_always}
use Rattle.ct_entry.specs.laws.Well.{well-append}

-- ---- which keys are there

-- a list of rests, tested by either test on names
any_tie : (rest : List ℕ) (rests : List (List ℕ)) → list_any (same_list rest) rests ≡ list_any (eq_by_cmp (slice_cmp nat_cmp) rest) rests
any_tie rest [] = refl
any_tie rest (r ∷ rs) = ap (λ (b : Bool). b || list_any (same_list rest) rs) (sym (names_tie rest r)) ∙ ap (λ (b : Bool). eq_by_cmp (slice_cmp nat_cmp) rest r || b) (any_tie rest rs)

some_again : (o : Option (List ℕ)) → option_and_then (λ (x : List ℕ). Some x) o ≡ o
some_again None = refl
some_again (Some x) = refl

-- a key is among those of a map exactly where the map has it
among_keys : (F : Content) (rest : List ℕ) → list_any (same_list rest) (map (λ e. e.0) (entries F)) ≡ is_some (get F rest)
among_keys F rest =
    any_tie rest (map (λ e. e.0) (entries F))
    ∙ ap (list_any (eq_by_cmp (slice_cmp nat_cmp) rest)) (sym (keys_always (λ (x : List ℕ). x) (entries F)))
    ∙ has_key (slice_cmp nat_cmp) nat_list_cmp_total (λ (x : List ℕ). Some x) F rest
    ∙ ap is_some (some_again (get F rest))

-- a rest is one of an owner's entries exactly where the content has its key
pub rests_are : (kind : Kind) (owner : List ℕ) (m : Content) (rest : List ℕ) → list_any (same_list rest) (rests_of kind owner m) ≡ is_some (at m (key kind owner rest))
rests_are kind owner m rest =
    list_any-append (same_list rest) (empty_rest (at m (key kind owner []))) (longer_rests kind owner m)
    ∙ ap (λ (b : Bool). list_any (same_list rest) (empty_rest (at m (key kind owner []))) || b) (among_keys (tail (prefix_of kind owner) m) rest)
    ∙ at_rest rest
  where
    own : (o : Option (List ℕ)) → (list_any (same_list []) (empty_rest o) || false) ≡ is_some o
    own None = refl
    own (Some x) = refl

    not_own : (o : Option (List ℕ)) (x : ℕ) (q : List ℕ) → list_any (same_list (x ∷ q)) (empty_rest o) ≡ false
    not_own None x q = refl
    not_own (Some y) x q = refl

    at_rest : (rest : List ℕ) → (list_any (same_list rest) (empty_rest (at m (key kind owner []))) || is_some (get (tail (prefix_of kind owner) m) rest)) ≡ is_some (at m (key kind owner rest))
    at_rest [] = ap (λ (o : Option (List ℕ)). list_any (same_list []) (empty_rest (at m (key kind owner []))) || is_some o) (get-tail_nil (prefix_of kind owner) m) ∙ own (at m (key kind owner []))
    at_rest (x ∷ q) =
        ap (λ (b : Bool). b || is_some (get (tail (prefix_of kind owner) m) (x ∷ q))) (not_own (at m (key kind owner [])) x q)
        ∙ ap is_some (get-tail (prefix_of kind owner) m x q)

-- ---- what the changes leave

pub told-drop_rests : (kind : Kind) (owner : List ℕ) (rests : List (List ℕ)) (k : Key) (old : Option (List ℕ)) → told (drop_rests kind owner rests) k old ≡ cond (is_owned kind owner k && list_any (same_list k.part) rests) None old
told-drop_rests kind owner rests k old =
    ap (λ (ws : List (Key × Option (List ℕ))). told ws k old) (map-each (λ rest. drop_key (key kind owner rest)) rests)
    ∙ told_each (λ rest. drop_key (key kind owner rest) ∷ []) k (λ rest. same_key k (key kind owner rest)) None (λ rest o. refl) rests old
    ∙ ap (λ (b : Bool). cond b None old) (hits (code k.kind == code kind) (same_list k.owner owner) rests)
  where
    hits : (a b : Bool) (rests : List (List ℕ)) → list_any (λ (rest : List ℕ). a && (b && same_list k.part rest)) rests ≡ ((a && b) && list_any (same_list k.part) rests)
    hits true true [] = refl
    hits true false [] = refl
    hits false b [] = refl
    hits true true (r ∷ rs) = ap (λ (c : Bool). same_list k.part r || c) (hits true true rs)
    hits true false (r ∷ rs) = hits true false rs
    hits false b (r ∷ rs) = hits false b rs

-- a key of the kind and the owner is known by its rest
pub owned_is : (kind : Kind) (owner : List ℕ) (k : Key) → is_owned kind owner k ≡ true → k ≡ key kind owner k.part
owned_is kind owner k h =
    let both = and_parts _ _ h in
    key_from_parts k (key kind owner k.part) (kind_from_code k.kind kind (eqb-true (code k.kind) (code kind) both.0)) (list_from_same k.owner owner both.1) refl

-- After the removal a view has nothing at a key of the kind and the owner, and at every other key what it had, where it had the owner's entries of the content.
pub view-owned_removals : (kind : Kind) (owner : List ℕ) (m : Content) (f : Key → Option (List ℕ)) → SameOwned kind owner (at m) f → view (owned_removals kind owner m) f ≡ without_owned kind owner f
view-owned_removals kind owner m f same = λ i k. at_key k i
  where
    gone : (o : Option (List ℕ)) → cond (is_some o) None o ≡ None
    gone None = refl
    gone (Some x) = refl

    by_owner : (k : Key) (b : Bool) → is_owned kind owner k ≡ b → cond (b && is_some (at m (key kind owner k.part))) None (f k) ≡ cond b None (f k)
    by_owner k true h = ap (cond (is_some (at m (key kind owner k.part))) None) (ap f (owned_is kind owner k h) ∙ same k.part) ∙ gone (at m (key kind owner k.part))
    by_owner k false h = refl

    at_key : (k : Key) → told (owned_removals kind owner m) k (f k) ≡ without_owned kind owner f k
    at_key k =
        told-drop_rests kind owner (rests_of kind owner m) k (f k)
        ∙ ap (λ (b : Bool). cond (is_owned kind owner k && b) None (f k)) (rests_are kind owner m k.part)
        ∙ by_owner k (is_owned kind owner k) refl

-- after the removal of a content's own entries
pub view-owned_removals_at : (kind : Kind) (owner : List ℕ) (m : Content) → view (owned_removals kind owner m) (at m) ≡ without_owned kind owner (at m)
view-owned_removals_at kind owner m = view-owned_removals kind owner m (at m) (λ rest. refl)

-- no entry of the kind and the owner is there
pub owned_gone : (kind : Kind) (owner : List ℕ) (m : Content) (rest : List ℕ) → at (after (spell (owned_removals kind owner m)) m) (key kind owner rest) ≡ None
owned_gone kind owner m rest =
    (λ i. at_view (owned_removals kind owner m) m i (key kind owner rest))
    ∙ (λ i. view-owned_removals_at kind owner m i (key kind owner rest))
    ∙ ap (λ (b : Bool). cond b None (at m (key kind owner rest))) (and_from (code kind == code kind) (same_list owner owner) (eq-eqb (code kind) (code kind) refl) (list_same owner))

-- and every other key has what it had
pub others_left : (kind : Kind) (owner : List ℕ) (m : Content) (k : Key) → is_owned kind owner k ≡ false → at (after (spell (owned_removals kind owner m)) m) k ≡ at m k
others_left kind owner m k other =
    (λ i. at_view (owned_removals kind owner m) m i k)
    ∙ (λ i. view-owned_removals_at kind owner m i k)
    ∙ ap (λ (b : Bool). cond b None (at m k)) other

-- ---- the changes themselves

-- changes that only take away are well shaped by any rule
pub drops_shaped : (rule : Key → List ℕ → Type 0) (kind : Kind) (owner : List ℕ) (rests : List (List ℕ)) → AreShaped rule (spell (drop_rests kind owner rests))
drops_shaped rule kind owner [] = tt
drops_shaped rule kind owner (r ∷ rs) = drops_shaped rule kind owner rs

pub removals_shaped : (rule : Key → List ℕ → Type 0) (kind : Kind) (owner : List ℕ) (m : Content) → AreShaped rule (spell (owned_removals kind owner m))
removals_shaped rule kind owner m = drops_shaped rule kind owner (rests_of kind owner m)

pub all_removals : (p : Kind → Bool) (kind : Kind) (owner : List ℕ) (m : Content) → p kind ≡ true → AllOf p (owned_removals kind owner m)
all_removals p kind owner m of = each (rests_of kind owner m)
  where
    each : (rests : List (List ℕ)) → AllOf p (drop_rests kind owner rests)
    each [] = tt
    each (r ∷ rs) = (of, each rs)

-- where the content has keys of the kinds only, so have its removals
pub are_removals : (kind : Kind) (owner : List ℕ) (m : Content) → HasKeysOnly m → AreChanges (owned_removals kind owner m)
are_removals kind owner m only = first (at m (key kind owner [])) refl
  where
    is_key : (rest : List ℕ) → is_some (at m (key kind owner rest)) ≡ true → IsKeyOfKind (key kind owner rest)
    is_key rest there = let k = only (bytes (key kind owner rest)) there in subst IsKeyOfKind (key_from_bytes k.0 (key kind owner rest) (sym k.1)) k.2

    behind : (rest value : List ℕ) → get (tail (prefix_of kind owner) m) rest ≡ Some value → IsKeyOfKind (key kind owner rest)
    behind [] value is = let none : None ≡ Some value = sym (get-tail_nil (prefix_of kind owner) m) ∙ is in cc
    behind (x ∷ q) value is = is_key (x ∷ q) (ap is_some (sym (get-tail (prefix_of kind owner) m x q) ∙ is))

    each : (es : List (List ℕ × List ℕ)) → AllKeys (slice_cmp nat_cmp) (λ rest. IsKeyOfKind (key kind owner rest)) es → AreChanges (drop_rests kind owner (map (λ e. e.0) es))
    each [] all = tt
    each (e ∷ es) all = (all.0, each es all.1)

    longer : AreChanges (drop_rests kind owner (longer_rests kind owner m))
    longer = each (entries (tail (prefix_of kind owner) m)) (all_keys (slice_cmp nat_cmp) nat_list_cmp_total (λ rest. IsKeyOfKind (key kind owner rest)) (tail (prefix_of kind owner) m) behind)

    first : (o : Option (List ℕ)) → at m (key kind owner []) ≡ o → AreChanges (drop_rests kind owner (empty_rest o ++ longer_rests kind owner m))
    first None is = longer
    first (Some value) is = (is_key [] (ap is_some is), longer)

-- ---- batches

-- a batch to which only removals were added may be made where it might before
pub well_removes : (well : List ℕ → List ℕ → Type 0) (old new : List (List ℕ × Option (List ℕ))) → OnlyRemoves old new → AreWell well old → AreWell well new
well_removes well old new removes before = subst (AreWell well) (sym removes.is) (well-append well old (map (λ k. (k, None)) removes.keys) before (each removes.keys))
  where
    each : (keys : List (List ℕ)) → AreWell well (map (λ k. (k, None)) keys)
    each [] = tt
    each (k ∷ ks) = each ks

pub removes_none : (old : List (List ℕ × Option (List ℕ))) → OnlyRemoves old old
removes_none old = record { keys = []; is = sym (append-nil old) }

-- some removals were added, and then others
pub removes_then : (old mid new : List (List ℕ × Option (List ℕ))) → OnlyRemoves old mid → OnlyRemoves mid new → OnlyRemoves old new
removes_then old mid new first second = record {
  keys = first.keys ++ second.keys;
  is =
      second.is
      ∙ ap (λ (ws : List (List ℕ × Option (List ℕ))). ws ++ map (λ k. (k, None)) second.keys) first.is
      ∙ append_assoc old (map (λ k. (k, None)) first.keys) (map (λ k. (k, None)) second.keys)
      ∙ ap (λ (ws : List (List ℕ × Option (List ℕ))). old ++ ws) (sym (map-append (λ (k : List ℕ). (k, None)) first.keys second.keys));
}

pub removes_one : (old new : List (List ℕ × Option (List ℕ))) (k : List ℕ) → new ≡ old ++ (k, None) ∷ [] → OnlyRemoves old new
removes_one old new k is = record { keys = k ∷ []; is = is }

-- removals that were added to an empty batch are added to another
pub removes_appended : (empty all old new : List (List ℕ × Option (List ℕ))) → empty ≡ [] → OnlyRemoves empty all → new ≡ old ++ all → OnlyRemoves old new
removes_appended empty all old new none removes is = record {
  keys = removes.keys;
  is = is ∙ ap (λ (ws : List (List ℕ × Option (List ℕ))). old ++ ws) (removes.is ∙ ap (λ (ws : List (List ℕ × Option (List ℕ))). ws ++ map (λ k. (k, None)) removes.keys) none);
}
