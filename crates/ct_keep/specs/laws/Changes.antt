-- Contents of which each entry is one that the keeper may hold: one without an entry is, and a batch of such entries keeps it so.
use Rattle.std.specs.Prelude.{ℕ, ◌≡◌, Bool, true, false, List, [], ◌∷◌, Option, Some, None, unwrap_or, refl}
use Rattle.std.proofs.Common.{cond, sym, ap, subst, ◌∙◌}
use Rattle.std.specs.Option.{option_or}
use Rattle.std.specs.Ordering.{nat_cmp}
use Rattle.std.specs.Cmp.Lexicographic.{slice_cmp}
use denote.Struct.Props.{props}
use Rattle.std.specs.FinMap.{get, empty, get-empty}
use Rattle.ct_keep.specs.Content.{Content, Change, IsEntry, after}
use Rattle.ct_keep.specs.Changes.{AreWell, IsWell, HoldsWell, HoldsEntries}
use Rattle.ct_keep.specs.laws.Content.{same, same_keys, last_change, get-after}

-- a batch of entries that are of one kind is one of those that are of a wider kind
pub well_weaker : (a b : List ℕ → List ℕ → Type 0) → ((key value : List ℕ) → IsEntry key value → a key value → b key value) → (ws : List Change) → AreWell a ws → AreWell b ws
well_weaker a b wider [] are = tt
well_weaker a b wider ((key, None) ∷ ws) are = well_weaker a b wider ws are
well_weaker a b wider ((key, Some value) ∷ ws) are = (are.0, wider key value are.0 are.1, well_weaker a b wider ws are.2)

pub holds_none : (well : List ℕ → List ℕ → Type 0) → HoldsWell well empty
holds_none well = record { each = λ key value is. let none : get (empty {X = List ℕ} {R = slice_cmp nat_cmp}) key ≡ None = get-empty (slice_cmp nat_cmp) key in cc }

-- one change that puts an entry, behind which others stand
put_well : (well : List ℕ → List ℕ → Type 0) (q value key v : List ℕ) (later : Option (Option (List ℕ))) (here : Bool) → same q key ≡ here → (later ≡ Some (Some value) → IsWell well q value) → IsWell well key v
    → option_or later (cond here (Some (Some v)) None) ≡ Some (Some value) → IsWell well q value
put_well well q value key v (Some x) here s l w is = l is
put_well well q value key v None true s l w is =
    let one : v ≡ value = cc in
    subst (λ (k : List ℕ). IsWell well k value) (sym (same_keys q key s)) (subst (IsWell well key) one w)
put_well well q value key v None false s l w is = cc

-- one that takes an entry away
gone_well : (P : Type 0) (value : List ℕ) (later : Option (Option (List ℕ))) (here : Bool) → (later ≡ Some (Some value) → P) → option_or later (cond here (Some None) None) ≡ Some (Some value) → P
gone_well P value (Some x) here l is = l is
gone_well P value None true l is = cc
gone_well P value None false l is = cc

-- what the last change on a key puts
last_well : (well : List ℕ → List ℕ → Type 0) (q value : List ℕ) (ws : List Change) → AreWell well ws → last_change q ws ≡ Some (Some value) → IsWell well q value
last_well well q value [] a is = cc
last_well well q value ((key, None) ∷ ws) a is = gone_well (IsWell well q value) value (last_change q ws) (same q key) (λ l. last_well well q value ws a l) is
last_well well q value ((key, Some v) ∷ ws) a is = put_well well q value key v (last_change q ws) (same q key) refl (λ l. last_well well q value ws a.2 l) (a.0, a.1) is

by_last : (P : Type 0) (value : List ℕ) (o : Option (Option (List ℕ))) (was : Option (List ℕ)) → (o ≡ Some (Some value) → P) → (was ≡ Some value → P) → unwrap_or o was ≡ Some value → P
by_last P value None was l h is = h is
by_last P value (Some x) was l h is = l (ap Some is)

pub holds_after : (well : List ℕ → List ℕ → Type 0) (m : Content) (ws : List Change) → HoldsWell well m → AreWell well ws → HoldsWell well (after ws m)
holds_after well m ws h a = record {
  each = λ key value is. by_last (IsWell well key value) value (last_change key ws) (get m key) (λ l. last_well well key value ws a l) (h.each key value) (sym (get-after ws m key) ∙ is);
}

-- that all are within the bounds has one proof at most
pub HoldsEntries-prop : (m : Content) → IsProp (HoldsEntries m)
HoldsEntries-prop m = hlevel props
