-- Whether each entry of a map in memory is well shaped, one after the other.
use Rattle.std.proofs.Common.{◌≡◌, ap, Bool, true, false, cond, List, [], ◌∷◌, Option, Some, refl, sym, subst, ◌∙◌}
use Rattle.std.specs.Ordering.{nat_cmp, eq_by_cmp}
use Rattle.std.specs.Cmp.Lexicographic.{slice_cmp}
use Rattle.std.specs.List.{AllByRecursion}
use Rattle.std.specs.FinMap.{entries, find, get-entries}
use Rattle.std.proofs.lemmas.Cmp.{nat_list_cmp_total}
use Rattle.std.specs.Prelude.{ℕ, IsTrue, ◌↔◌}
use Rattle.ct_keep.specs.EntryKeys.{key_bytes}
use Rattle.ct_keep.specs.Pairs.{pairs, HeldEntry}
use Rattle.ct_keep.specs.Content.{Content}
use Rattle.ct_keep.specs.Changes.{HoldsWell, IsWell}
use Rattle.ct_keep.specs.laws.FoundKeys.{found_listed}
use Rattle.ct_keep.specs.laws.Content.{same_keys}
use Rattle.ct_keep.specs.laws.RisingKeys.{entries_rise}

abbrev pub EachWell : (List ℕ → List ℕ → Type 0) → List (List ℕ × List ℕ) → Type 0
EachWell well es = AllByRecursion (λ e. IsWell well e.0 e.1) es

pub each_from_holds : (well : List ℕ → List ℕ → Type 0) (m : Content) → HoldsWell well m → EachWell well (entries m)
each_from_holds well m h = found_listed (slice_cmp nat_cmp) nat_list_cmp_total (λ e. IsWell well e.0 e.1) (entries m) (entries_rise (slice_cmp nat_cmp) m) (λ key value is. h.each key value (get-entries m key ∙ is))

well_here : (well : List ℕ → List ℕ → Type 0) (e : List ℕ × List ℕ) (key value : List ℕ) (rest : Option (List ℕ)) → IsWell well e.0 e.1 → (rest ≡ Some value → IsWell well key value) → (b : Bool) → eq_by_cmp (slice_cmp nat_cmp) key e.0 ≡ b
    → cond b (Some e.1) rest ≡ Some value → IsWell well key value
well_here well e key value rest here later true same is =
    let one : e.1 ≡ value = cc in
    subst (λ (k : List ℕ). IsWell well k value) (sym (same_keys key e.0 same)) (subst (IsWell well e.0) one here)
well_here well e key value rest here later false other is = later is

found_well : (well : List ℕ → List ℕ → Type 0) (es : List (List ℕ × List ℕ)) (key value : List ℕ) → EachWell well es → find (slice_cmp nat_cmp) key es ≡ Some value → IsWell well key value
found_well well [] key value each is = cc
found_well well (e ∷ es) key value each is = well_here well e key value (find (slice_cmp nat_cmp) key es) each.0 (λ later. found_well well es key value each.1 later) (eq_by_cmp (slice_cmp nat_cmp) key e.0) refl is

pub holds_from_each : (well : List ℕ → List ℕ → Type 0) (m : Content) → EachWell well (entries m) → HoldsWell well m
holds_from_each well m each = record { each = λ key value is. found_well well (entries m) key value each (sym (get-entries m key) ∙ is) }

-- what is left of some entries while they are gone through: all of them are well shaped exactly where these are
pub record AsMuch (well : List ℕ → List ℕ → Type 0) (all left : List (List ℕ × List ℕ)) : Type 0 where
  pub onward : EachWell well left → EachWell well all
  pub back : EachWell well all → EachWell well left

pub as_much_next : (well : List ℕ → List ℕ → Type 0) (all left : List (List ℕ × List ℕ)) (key value : List ℕ) → AsMuch well all ((key, value) ∷ left) → IsWell well key value → AsMuch well all left
as_much_next well all left key value a is = record { onward = λ each. a.onward (is, each); back = λ each. (a.back each).1 }

-- all entries were gone through
pub all_well : (well : List ℕ → List ℕ → Type 0) (m : Content) (all start rest : List HeldEntry) → entries m ≡ pairs all → start ≡ all → AsMuch well (pairs start) (pairs rest) → rest ≡ [] → IsTrue true ↔ HoldsWell well m
all_well well m all start rest es s a none = (λ t. holds_from_each well m (subst (EachWell well) (ap pairs s ∙ sym es) (a.onward (subst (λ (l : List HeldEntry). EachWell well (pairs l)) (sym none) tt))), λ h. refl)

-- one was met that isn't well shaped
pub not_well : (well : List ℕ → List ℕ → Type 0) (m : Content) (all start rest more : List HeldEntry) (e : HeldEntry) → entries m ≡ pairs all → start ≡ all → AsMuch well (pairs start) (pairs rest) → rest ≡ e ∷ more
    → (IsWell well (key_bytes e.0) e.1.items → ⊥) → IsTrue false ↔ HoldsWell well m
not_well well m all start rest more e es s a is bad = (λ t. cc, λ h. absurd (bad (subst (λ (l : List HeldEntry). EachWell well (pairs l)) is (a.back (subst (EachWell well) (es ∙ ap pairs (sym s)) (each_from_holds well m h)))).0))
