-- Statements that only take entries away: their batches weigh nothing and are ones that a store takes, and what is left of a map is no more.
use Rattle.std.proofs.Common.{◌≡◌, ℕ, ◌≤◌, Bool, true, false, cond, List, [], ◌∷◌, ◌++◌, length, map, Option, None, refl, sym, ap, subst, ◌∙◌, arith}
use Rattle.std.specs.Prelude.{filter, nat_lt}
use Rattle.ct_keep.specs.Content.{changes_weight}
use Rattle.ct_entry.specs.Shapes.{IsShaped}
use Rattle.ct_entry.specs.Removals.{OnlyRemoves}
use Rattle.ct_entry.specs.laws.Removals.{well_removes}
use Rattle.db_state.specs.Shapes.{HasStoreValue, AreStoreChanges}

-- ---- a batch to which only removals were added, from nothing on

pub removals_light : (none new : List (List ℕ × Option (List ℕ))) → none ≡ [] → OnlyRemoves none new → changes_weight new ≡ 0
removals_light none new empty removes = ap changes_weight (removes.is ∙ ap (λ (ws : List (List ℕ × Option (List ℕ))). ws ++ map (λ k. (k, None)) removes.keys) empty) ∙ each removes.keys
  where
    each : (keys : List (List ℕ)) → changes_weight (map (λ k. (k, None)) keys) ≡ 0
    each [] = refl
    each (k ∷ ks) = let rest = each ks in omega (arith, rest)

pub removals_taken : (none new : List (List ℕ × Option (List ℕ))) → none ≡ [] → OnlyRemoves none new → AreStoreChanges new
removals_taken none new empty removes = well_removes (IsShaped HasStoreValue) none new removes (subst AreStoreChanges (sym empty) tt)

-- ---- what is kept of a list

pub fewer_kept : {E : Type 0} (p q : E → Bool) (es : List E) → length (filter p (filter q es)) ≤ length (filter p es)
fewer_kept p q [] = omega arith
fewer_kept p q (e ∷ es) = go (q e) (p e) refl (fewer_kept p q es)
  where
    go : (kept passes : Bool) → p e ≡ passes → length (filter p (filter q es)) ≤ length (filter p es)
        → length (filter p (cond kept (e ∷ filter q es) (filter q es))) ≤ length (cond passes (e ∷ filter p es) (filter p es))
    go true true is less = subst (λ (b : Bool). length (cond b (e ∷ filter p (filter q es)) (filter p (filter q es))) ≤ length (e ∷ filter p es)) (sym is) (omega (arith, less))
    go true false is less = subst (λ (b : Bool). length (cond b (e ∷ filter p (filter q es)) (filter p (filter q es))) ≤ length (filter p es)) (sym is) less
    go false true is less = omega (arith, less)
    go false false is less = less

-- computed example
one_of_three : length (filter (λ (n : ℕ). nat_lt n 3) (filter (λ n. nat_lt 1 n) (1 ∷ 2 ∷ 5 ∷ []))) ≡ 1
one_of_three = refl
