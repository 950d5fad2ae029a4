-- Shapes of entries of indexes.
use Rattle.std.proofs.Common.{◌↔◌, ⊎_elim, inr, List, ℕ, Bool, true, false, refl, sym, ◌≡◌, Result, Ok, Err}
use Rattle.std.specs.Prelude.{IfOk, IsTrue}
use Rattle.std.proofs.lemmas.Bool.{false≢true}
use Rattle.ct_base.specs.declared.faults.Memory.{Memory}
use Rattle.ct_entry.specs.declared.kinds.Kind.{Kind}
use Rattle.ix_context.specs.Shapes.{IsContextShape}
use Rattle.cat_index.specs.Shapes.{IsCatalogueShape}
use Rattle.rule_index.specs.Shapes.{IsRuleShape}
use Rattle.ix_indexes.specs.Shapes.{IsIndexShape}

-- a test that fails is of no shape
pub not_shaped : {S : Type 0} (is : Bool) → is ≡ false → (IsTrue is ↔ S) → S → ⊥
not_shaped true not says shape = false≢true (sym not)
not_shaped false not says shape = false≢true (says.1 shape)

-- what a test says that holds is of its shape
pub shaped_so : {S : Type 0} (is : Bool) → is ≡ true → (IsTrue is ↔ S) → S
shaped_so true so says = says.0 refl
shaped_so false so says = cc

-- what is of neither of the first two kinds is of the third, or of none
pub third_shape : (k : Kind) (part value : List ℕ) (r : Result Bool Memory) → (IsContextShape k part value → ⊥) → (IsCatalogueShape k part value → ⊥) → IfOk r (λ is. IsTrue is ↔ IsRuleShape k part value)
    → IfOk r (λ is. IsTrue is ↔ IsIndexShape k part value)
third_shape k part value (Ok is) none neither says = (λ h. inr (inr (says.0 h)), λ shape. says.1 (⊎_elim (λ s. absurd (none s)) (⊎_elim (λ s. absurd (neither s)) (λ s. s)) shape))
third_shape k part value (Err fault) none neither says = tt
