-- The chain of checks by the answer of each.
use Rattle.std.proofs.Common.{◌≡◌, ℕ, Bool, true, false, List, Option, Some, None, refl, ap, ◌∙◌}
use Rattle.db_cond.specs.declared.faults.Fault.{Fault}
use Rattle.db_cond.specs.Faults.{Refusal}
use Rattle.db_cond.specs.Refused.{refusal_of}
use Rattle.db_state.specs.States.{StoreState}
use Rattle.db_state.specs.Effects.{Effect, Refused, Does, is_done, refuse, Checks}

pub passes : (t : Bool) (r : Refusal) (e : Effect) → t ≡ false → refuse t r e ≡ e
passes t r e h = ap (λ (b : Bool). refuse b r e) h

pub fails : (t : Bool) (r : Refusal) (e : Effect) → t ≡ true → refuse t r e ≡ Refused r
fails t r e h = ap (λ (b : Bool). refuse b r e) h

-- what was done was refused by no check
pub passed : (t : Bool) (r : Refusal) (e : Effect) (n : StoreState) (reply : List ℕ) → refuse t r e ≡ Does n reply → (t ≡ false) × (e ≡ Does n reply)
passed true r e n reply is = cc
passed false r e n reply is = (refl, is)

-- the same of any effect that is no refusal
pub passed_to : (t : Bool) (r : Refusal) (e done : Effect) → is_done done ≡ true → refuse t r e ≡ done → (t ≡ false) × (e ≡ done)
passed_to true r e done accepted is = let wrong : false ≡ true = ap is_done is ∙ accepted in cc
passed_to false r e done accepted is = (refl, is)

-- what a check found
pub checked : (o : Option Fault) (e done : Effect) → o ≡ None → Checks o e done → e ≡ done
checked None e done is checks = checks
checked (Some f) e done is checks = cc

pub refused : (o : Option Fault) (f : Fault) (e done : Effect) → o ≡ Some f → Checks o e done → e ≡ Refused (refusal_of f)
refused None f e done is checks = cc
refused (Some g) f e done is checks = let same : g ≡ f = cc in checks ∙ ap (λ (x : Fault). Refused (refusal_of x)) same
