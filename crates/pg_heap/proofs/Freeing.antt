-- The list of free pages, while pages are taken and freed.
use Rattle.std.specs.Prelude.{Bool, cond}
use Rattle.std.proofs.Common.{◌≡◌, ℕ, ◌+◌, List, [], ◌∷◌, ◌++◌, ap, arith}
use Rattle.std.proofs.lemmas.Bool.{eq-eqb, ne_eqb}
use Rattle.pg_plan.specs.FreePlaces.{times_listed}

-- ---- how often a place is listed

pub times-append : (xs ys : List ℕ) (at : ℕ) → times_listed (xs ++ ys) at ≡ times_listed xs at + times_listed ys at
times-append [] ys at = omega arith
times-append (x ∷ xs) ys at = of _ _ _ _ (times-append xs ys at)
  where
    of : (a b c d : ℕ) → a ≡ b + c → d + a ≡ d + b + c
    of a b c d e = omega (arith, e)

pub one_here : (x at : ℕ) → x ≡ at → times_listed (x ∷ []) at ≡ 1
one_here x at is = ap (λ (b : Bool). cond b 1 0 + 0) (eq-eqb x at is)

pub one_elsewhere : (x at : ℕ) → (x ≡ at → ⊥) → times_listed (x ∷ []) at ≡ 0
one_elsewhere x at apart = ap (λ (b : Bool). cond b 1 0 + 0) (ne_eqb x at apart)
