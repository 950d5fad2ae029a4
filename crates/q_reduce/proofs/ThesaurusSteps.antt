-- Whether an expansion has too many terms.
use Rattle.std.proofs.Common.{◌≡◌, ◌<◌, ◌≤◌, ℕ, Bool, true, false, cond, List, [], ◌∷◌, length, Some, refl, ap, arith}
use Rattle.std.specs.Prelude.{nat_lt}
use Rattle.std.proofs.lemmas.Bool.{ltb-true, lt-ltb}
use Rattle.th_graph.specs.Expansions.{expansion_limit}
use Rattle.q_reduce.specs.Faults.{ManyTerms, expansion_faults}
use Rattle.q_reduce.specs.Results.{first_fault}

not_over : (n : ℕ) → n ≤ expansion_limit → nat_lt expansion_limit n ≡ false
not_over n few = go (nat_lt expansion_limit n) refl
  where
    go : (b : Bool) → nat_lt expansion_limit n ≡ b → b ≡ false
    go true h = let l = ltb-true expansion_limit n h in absurd (omega (arith, few, l))
    go false h = refl

pub few_terms : (ts : List (List ℕ)) → length ts ≤ expansion_limit → expansion_faults ts ≡ []
few_terms ts few = ap (λ (b : Bool). cond b (ManyTerms ∷ []) []) (not_over (length ts) few)

pub many_terms : (ts : List (List ℕ)) → expansion_limit < length ts → first_fault (expansion_faults ts) ≡ Some ManyTerms
many_terms ts many = ap (λ (b : Bool). first_fault (cond b (ManyTerms ∷ []) [])) (lt-ltb expansion_limit (length ts) many)
