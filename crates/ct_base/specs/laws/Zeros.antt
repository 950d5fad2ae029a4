-- Laws of zeros.
use Rattle.std.proofs.Common.{◌≡◌, ℕ, zero, suc, ◌+◌, ◌≤◌, List, ◌∷◌, ◌++◌, length, take, refl, ap, ◌∙◌, arith}
use Rattle.std.proofs.lemmas.List.{length-replicate}
use Rattle.ct_base.specs.Zeros.{zeros}

pub length-zeros : (n : ℕ) → length (zeros n) ≡ n
length-zeros n = length-replicate n 0

pub zeros-add : (m n : ℕ) → zeros (m + n) ≡ zeros m ++ zeros n
zeros-add zero n = let e : 0 + n ≡ n = omega arith in ap zeros e
zeros-add (suc m) n = let e : suc m + n ≡ suc (m + n) = omega arith in ap zeros e ∙ ap (λ (l : List ℕ). 0 ∷ l) (zeros-add m n)

pub take-zeros : (m n : ℕ) → m ≤ n → take m (zeros n) ≡ zeros m
take-zeros zero n less = refl
take-zeros (suc m) zero less = absurd (omega (arith, less))
take-zeros (suc m) (suc n) less = ap (λ (l : List ℕ). 0 ∷ l) (take-zeros m n (omega (arith, less)))
