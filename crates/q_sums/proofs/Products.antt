-- What an operator makes of two values is no greater than their product, each taken as at least 2.
use Rattle.std.proofs.Common.{◌≡◌, ℕ, ℤ, ◌+ℤ◌, ◌-ℤ◌, ◌*ℤ◌, ◌+◌, ◌*◌, ◌≤◌, ◌<◌, ◌^◌, max, [], ◌∷◌, refl, ap, ◌∙◌, arith}
use Rattle.std.specs.Int.RustNames.{unsigned_abs, FitsSigned}
use Rattle.std.proofs.lemmas.Int.{ints, unsigned_abs-mul, fits_signed_from_abs}
use Rattle.std.proofs.lemmas.Nat.{mul-le}
use Rattle.std.proofs.Math.Nat.{mul_comm, mul-one}
use Rattle.std.proofs.lemmas.Bool.{ltb-true}
use mir.Syntax.{w128}
use Rattle.q_tree.specs.declared.flats.SumStep.{SumStep}
use Rattle.q_tree.specs.declared.flats.SumStep.TheVariants.{Number, Discrete, Occurrence, Plus, Minus, Times}
use Rattle.q_tree.specs.Sums.{operator_value}
use Rattle.q_sums.specs.Magnitudes.{magnitude, magnitude_limit}

-- a value, taken as at least 2
abbrev pub weight : ℤ → ℕ
weight v = max 2 (unsigned_abs v)

abs_sum : (a b : ℤ) → unsigned_abs (a +ℤ b) ≤ unsigned_abs a + unsigned_abs b
abs_sum a b = omega (arith, ints)

abs_difference : (a b : ℤ) → unsigned_abs (a -ℤ b) ≤ unsigned_abs a + unsigned_abs b
abs_difference a b = omega (arith, ints)

sum_under_product : (x y : ℕ) → 2 ≤ x → 2 ≤ y → x + y ≤ x * y
sum_under_product x y p q =
    let one : 2 * y ≤ x * y = mul-le 2 y x y p (omega arith) in
    let two : x * 2 ≤ x * y = mul-le x 2 x y (omega arith) q in
    omega (arith, one, two)

at_least_2 : (v : ℤ) → 2 ≤ weight v
at_least_2 v = omega arith

abs_weighs : (v : ℤ) → unsigned_abs v ≤ weight v
abs_weighs v = omega arith

no_less : (x a : ℕ) → 2 ≤ x → a ≤ x → max 2 a ≤ x
no_less x a p q = omega (arith, p, q)

two_weights : (a b : ℤ) → 2 ≤ weight a * weight b
two_weights a b = let more : 2 * 1 ≤ weight a * weight b = mul-le 2 1 (weight a) (weight b) (at_least_2 a) (omega (arith, at_least_2 b)) in omega (arith, more)

-- the weight of what an operator makes
pub operator_weighs : (op : SumStep) (a b : ℤ) → weight (operator_value op a b) ≤ weight a * weight b
operator_weighs Plus a b = no_less (weight a * weight b) (unsigned_abs (a +ℤ b)) (two_weights a b) (omega (arith, abs_sum a b, sum_under_product (weight a) (weight b) (at_least_2 a) (at_least_2 b), abs_weighs a, abs_weighs b))
operator_weighs Minus a b = no_less (weight a * weight b) (unsigned_abs (a -ℤ b)) (two_weights a b) (omega (arith, abs_difference a b, sum_under_product (weight a) (weight b) (at_least_2 a) (at_least_2 b), abs_weighs a, abs_weighs b))
operator_weighs Times a b = no_less (weight a * weight b) (unsigned_abs (a *ℤ b)) (two_weights a b) (omega (arith, unsigned_abs-mul a b, mul-le (unsigned_abs a) (unsigned_abs b) (weight a) (weight b) (abs_weighs a) (abs_weighs b)))
operator_weighs (Number n) a b = two_weights a b
operator_weighs Discrete a b = two_weights a b
operator_weighs Occurrence a b = two_weights a b

limit_fits : magnitude_limit < 2 ^ 127
limit_fits = ltb-true magnitude_limit (2 ^ 127) refl

-- two values of which the product is no more than the greatest
pub operator_fits : (op : SumStep) (a b : ℤ) → magnitude (b ∷ a ∷ []) ≤ magnitude_limit → FitsSigned w128 (operator_value op a b)
operator_fits op a b small =
    let turned : weight b * (weight a * 1) ≡ weight a * weight b = ap (λ (n : ℕ). weight b * n) (mul-one (weight a)) ∙ mul_comm (weight b) (weight a) in
    let within = operator_weighs op a b in
    let under = abs_weighs (operator_value op a b) in
    let limit = limit_fits in
    fits_signed_from_abs w128 (operator_value op a b) (below (unsigned_abs (operator_value op a b)) (weight a * weight b) (weight b * (weight a * 1)) magnitude_limit (2 ^ 127) (omega (arith, within, under)) turned small limit)
  where
    below : (x y z m n : ℕ) → x ≤ y → z ≡ y → z ≤ m → m < n → x < n
    below x y z m n p q r s = omega (arith, p, q, r, s)
