-- The values of a sum, step by step.
use Rattle.std.proofs.Common.{◌≡◌, ℕ, ℤ, ◌+◌, ◌*◌, ◌≤◌, max, Bool, true, false, cond, ◌&&◌, nat_le, eqb-true, List, [], ◌∷◌, ◌++◌, Option, Some, None, zero, suc, refl, sym, ap, subst, ◌∙◌, arith}
use Rattle.std.specs.Bool.{if◌then◌else◌}
use Rattle.std.specs.List.{list_all}
use Rattle.std.specs.Int.RustNames.{unsigned_abs}
use Rattle.std.specs.Option.{option_and_then}
use Rattle.std.proofs.lemmas.Bool.{and_parts, leb-true}
use Rattle.std.proofs.lemmas.Option.{same_Some}
use Rattle.std.proofs.lemmas.Nat.{mul-le}
use Rattle.std.proofs.Math.Nat.{mul_comm, mul_assoc, mul-one}
use Rattle.q_tree.specs.declared.flats.SumStep.{SumStep}
use Rattle.q_tree.specs.declared.flats.SumStep.TheVariants.{Number, Discrete, Occurrence, Plus, Minus, Times}
use Rattle.q_tree.specs.Soundness.{is_operator, operators, is_step, values_after, values, is_one, is_sum}
use Rattle.q_tree.specs.Scores.{clamped, defined}
use Rattle.q_tree.specs.Sums.{atom_value, operator_value, sum_step, steps_value, top}
use Rattle.q_sums.specs.Magnitudes.{last_first, magnitude, growth, magnitude_limit}
use Rattle.q_sums.proofs.Products.{weight, operator_weighs}

-- ---- the stack and the list of its values

pub last_first_push : (vs : List ℤ) (v : ℤ) → last_first (vs ++ v ∷ []) ≡ v ∷ last_first vs
last_first_push [] v = refl
last_first_push (x ∷ xs) v = ap (λ (l : List ℤ). l ++ x ∷ []) (last_first_push xs v)

pub pushed : (old new : List ℤ) (v : ℤ) → new ≡ old ++ v ∷ [] → last_first new ≡ v ∷ last_first old
pushed old new v is = ap last_first is ∙ last_first_push old v

pub atom_step : (k : ℕ) (s : SumStep) (st : List ℤ) → is_operator s ≡ false → sum_step k s st ≡ atom_value k s ∷ st
atom_step k (Number n) st h = refl
atom_step k Discrete st h = refl
atom_step k Occurrence st h = refl
atom_step k Plus st h = cc
atom_step k Minus st h = cc
atom_step k Times st h = cc

-- what an operator leaves of a stack: one value in place of the last two, or nothing where there are no two
abbrev pub operated : SumStep → List ℤ → List ℤ
operated s [] = []
operated s (b ∷ []) = []
operated s (b ∷ a ∷ st) = operator_value s a b ∷ st

pub operator_step : (k : ℕ) (s : SumStep) (st : List ℤ) → is_operator s ≡ true → sum_step k s st ≡ operated s st
operator_step k (Number n) st h = cc
operator_step k Discrete st h = cc
operator_step k Occurrence st h = cc
operator_step k Plus [] h = refl
operator_step k Plus (b ∷ []) h = refl
operator_step k Plus (b ∷ a ∷ st) h = refl
operator_step k Minus [] h = refl
operator_step k Minus (b ∷ []) h = refl
operator_step k Minus (b ∷ a ∷ st) h = refl
operator_step k Times [] h = refl
operator_step k Times (b ∷ []) h = refl
operator_step k Times (b ∷ a ∷ st) h = refl

-- ---- how great the values become

pub growth_some : (ss : List SumStep) → 1 ≤ growth ss
growth_some [] = omega arith
growth_some (s ∷ ss) = let rest = growth_some ss in go (is_operator s) rest
  where
    go : (b : Bool) → 1 ≤ growth ss → 1 ≤ cond b (growth ss) (1000 * growth ss)
    go true rest = rest
    go false rest = omega (arith, rest)

pub magnitude_some : (st : List ℤ) → 1 ≤ magnitude st
magnitude_some [] = omega arith
magnitude_some (v ∷ vs) =
    let rest = magnitude_some vs in
    let more : 2 * 1 ≤ max 2 (unsigned_abs v) * magnitude vs = mul-le 2 1 (max 2 (unsigned_abs v)) (magnitude vs) (omega arith) rest in
    omega (arith, more)

pub magnitude_within : (st : List ℤ) (ss : List SumStep) → magnitude st * growth ss ≤ magnitude_limit → magnitude st ≤ magnitude_limit
magnitude_within st ss small =
    let more : magnitude st * 1 ≤ magnitude st * growth ss = mul-le (magnitude st) 1 (magnitude st) (growth ss) (omega arith) (growth_some ss) in
    let same = mul-one (magnitude st) in
    omega (arith, more, same, small)

atom_limit : (k : ℕ) (s : SumStep) → is_step s ≡ true → max 2 (unsigned_abs (atom_value k s)) ≤ 1000
atom_limit k (Number n) h = let low = leb-true n 1000 h in omega (arith, low)
atom_limit k Discrete h = omega arith
atom_limit k Occurrence h = omega arith
atom_limit k Plus h = omega arith
atom_limit k Minus h = omega arith
atom_limit k Times h = omega arith

moved : (x y z : ℕ) → (x * y) * z ≡ y * (x * z)
moved x y z = ap (λ (n : ℕ). n * z) (mul_comm x y) ∙ mul_assoc y x z

operator_magnitude : (k : ℕ) (s : SumStep) (st : List ℤ) → is_operator s ≡ true → magnitude (sum_step k s st) ≤ magnitude st
operator_magnitude k s [] h = subst (λ (l : List ℤ). magnitude l ≤ 1) (sym (operator_step k s [] h)) (omega arith)
operator_magnitude k s (b ∷ []) h = subst (λ (l : List ℤ). magnitude l ≤ magnitude (b ∷ [])) (sym (operator_step k s (b ∷ []) h)) (magnitude_some (b ∷ []))
operator_magnitude k s (b ∷ a ∷ st) h =
    let less : weight (operator_value s a b) * magnitude st ≤ (weight a * weight b) * magnitude st = mul-le (weight (operator_value s a b)) (magnitude st) (weight a * weight b) (magnitude st) (operator_weighs s a b) (omega arith) in
    subst (λ (l : List ℤ). magnitude l ≤ magnitude (b ∷ a ∷ st)) (sym (operator_step k s (b ∷ a ∷ st) h)) (subst (λ (n : ℕ). weight (operator_value s a b) * magnitude st ≤ n) (moved (weight a) (weight b) (magnitude st)) less)

pub step_fits : (k : ℕ) (s : SumStep) (ss : List SumStep) (st : List ℤ) → is_step s ≡ true → magnitude st * growth (s ∷ ss) ≤ magnitude_limit → magnitude (sum_step k s st) * growth ss ≤ magnitude_limit
step_fits k s ss st h small = go (is_operator s) refl small
  where
    go : (b : Bool) → is_operator s ≡ b → magnitude st * cond b (growth ss) (1000 * growth ss) ≤ magnitude_limit → magnitude (sum_step k s st) * growth ss ≤ magnitude_limit
    go true is small =
        let less : magnitude (sum_step k s st) * growth ss ≤ magnitude st * growth ss = mul-le (magnitude (sum_step k s st)) (growth ss) (magnitude st) (growth ss) (operator_magnitude k s st is) (omega arith) in
        omega (arith, less, small)
    go false is small =
        let w = max 2 (unsigned_abs (atom_value k s)) in
        let more : w * magnitude st ≤ 1000 * magnitude st = mul-le w (magnitude st) 1000 (magnitude st) (atom_limit k s h) (omega arith) in
        let less : (w * magnitude st) * growth ss ≤ (1000 * magnitude st) * growth ss = mul-le (w * magnitude st) (growth ss) (1000 * magnitude st) (growth ss) more (omega arith) in
        let same : (1000 * magnitude st) * growth ss ≡ magnitude st * (1000 * growth ss) = moved 1000 (magnitude st) (growth ss) in
        subst (λ (l : List ℤ). magnitude l * growth ss ≤ magnitude_limit) (sym (atom_step k s st is)) (within (w * magnitude st * growth ss) ((1000 * magnitude st) * growth ss) (magnitude st * (1000 * growth ss)) less same small)
      where
        within : (x y z : ℕ) → x ≤ y → y ≡ z → z ≤ magnitude_limit → x ≤ magnitude_limit
        within x y z p q r = omega (arith, p, q, r)

-- ---- at the beginning

atoms : List SumStep → ℕ
atoms [] = 0
atoms (s ∷ ss) = (if is_operator s then 0 else 1) + atoms ss

thousands : ℕ → ℕ
thousands zero = 1
thousands (suc n) = 1000 * thousands n

some_thousands : (n : ℕ) → 1 ≤ thousands n
unfolding thousands
some_thousands zero = omega arith
some_thousands (suc n) = let rest = some_thousands n in omega (arith, rest)

growth_more : (ss : List SumStep) → ((k : ℕ) → atoms ss ≤ k → growth ss ≤ thousands k) → (b : Bool) (n : ℕ) → cond b 0 1 + atoms ss ≤ n → cond b (growth ss) (1000 * growth ss) ≤ thousands n
unfolding thousands
growth_more ss rest true n few = rest n (omega (arith, few))
growth_more ss rest false zero few = absurd (omega (arith, few))
growth_more ss rest false (suc n) few = let less = rest n (omega (arith, few)) in omega (arith, less)

growth_within : (ss : List SumStep) (n : ℕ) → atoms ss ≤ n → growth ss ≤ thousands n
unfolding atoms thousands
growth_within [] n few = some_thousands n
growth_within (s ∷ ss) n few = growth_more ss (λ k. growth_within ss k) (is_operator s) n few

balance_more : (ss : List SumStep) (m : ℕ) → ((k : ℕ) → values ss k ≡ Some m → atoms ss + k ≡ operators ss + m) → (b : Bool) (n : ℕ) → option_and_then (values ss) (values_after b n) ≡ Some m → (cond b 0 1 + atoms ss) + n ≡ (cond b 1 0 + operators ss) + m
balance_more ss m rest false n h = let same = rest (n + 1) h in omega (arith, same)
balance_more ss m rest true zero h = cc
balance_more ss m rest true (suc zero) h = cc
balance_more ss m rest true (suc (suc n)) h = let same = rest (suc n) h in omega (arith, same)

balance : (ss : List SumStep) (n m : ℕ) → values ss n ≡ Some m → atoms ss + n ≡ operators ss + m
unfolding atoms
balance [] n m h = some_is n m h
  where
    some_is : (n m : ℕ) → Some n ≡ Some m → 0 + n ≡ 0 + m
    some_is n m h = ap (λ (k : ℕ). 0 + k) (same_Some n m h)
balance (s ∷ ss) n m h = balance_more ss m (λ k. balance ss k m) (is_operator s) n h

nine : thousands 9 ≡ magnitude_limit
unfolding thousands
nine = refl

pub begins_limited : (ss : List SumStep) → is_sum ss ≡ true → (magnitude [] * growth ss ≤ magnitude_limit) × (list_all is_step ss ≡ true)
begins_limited ss h =
    let p = and_parts (is_one (values ss 0) && nat_le (operators ss) 8) (list_all is_step ss) h in
    let q = and_parts (is_one (values ss 0)) (nat_le (operators ss) 8) p.0 in
    let few = leb-true (operators ss) 8 q.1 in
    let same = balance ss 0 1 (one (values ss 0) q.0) in
    let within = growth_within ss 9 (omega (arith, few, same)) in
    let limit = nine in
    (under (growth ss) (thousands 9) magnitude_limit within limit, p.1)
  where
    one : (o : Option ℕ) → is_one o ≡ true → o ≡ Some 1
    one None h = cc
    one (Some n) h = ap Some (eqb-true n 1 h)

    under : (x y m : ℕ) → x ≤ y → y ≡ m → 1 * x ≤ m
    under x y m p q = omega (arith, p, q)

-- ---- the score

pub defined_some : (k : ℕ) (ss : List SumStep) → (k ≡ 0 → ⊥) → clamped (steps_value k ss) ≡ defined k ss
defined_some zero ss some = absurd (some refl)
defined_some (suc k) ss some = refl

pub defined_none : (k : ℕ) (ss : List SumStep) → k ≡ 0 → 0 ≡ defined k ss
defined_none zero ss none = refl
defined_none (suc k) ss none = absurd (omega (arith, none))

-- ---- steps on the stack as it is kept

pub two_of : (b a : ℤ) (st : List ℤ) → magnitude (b ∷ a ∷ st) ≤ magnitude_limit → magnitude (b ∷ a ∷ []) ≤ magnitude_limit
two_of b a st small =
    let inner : weight a * 1 ≤ weight a * magnitude st = mul-le (weight a) 1 (weight a) (magnitude st) (omega arith) (magnitude_some st) in
    let outer : weight b * (weight a * 1) ≤ weight b * (weight a * magnitude st) = mul-le (weight b) (weight a * 1) (weight b) (weight a * magnitude st) (omega arith) inner in
    under (weight b * (weight a * 1)) (weight b * (weight a * magnitude st)) magnitude_limit outer small
  where
    under : (x y m : ℕ) → x ≤ y → y ≤ m → x ≤ m
    under x y m p q = omega (arith, p, q)

pub two_last_first : (old mid xs : List ℤ) (a b : ℤ) → old ≡ mid ++ b ∷ [] → mid ≡ xs ++ a ∷ [] → last_first old ≡ b ∷ a ∷ last_first xs
two_last_first old mid xs a b first second = pushed mid old b first ∙ ap (λ (l : List ℤ). b ∷ l) (pushed xs mid a second)

pub operate_done : (k : ℕ) (step : SumStep) (a b v : ℤ) (old mid xs new : List ℤ) → is_operator step ≡ true → old ≡ mid ++ b ∷ [] → mid ≡ xs ++ a ∷ [] → v ≡ operator_value step a b → new ≡ xs ++ v ∷ [] → last_first new ≡ sum_step k step (last_first old)
operate_done k step a b v old mid xs new op first second is grown =
    pushed xs new v grown
    ∙ ap (λ (x : ℤ). x ∷ last_first xs) is
    ∙ sym (operator_step k step (b ∷ a ∷ last_first xs) op)
    ∙ sym (ap (sum_step k step) (two_last_first old mid xs a b first second))

pub atom_done : (k : ℕ) (step : SumStep) (v : ℤ) (old new : List ℤ) → is_operator step ≡ false → v ≡ atom_value k step → new ≡ old ++ v ∷ [] → last_first new ≡ sum_step k step (last_first old)
atom_done k step v old new op is grown = pushed old new v grown ∙ ap (λ (x : ℤ). x ∷ last_first old) is ∙ sym (atom_step k step (last_first old) op)

pub top_is : (v : ℤ) (old new : List ℤ) → old ≡ new ++ v ∷ [] → v ≡ top (last_first old)
top_is v old new first = sym (ap top (pushed new old v first))
