-- How many different pairs there are.
use Rattle.std.proofs.Common.{ℕ, zero, suc, pos, ◌≡◌, ◌≤◌, ◌+◌, ◌||◌, eqb, eqb-true, min, Bool, true, false, cond, ℤ, List, [], ◌∷◌, ◌++◌, length, take, drop, ◌-◌, subst, refl, sym, ap, ◌∙◌, arith, length-append}
use Rattle.std.proofs.lemmas.Bool.{and_parts}
use Rattle.std.proofs.lemmas.List.{drop_more, take-append-drop}
use Rattle.std.proofs.Math.ListN.{get_or}
use Rattle.ct_base.specs.declared.numbers.Pair.{Pair}
use Rattle.ix_spans.specs.Occurrences.{same_pair, has_pair, distinct}
use Rattle.q_tree.specs.declared.flats.SumStep.{SumStep}
use Rattle.q_tree.specs.declared.flats.SumStep.TheVariants.{Number, Discrete, Occurrence, Plus, Minus as Less, Times}
use Rattle.q_tree.specs.Sums.{sum_step, sum_of, top}
use Rattle.q_tree.specs.Scores.{defined, clamped}
use Rattle.ix_cursor.specs.Distinct.{with_new_pair}

-- the pairs that were found are those that come from a place on, each once
pub record AreThose (found from : List Pair) : Type 0 where
  pub same : (q : Pair) → has_pair found q ≡ has_pair from q
  pub as_many : length found ≡ length (distinct from)

pub none_yet : (found from : List Pair) → found ≡ [] → from ≡ [] → AreThose found from
none_yet found from f r = record { same = λ q. ap (λ (ps : List Pair). has_pair ps q) (f ∙ sym r); as_many = ap (λ (ps : List Pair). length ps) f ∙ sym (ap (λ (ps : List Pair). length (distinct ps)) r) }

has_last : (ps : List Pair) (p q : Pair) → has_pair (ps ++ p ∷ []) q ≡ (same_pair p q || has_pair ps q)
has_last [] p q = refl
has_last (x ∷ xs) p q = ap (λ (b : Bool). same_pair x q || b) (has_last xs p q) ∙ turned (same_pair x q) (same_pair p q) (has_pair xs q)
  where
    turned : (a b c : Bool) → (a || (b || c)) ≡ (b || (a || c))
    turned true true c = refl
    turned true false c = refl
    turned false b c = refl

pairs_equal : (p q : Pair) → same_pair p q ≡ true → p ≡ q
pairs_equal p q h = let both = and_parts (eqb p.first q.first) (eqb p.last q.last) h in λ i. record { first = eqb-true p.first q.first both.0 i; last = eqb-true p.last q.last both.1 i }

-- one that is there is no news
already : (ps : List Pair) (p q : Pair) → has_pair ps p ≡ true → has_pair ps q ≡ (same_pair p q || has_pair ps q)
already ps p q there = go (same_pair p q) refl
  where
    go : (b : Bool) → same_pair p q ≡ b → has_pair ps q ≡ (b || has_pair ps q)
    go true is = ap (has_pair ps) (sym (pairs_equal p q is)) ∙ there
    go false is = refl

pub one_more : (found next from all : List Pair) (p : Pair) → AreThose found from → all ≡ p ∷ from → next ≡ with_new_pair p found → AreThose next all
one_more found next from all p are whole grown = go (has_pair found p) refl
  where
    these : (b : Bool) → has_pair found p ≡ b → (q : Pair) → has_pair (cond b found (found ++ p ∷ [])) q ≡ (same_pair p q || has_pair from q)
    these true is q = are.same q ∙ already from p q (sym (are.same p) ∙ is)
    these false is q = has_last found p q ∙ ap (λ (b : Bool). same_pair p q || b) (are.same q)

    number : (b : Bool) → has_pair found p ≡ b → length (cond b found (found ++ p ∷ [])) ≡ length (distinct (p ∷ from))
    number true is = are.as_many ∙ ap (λ (b : Bool). length (cond b (distinct from) (p ∷ distinct from))) (sym (sym (are.same p) ∙ is))
    number false is =
        let so : length (found ++ p ∷ []) ≡ length (distinct from) + 1 = let k = are.as_many in omega (arith, length-append found (p ∷ []), k) in
        so ∙ plus_one (distinct from) ∙ ap (λ (b : Bool). length (cond b (distinct from) (p ∷ distinct from))) (sym (sym (are.same p) ∙ is))
      where
        plus_one : (ps : List Pair) → length ps + 1 ≡ length (p ∷ ps)
        plus_one ps = omega arith

    go : (b : Bool) → has_pair found p ≡ b → AreThose next all
    go b is = record {
      same = λ q. ap (λ (ps : List Pair). has_pair ps q) (grown ∙ ap (λ (t : Bool). cond t found (found ++ p ∷ [])) is) ∙ these b is q ∙ sym (ap (λ (ps : List Pair). has_pair ps q) whole);
      as_many = ap (λ (ps : List Pair). length ps) (grown ∙ ap (λ (t : Bool). cond t found (found ++ p ∷ [])) is) ∙ number b is ∙ sym (ap (λ (ps : List Pair). length (distinct ps)) whole);
    }

-- there are no fewer from an earlier place on
pub no_fewer : (before from : List Pair) → length (distinct from) ≤ length (distinct (before ++ from))
no_fewer [] from = omega arith
no_fewer (p ∷ ps) from = let rest = no_fewer ps from in go (has_pair (ps ++ from) p) rest
  where
    go : (b : Bool) → length (distinct from) ≤ length (distinct (ps ++ from)) → length (distinct from) ≤ length (cond b (distinct (ps ++ from)) (p ∷ distinct (ps ++ from)))
    go true rest = rest
    go false rest = omega (arith, rest)

-- ---- more than a hundred count as a hundred

as_100 : (n : ℕ) → min 100 (min 100 n) ≡ min 100 n
as_100 n = omega arith

same_step : (n : ℕ) (s : SumStep) (stack : List ℤ) → sum_step (min 100 n) s stack ≡ sum_step n s stack
same_step n (Number k) stack = refl
same_step n Discrete stack = refl
same_step n Occurrence stack = ap (λ (k : ℕ). pos k ∷ stack) (as_100 n)
same_step n Plus stack = same_plus stack
  where
    same_plus : (stack : List ℤ) → sum_step (min 100 n) Plus stack ≡ sum_step n Plus stack
    same_plus [] = refl
    same_plus (a ∷ []) = refl
    same_plus (a ∷ b ∷ stack) = refl
same_step n Less stack = same_less stack
  where
    same_less : (stack : List ℤ) → sum_step (min 100 n) Less stack ≡ sum_step n Less stack
    same_less [] = refl
    same_less (a ∷ []) = refl
    same_less (a ∷ b ∷ stack) = refl
same_step n Times stack = same_times stack
  where
    same_times : (stack : List ℤ) → sum_step (min 100 n) Times stack ≡ sum_step n Times stack
    same_times [] = refl
    same_times (a ∷ []) = refl
    same_times (a ∷ b ∷ stack) = refl

same_sum : (n : ℕ) (steps : List SumStep) (stack : List ℤ) → sum_of (min 100 n) steps stack ≡ sum_of n steps stack
same_sum n [] stack = refl
same_sum n (s ∷ ss) stack = ap (sum_of (min 100 n) ss) (same_step n s stack) ∙ same_sum n ss (sum_step n s stack)

-- a score by a sum is that of a hundred occurrences where there are more
pub defined_of_100 : (n : ℕ) (steps : List SumStep) → defined (min 100 n) steps ≡ defined n steps
defined_of_100 zero steps = ap (λ (k : ℕ). defined k steps) none
  where
    none : min 100 0 ≡ 0
    none = omega arith
defined_of_100 (suc n) steps = go (min 100 (suc n)) refl
  where
    go : (k : ℕ) → min 100 (suc n) ≡ k → defined k steps ≡ defined (suc n) steps
    go zero is = absurd (omega (arith, is))
    go (suc k) is = ap (λ (m : ℕ). clamped (top (sum_of m steps []))) (sym is) ∙ ap (λ (stack : List ℤ). clamped (top stack)) (same_sum (suc n) steps [])

-- ---- from the last one on

-- the pairs from a place on are that at the place, and those behind it
pub drop_before : (ps : List Pair) (left : ℕ) (d : Pair) → 1 ≤ left → left ≤ length ps → drop (left - 1) ps ≡ get_or ps (left - 1) d ∷ drop left ps
drop_before ps left d some within = drop_more ps (left - 1) d (omega (arith, some, within)) ∙ ap (λ (i : ℕ). get_or ps (left - 1) d ∷ drop i ps) (one_back left some)
  where
    one_back : (left : ℕ) → 1 ≤ left → left - 1 + 1 ≡ left
    one_back left some = omega (arith, some)

pub enough : (found ps : List Pair) (left : ℕ) → AreThose found (drop left ps) → 100 ≤ length found → 100 ≡ min 100 (length (distinct ps))
enough found ps left those many =
    let number = those.as_many in
    let fewer : length (distinct (drop left ps)) ≤ length (distinct ps) = subst (λ (all : List Pair). length (distinct (drop left ps)) ≤ length (distinct all)) (take-append-drop left ps) (no_fewer (take left ps) (drop left ps)) in
    omega (arith, number, fewer, many)
