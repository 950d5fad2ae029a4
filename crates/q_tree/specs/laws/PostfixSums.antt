-- The steps that leave one value are the postfix form of a sum, and have its value.
use Rattle.std.proofs.Common.{ℕ, ◌≡◌, ◌+◌, ◌&&◌, not, Bool, true, false, suc, List, [], ◌∷◌, ◌++◌, length, Option, Some, None, refl, sym, ap, subst, ◌∙◌, arith, append_assoc, append-nil}
use Rattle.std.specs.Prelude.{ℤ}
use Rattle.std.proofs.lemmas.Bool.{and_parts, eqb-true}
use Rattle.ct_base.specs.laws.Options.{same_value}
use Rattle.q_tree.specs.declared.flats.SumStep.{SumStep}
use Rattle.q_tree.specs.declared.flats.SumStep.TheVariants.{Number, Discrete, Occurrence, Plus, Minus as Less, Times}
use Rattle.q_tree.specs.Soundness.{is_operator, values_after, values, is_one}
use Rattle.q_tree.specs.Sums.{Sum, Atom, Both, is_tree, atom_value, operator_value, sum_value, postfix, sum_step, sum_of, steps_value, top, IsPostfix}

-- ---- values

atom_step : (k : ℕ) (s : SumStep) (stack : List ℤ) → not (is_operator s) ≡ true → sum_step k s stack ≡ atom_value k s ∷ stack
atom_step k (Number n) stack h = refl
atom_step k Discrete stack h = refl
atom_step k Occurrence stack h = refl
atom_step k Plus stack h = cc
atom_step k Less stack h = cc
atom_step k Times stack h = cc

operator_step : (k : ℕ) (op : SumStep) (a b : ℤ) (stack : List ℤ) → is_operator op ≡ true → sum_step k op (b ∷ a ∷ stack) ≡ operator_value op a b ∷ stack
operator_step k (Number n) a b stack h = cc
operator_step k Discrete a b stack h = cc
operator_step k Occurrence a b stack h = cc
operator_step k Plus a b stack h = refl
operator_step k Less a b stack h = refl
operator_step k Times a b stack h = refl

-- the steps of a sum put its value on the stack
runs : (k : ℕ) (e : Sum) (rest : List SumStep) (stack : List ℤ) → is_tree e ≡ true → sum_of k (postfix e ++ rest) stack ≡ sum_of k rest (sum_value k e ∷ stack)
runs k (Atom s) rest stack h = ap (sum_of k rest) (atom_step k s stack h)
runs k (Both op a b) rest stack h =
    let p = and_parts (is_operator op) (is_tree a && is_tree b) h in
    let q = and_parts (is_tree a) (is_tree b) p.1 in
    ap (λ ss. sum_of k ss stack) (append_assoc (postfix a) (postfix b ++ op ∷ []) rest ∙ ap (λ ss. postfix a ++ ss) (append_assoc (postfix b) (op ∷ []) rest))
    ∙ runs k a (postfix b ++ op ∷ rest) stack q.0
    ∙ runs k b (op ∷ rest) (sum_value k a ∷ stack) q.1
    ∙ ap (sum_of k rest) (operator_step k op (sum_value k a) (sum_value k b) stack p.0)

pub postfix_value : (k : ℕ) (e : Sum) → is_tree e ≡ true → steps_value k (postfix e) ≡ sum_value k e
postfix_value k e h = ap (λ ss. steps_value k ss) (sym (append-nil (postfix e))) ∙ ap top (runs k e [] [] h)

-- ---- the postfix form of a sum leaves one value

atom_count : (s : SumStep) → not (is_operator s) ≡ true → is_operator s ≡ false
atom_count (Number n) h = refl
atom_count Discrete h = refl
atom_count Occurrence h = refl
atom_count Plus h = cc
atom_count Less h = cc
atom_count Times h = cc

-- of two values more an operator leaves one
pub two_less : (n : ℕ) → values_after true (n + 1 + 1) ≡ Some (n + 1)
two_less n = let e : n + 1 + 1 ≡ suc (suc n) = omega arith in let f : suc n ≡ n + 1 = omega arith in ap (values_after true) e ∙ ap Some f

counts : (e : Sum) (rest : List SumStep) (n : ℕ) → is_tree e ≡ true → values (postfix e ++ rest) n ≡ values rest (n + 1)
counts (Atom s) rest n h = rw (atom_count s h) refl
counts (Both op a b) rest n h =
    let p = and_parts (is_operator op) (is_tree a && is_tree b) h in
    let q = and_parts (is_tree a) (is_tree b) p.1 in
    ap (λ ss. values ss n) (append_assoc (postfix a) (postfix b ++ op ∷ []) rest ∙ ap (λ ss. postfix a ++ ss) (append_assoc (postfix b) (op ∷ []) rest))
    ∙ counts a (postfix b ++ op ∷ rest) n q.0
    ∙ counts b (op ∷ rest) (n + 1) q.1
    ∙ rw (p.0, two_less n) refl

pub postfix_counts : (e : Sum) → is_tree e ≡ true → is_one (values (postfix e) 0) ≡ true
postfix_counts e h = ap (λ ss. is_one (values ss 0)) (sym (append-nil (postfix e))) ∙ ap is_one (counts e [] 0 h)

-- ---- and each list of steps that does is one

-- the steps that leave these sums on the stack, the last of which is the first of the list
abbrev postfixes : List Sum → List SumStep
postfixes [] = []
postfixes (e ∷ es) = postfixes es ++ postfix e

abbrev AreTrees : List Sum → Type 0
AreTrees [] = Unit {0}
AreTrees (e ∷ es) = (is_tree e ≡ true) × AreTrees es

record Leaves (ss : List SumStep) (n : ℕ) : Type 0 where
  sums : List Sum
  trees : AreTrees sums
  count : length sums ≡ n
  steps : postfixes sums ≡ ss

leaves : (ss : List SumStep) (es : List Sum) (n : ℕ) → AreTrees es → values ss (length es) ≡ Some n → Leaves (postfixes es ++ ss) n
leaves [] es n ts h = record { sums = es; trees = ts; count = same_value (length es) n h; steps = sym (append-nil (postfixes es)) }
leaves (s ∷ ss) es n ts h = go (is_operator s) refl es ts (leaves ss) h
  where
    go : (o : Bool) → is_operator s ≡ o → (es : List Sum) → AreTrees es
        → ((fs : List Sum) (n : ℕ) → AreTrees fs → values ss (length fs) ≡ Some n → Leaves (postfixes fs ++ ss) n)
        → values (s ∷ ss) (length es) ≡ Some n → Leaves (postfixes es ++ s ∷ ss) n
    go false is es ts rest h =
        let count : length es + 1 ≡ suc (length es) = omega arith in
        let h' : values ss (suc (length es)) ≡ Some n = subst (λ m. values ss m ≡ Some n) count (rw is at h) in
        let t : is_tree (Atom s) ≡ true = rw is refl in
        subst (λ xs. Leaves xs n) (append_assoc (postfixes es) (s ∷ []) ss) (rest (Atom s ∷ es) n (t, ts) h')
    go true is [] ts rest h = let h' = rw is at h in cc
    go true is (b ∷ []) ts rest h = let h' = rw is at h in cc
    go true is (b ∷ a ∷ es) ts rest h =
        let h' : values ss (suc (length es)) ≡ Some n = rw is at h in
        let t : is_tree (Both s a b) ≡ true = rw (is, ts.1.0, ts.0) refl in
        subst (λ xs. Leaves xs n) (moved es a b) (rest (Both s a b ∷ es) n (t, ts.1.1) h')
      where
        moved : (es : List Sum) (a b : Sum) → (postfixes es ++ (postfix a ++ (postfix b ++ s ∷ []))) ++ ss ≡ ((postfixes es ++ postfix a) ++ postfix b) ++ s ∷ ss
        moved es a b =
            append_assoc (postfixes es) (postfix a ++ (postfix b ++ s ∷ [])) ss
            ∙ ap (λ xs. postfixes es ++ xs) (append_assoc (postfix a) (postfix b ++ s ∷ []) ss ∙ ap (λ xs. postfix a ++ xs) (append_assoc (postfix b) (s ∷ []) ss))
            ∙ sym (append_assoc (postfixes es ++ postfix a) (postfix b) (s ∷ ss) ∙ append_assoc (postfixes es) (postfix a) (postfix b ++ s ∷ ss))

single : (ss : List SumStep) (es : List Sum) → AreTrees es → length es ≡ 1 → postfixes es ≡ ss → IsPostfix ss
single ss [] ts one is = absurd (omega (arith, one))
single ss (e ∷ []) ts one is = record { sum = e; tree = ts.0; spelt = is }
single ss (e ∷ f ∷ es) ts one is = absurd (omega (arith, one))

one-is : (o : Option ℕ) → is_one o ≡ true → o ≡ Some 1
one-is None h = cc
one-is (Some n) h = ap Some (eqb-true n 1 h)

pub is_postfix : (ss : List SumStep) → is_one (values ss 0) ≡ true → IsPostfix ss
is_postfix ss h =
    let all = leaves ss [] 1 tt (one-is (values ss 0) h) in
    single ss all.sums all.trees all.count all.steps
