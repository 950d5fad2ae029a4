-- What holds of the counts of values.
use Rattle.std.specs.Prelude.{◌≡◌, ℕ, ◌+◌, ◌<◌, Bool, true, false, cond, List, [], ◌∷◌, refl}
use Rattle.std.proofs.Common.{ap, ap₂, arith, subst, sym, ◌∙◌}
use Rattle.std.specs.declared.cmp.Ordering.{Ordering}
use Rattle.std.specs.declared.cmp.Ordering.TheVariants.{Less, Equal, Greater}
use Rattle.std.specs.Ordering.{is_eq, is_lt, ordering_reverse}
use Rattle.std.specs.List.{AllByRecursion, sum_by}
use Rattle.std.specs.List.Sorted.{IsPermutation}
use Rattle.std.proofs.lemmas.Bool.{false≢true}
use Rattle.std.proofs.lemmas.Cmp.{alike_right, tied_itself}
use Rattle.std.proofs.lemmas.List.Recursion.{is_sum_by}
use Rattle.std.proofs.lemmas.List.Sorted.{ranks_by, sum_by-IsPermutation}
use Rattle.ct_base.specs.declared.lists.Value.{Value}
use Rattle.ct_base.specs.laws.Orders.{equal_from_test}
use Rattle.rs_result.specs.Comparing.{value_cmp}
use Rattle.rs_result.specs.Counts.{AreCountsOf, AreRising, Counted, are_same, count_for, count_same, runs, runs_after, value_counts}
use Rattle.rs_result.specs.Sorting.{sorted_by}
use Rattle.rs_result.specs.laws.Orders.{value_cmp_total, values_tie}
use Rattle.rs_result.specs.laws.Sorting.{Rises, sorted_permutes, sorted_rises}

turned_round : (v w : Value) (o : Ordering) → value_cmp v w ≡ o → value_cmp w v ≡ ordering_reverse o
turned_round v w o e = value_cmp_total.antisymm w v ∙ ap ordering_reverse e

same_is : (v w : Value) → are_same v w ≡ true → value_cmp v w ≡ Equal
same_is v w e = equal_from_test (value_cmp v w) e

-- what is above a value isn't the same
not_same : (v w : Value) → value_cmp v w ≡ Less → are_same w v ≡ false
not_same v w less = ap is_eq (turned_round v w Less less)

-- ---- values in order, run by run

abbrev AreAbove : Value → List Value → Type 0
AreAbove v ws = AllByRecursion (λ w. value_cmp v w ≡ Less) ws

strictly : (v w : Value) → is_lt (value_cmp w v) ≡ false → are_same v w ≡ false → value_cmp v w ≡ Less
strictly v w up differ = go (value_cmp v w) refl
  where
    go : (o : Ordering) → value_cmp v w ≡ o → o ≡ Less
    go Less e = refl
    go Equal e = absurd (false≢true (sym differ ∙ ap is_eq e))
    go Greater e = absurd (false≢true (sym up ∙ ap is_lt (turned_round v w Greater e)))

next_above : (v w x : Value) → value_cmp v w ≡ Less → is_lt (value_cmp x w) ≡ false → value_cmp v x ≡ Less
next_above v w x less up = go (value_cmp w x) refl
  where
    go : (o : Ordering) → value_cmp w x ≡ o → value_cmp v x ≡ Less
    go Less e = value_cmp_total.trans v w x less e
    go Equal e = sym (alike_right value_cmp_total w x v e) ∙ less
    go Greater e = absurd (false≢true (sym up ∙ ap is_lt (turned_round w x Greater e)))

all_above : (v w : Value) (ws : List Value) → value_cmp v w ≡ Less → Rises value_cmp (w ∷ ws) → AreAbove v (w ∷ ws)
all_above v w [] less up = (less, tt)
all_above v w (x ∷ ws) less (first, up) = (less, all_above v x ws (next_above v w x less first) up)

none_same : (v u : Value) (ws : List Value) → value_cmp v u ≡ Equal → AreAbove v ws → count_same u ws ≡ 0
none_same v u [] same above = refl
none_same v u (w ∷ ws) same (less, above) =
    let other : are_same w u ≡ false = not_same u w (sym (value_cmp_total.congr v u w same) ∙ less) in
    let step : cond (are_same w u) 1 0 + count_same u ws ≡ 0 + count_same u ws = ap (λ (b : Bool). cond b 1 0 + count_same u ws) other in
    let rest : count_same u ws ≡ 0 = none_same v u ws same above in
    step ∙ omega (arith, rest)

-- of two that are the same the second may be left out
without_second : (v w : Value) (ws : List Value) → are_same v w ≡ true → Rises value_cmp (v ∷ w ∷ ws) → Rises value_cmp (v ∷ ws)
without_second v w [] same up = (tt, tt)
without_second v w (x ∷ ws) same (first, (next, up)) = (ap is_lt (alike_right value_cmp_total v w x (same_is v w same)) ∙ next, up)

module _ (u : Value) where
  same_step : (v w : Value) (n : ℕ) (ws : List Value) → are_same v w ≡ true
      → count_for u (runs_after v (n + 1) ws) ≡ cond (are_same v u) (n + 1) 0 + count_same u ws
      → count_for u (runs_after v (n + 1) ws) ≡ cond (are_same v u) n 0 + (cond (are_same w u) 1 0 + count_same u ws)
  same_step v w n ws same one = one ∙ go (are_same v u) (are_same w u) (ap is_eq (value_cmp_total.congr v w u (same_is v w same)))
    where
      go : (a b : Bool) → a ≡ b → cond a (n + 1) 0 + count_same u ws ≡ cond a n 0 + (cond b 1 0 + count_same u ws)
      go true true e = omega arith
      go true false e = absurd (false≢true (sym e))
      go false true e = absurd (false≢true e)
      go false false e = omega arith

  next_step : (v w : Value) (n : ℕ) (ws : List Value) → Rises value_cmp (v ∷ w ∷ ws) → are_same v w ≡ false
      → count_for u (runs_after w 1 ws) ≡ cond (are_same w u) 1 0 + count_same u ws
      → count_for u ((v, n) ∷ runs_after w 1 ws) ≡ cond (are_same v u) n 0 + (cond (are_same w u) 1 0 + count_same u ws)
  next_step v w n ws (first, up) differ two = go (are_same v u) refl
    where
      go : (a : Bool) → are_same v u ≡ a → cond a n (count_for u (runs_after w 1 ws)) ≡ cond a n 0 + (cond (are_same w u) 1 0 + count_same u ws)
      go true same =
          let none : cond (are_same w u) 1 0 + count_same u ws ≡ 0 = none_same v u (w ∷ ws) (same_is v u same) (all_above v w ws (strictly v w first differ) up) in
          omega (arith, none)
      go false other = omega (arith, two)

  exact : (v : Value) (n : ℕ) (ws : List Value) → Rises value_cmp (v ∷ ws) → count_for u (runs_after v n ws) ≡ cond (are_same v u) n 0 + count_same u ws
  exact v n [] up = omega arith
  exact v n (w ∷ ws) up = go (are_same v w) refl (λ same. exact v (n + 1) ws (without_second v w ws same up)) (exact w 1 ws up.1)
    where
      go : (b : Bool) → are_same v w ≡ b → (are_same v w ≡ true → count_for u (runs_after v (n + 1) ws) ≡ cond (are_same v u) (n + 1) 0 + count_same u ws)
          → count_for u (runs_after w 1 ws) ≡ cond (are_same w u) 1 0 + count_same u ws
          → count_for u (cond b (runs_after v (n + 1) ws) ((v, n) ∷ runs_after w 1 ws)) ≡ cond (are_same v u) n 0 + (cond (are_same w u) 1 0 + count_same u ws)
      go true is one two = same_step v w n ws is (one is)
      go false is one two = next_step v w n ws up is two

rising_after : (c : Counted) (v : Value) (n : ℕ) (ws : List Value) → value_cmp c.0 v ≡ Less → Rises value_cmp (v ∷ ws) → AreRising (c ∷ runs_after v n ws)
rising_after c v n [] less up = (less, tt)
rising_after c v n (w ∷ ws) less up =
    go (are_same v w) refl (λ same. rising_after c v (n + 1) ws less (without_second v w ws same up)) (λ differ. rising_after (v, n) w 1 ws (strictly v w up.0 differ) up.1)
  where
    go : (b : Bool) → are_same v w ≡ b → (are_same v w ≡ true → AreRising (c ∷ runs_after v (n + 1) ws)) → (are_same v w ≡ false → AreRising ((v, n) ∷ runs_after w 1 ws))
        → AreRising (c ∷ cond b (runs_after v (n + 1) ws) ((v, n) ∷ runs_after w 1 ws))
    go true is one two = one is
    go false is one two = (less, two is)

are_rising : (v : Value) (n : ℕ) (ws : List Value) → Rises value_cmp (v ∷ ws) → AreRising (runs_after v n ws)
are_rising v n [] up = tt
are_rising v n (w ∷ ws) up = go (are_same v w) refl (λ same. are_rising v (n + 1) ws (without_second v w ws same up))
  where
    go : (b : Bool) → are_same v w ≡ b → (are_same v w ≡ true → AreRising (runs_after v (n + 1) ws)) → AreRising (cond b (runs_after v (n + 1) ws) ((v, n) ∷ runs_after w 1 ws))
    go true is one = one is
    go false is one = rising_after (v, n) w 1 ws (strictly v w up.0 is) up.1

abbrev AreSome : List Counted → Type 0
AreSome cs = AllByRecursion (λ c. 0 < c.1) cs

are_some : (v : Value) (n : ℕ) (ws : List Value) → 0 < n → AreSome (runs_after v n ws)
are_some v n [] some = (some, tt)
are_some v n (w ∷ ws) some = go (are_same v w) (are_some v (n + 1) ws (omega arith)) (are_some w 1 ws (omega arith))
  where
    go : (b : Bool) → AreSome (runs_after v (n + 1) ws) → AreSome (runs_after w 1 ws) → AreSome (cond b (runs_after v (n + 1) ws) ((v, n) ∷ runs_after w 1 ws))
    go true one two = one
    go false one two = (some, two)

pub runs_count : (vs : List Value) → Rises value_cmp vs → AreCountsOf vs (runs vs)
runs_count [] up = record { rising = tt; some = tt; exact = λ u. refl }
runs_count (v ∷ vs) up = record { rising = are_rising v 1 vs up; some = are_some v 1 vs (omega arith); exact = λ u. exact u v 1 vs up }

-- ---- the order of the values is nothing to their counts

same_sum : (u : Value) (vs : List Value) → count_same u vs ≡ sum_by (λ w. cond (are_same w u) 1 0) vs
same_sum u vs = is_sum_by (count_same u) (λ w. cond (are_same w u) 1 0) refl (λ w ws. refl) vs

pub counts_permute : (vs ws : List Value) (cs : List Counted) → IsPermutation vs ws → AreCountsOf ws cs → AreCountsOf vs cs
counts_permute vs ws cs moved are = record {
  rising = are.rising;
  some = are.some;
  exact = λ u. are.exact u ∙ same_sum u ws ∙ sum_by-IsPermutation (λ w. cond (are_same w u) 1 0) vs ws moved ∙ sym (same_sum u vs);
}

pub counts_are : (vs : List Value) → AreCountsOf vs (value_counts vs)
counts_are vs =
    counts_permute vs (sorted_by value_cmp vs) (value_counts vs) (sorted_permutes value_cmp vs)
    (runs_count (sorted_by value_cmp vs) (sorted_rises value_cmp (ranks_by value_cmp_total (λ v. v)) vs))

-- ---- there is one list of counts

abbrev CountsAbove : Value → List Counted → Type 0
CountsAbove v cs = AllByRecursion (λ c. value_cmp v c.0 ≡ Less) cs

further_above : (u v : Value) (cs : List Counted) → value_cmp u v ≡ Less → CountsAbove v cs → CountsAbove u cs
further_above u v [] less above = tt
further_above u v (c ∷ cs) less (first, above) = (value_cmp_total.trans u v c.0 less first, further_above u v cs less above)

rest_above : (c : Counted) (cs : List Counted) → AreRising (c ∷ cs) → CountsAbove c.0 cs
rest_above c [] up = tt
rest_above c (d ∷ cs) (less, up) = (less, further_above c.0 d.0 cs less (rest_above d cs up))

rest_rises : (c : Counted) (cs : List Counted) → AreRising (c ∷ cs) → AreRising cs
rest_rises c [] up = tt
rest_rises c (d ∷ cs) (less, up) = up

none_above : (v : Value) (cs : List Counted) → CountsAbove v cs → count_for v cs ≡ 0
none_above v [] above = refl
none_above v (c ∷ cs) (less, above) = ap (λ (b : Bool). cond b c.1 (count_for v cs)) (not_same v c.0 less) ∙ none_above v cs above

first_count : (c : Counted) (cs : List Counted) → count_for c.0 (c ∷ cs) ≡ c.1
first_count c cs = ap (λ (b : Bool). cond b c.1 (count_for c.0 cs)) (ap is_eq (tied_itself value_cmp_total c.0))

-- the first value of the one isn't below all of the other
not_below : (c d : Counted) (cs ds : List Counted) → 0 < c.1 → AreRising (d ∷ ds) → count_for c.0 (c ∷ cs) ≡ count_for c.0 (d ∷ ds) → value_cmp c.0 d.0 ≡ Less → ⊥
not_below c d cs ds some up agree less =
    let none : c.1 ≡ 0 = sym (first_count c cs) ∙ agree ∙ none_above c.0 (d ∷ ds) (less, further_above c.0 d.0 ds less (rest_above d ds up)) in
    omega (arith, some, none)

module _ (c d : Counted) (cs ds : List Counted) (up : AreRising (c ∷ cs)) (rise : AreRising (d ∷ ds)) (agree : (v : Value) → count_for v (c ∷ cs) ≡ count_for v (d ∷ ds)) where
  same_first : 0 < c.1 → 0 < d.1 → c.0 ≡ d.0
  same_first some more = values_tie c.0 d.0 (go (value_cmp c.0 d.0) refl)
    where
      go : (o : Ordering) → value_cmp c.0 d.0 ≡ o → o ≡ Equal
      go Less e = absurd (not_below c d cs ds some rise (agree c.0) e)
      go Equal e = refl
      go Greater e = absurd (not_below d c ds cs more up (sym (agree d.0)) (turned_round c.0 d.0 Greater e))

  same_rest : c.0 ≡ d.0 → (v : Value) → count_for v cs ≡ count_for v ds
  same_rest first v = go (are_same c.0 v) refl
    where
      go : (b : Bool) → are_same c.0 v ≡ b → count_for v cs ≡ count_for v ds
      go true same =
          subst (λ x. count_for x cs ≡ count_for x ds) (values_tie c.0 v (same_is c.0 v same))
          (none_above c.0 cs (rest_above c cs up) ∙ sym (ap (λ x. count_for x ds) first ∙ none_above d.0 ds (rest_above d ds rise)))
      go false other =
          sym (ap (λ (b : Bool). cond b c.1 (count_for v cs)) other) ∙ agree v ∙ ap (λ (b : Bool). cond b d.1 (count_for v ds)) (ap (λ x. are_same x v) (sym first) ∙ other)

same_pair : (c d : Counted) → c.0 ≡ d.0 → c.1 ≡ d.1 → c ≡ d
same_pair (v, n) (w, m) first second = ap₂ (λ (x : Value) (k : ℕ). (x, k)) first second

same_counts : (cs ds : List Counted) → AreRising cs → AreRising ds → AreSome cs → AreSome ds → ((v : Value) → count_for v cs ≡ count_for v ds) → cs ≡ ds
same_counts [] [] up rise some more agree = refl
same_counts [] (d ∷ ds) up rise some more agree = let none : d.1 ≡ 0 = sym (first_count d ds) ∙ sym (agree d.0) in absurd (omega (arith, more.0, none))
same_counts (c ∷ cs) [] up rise some more agree = let none : c.1 ≡ 0 = sym (first_count c cs) ∙ agree c.0 in absurd (omega (arith, some.0, none))
same_counts (c ∷ cs) (d ∷ ds) up rise some more agree =
    let first = same_first c d cs ds up rise agree some.0 more.0 in
    let count : c.1 ≡ d.1 = sym (first_count c cs) ∙ agree c.0 ∙ ap (λ v. count_for v (d ∷ ds)) first ∙ first_count d ds in
    ap₂ ◌∷◌ (same_pair c d first count) (same_counts cs ds (rest_rises c cs up) (rest_rises d ds rise) some.1 more.1 (same_rest c d cs ds up rise agree first))

pub one_list_of_counts : (vs : List Value) (cs : List Counted) → AreCountsOf vs cs → cs ≡ value_counts vs
one_list_of_counts vs cs are =
    let is = counts_are vs in
    same_counts cs (value_counts vs) are.rising is.rising are.some is.some (λ v. are.exact v ∙ sym (is.exact v))
