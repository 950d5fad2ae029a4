-- The tokens that stand in one of some spans, by how far ranges reach.
use Rattle.std.proofs.Common.{◌≡◌, ℕ, zero, suc, ◌+◌, ◌-◌, ◌<◌, ◌≤◌, Bool, true, false, cond, List, [], ◌∷◌, length, get_or, map, refl, sym, ap, subst, ◌∙◌, arith}
use Rattle.std.specs.Prelude.{nat_lt, ◌||◌, max, replicate}
use Rattle.std.proofs.lemmas.Bool.{ltb-true, ltb-false, lt-ltb, le-ltb}
use Rattle.std.proofs.lemmas.List.{length-replicate, length-set}
use Rattle.ct_base.specs.laws.Bools.{same_tests}
use Rattle.tx_lexer.specs.declared.tokens.Token.{Token}
use Rattle.tx_tags.specs.declared.pairing.Span.{Span}
use Rattle.tx_document.specs.Documents.{is_inside, is_in}
use Rattle.tx_document.specs.Ranges.{Splits, starts_before, ends_by, IsRaised, raised_at, swept}
use Rattle.tx_document.proofs.TokenRanges.{outside, inside, not_inside}

-- Each token, from the place `i` on, stands in one of all spans where it is reached or stands in one of the rest; those before it reach as far as `far`.
abbrev pub Reached : List Span → List Span → ℕ → ℕ → List ℕ → List Token → Type 0
Reached all rest far i [] [] = Unit {0}
Reached all rest far i [] (t ∷ ts) = ⊥
Reached all rest far i (r ∷ rs) [] = ⊥
Reached all rest far i (r ∷ rs) (t ∷ ts) = ((nat_lt i (max far r) || is_in t rest) ≡ is_in t all) × Reached all rest (max far r) (i + 1) rs ts

-- ---- the beginning and the end

none_reached : (all : List Span) (i : ℕ) (ts : List Token) → Reached all all 0 i (replicate (length ts) 0) ts
none_reached all i [] = tt
none_reached all i (t ∷ ts) = (ap (λ (b : Bool). b || is_in t all) (le-ltb i (max 0 0) (omega arith)), none_reached all (i + 1) ts)

all_reached : (all : List Span) (far i : ℕ) (rs : List ℕ) (ts : List Token) → Reached all [] far i rs ts → swept far i rs ≡ map (λ (t : Token). is_in t all) ts
all_reached all far i [] [] is = refl
all_reached all far i [] (t ∷ ts) is = absurd is
all_reached all far i (r ∷ rs) [] is = absurd is
all_reached all far i (r ∷ rs) (t ∷ ts) is =
    let rest = all_reached all (max far r) (i + 1) rs ts is.1 in
    let here : nat_lt i (max far r) ≡ is_in t all = alone (nat_lt i (max far r)) ∙ is.0 in
    λ n. here n ∷ rest n
  where
    alone : (b : Bool) → b ≡ (b || false)
    alone true = refl
    alone false = refl

-- ---- one span more

-- a token outside of the span, and one inside
pass : (a b c in_rest in_all : Bool) → c ≡ false → a ≡ b → (a || (c || in_rest)) ≡ in_all → (b || in_rest) ≡ in_all
pass a b c in_rest in_all out same is = ap (λ (x : Bool). x || in_rest) (sym same) ∙ ap (λ (x : Bool). a || (x || in_rest)) (sym out) ∙ is

hit : (a b c in_rest in_all : Bool) → c ≡ true → b ≡ true → (a || (c || in_rest)) ≡ in_all → (b || in_rest) ≡ in_all
hit a b c in_rest in_all within new is = ap (λ (x : Bool). x || in_rest) new ∙ sym (any a) ∙ ap (λ (x : Bool). a || (x || in_rest)) (sym within) ∙ is
  where
    any : (x : Bool) → (x || true) ≡ true
    any true = refl
    any false = refl

same_reach : (i x y : ℕ) → (i < x → i < y) → (i < y → i < x) → nat_lt i x ≡ nat_lt i y
same_reach i x y there back = same_tests (nat_lt i x) (nat_lt i y) (λ h. lt-ltb i y (there (ltb-true i x h))) (λ h. lt-ltb i x (back (ltb-true i y h)))

-- where the span has no token
none_inside : (all rest : List Span) (s : Span) (far i : ℕ) (rs : List ℕ) (ts : List Token) (a b : ℕ) → b ≤ a → Splits (starts_before s.start) a ts → Splits (ends_by s.end) b ts
    → Reached all (s ∷ rest) far i rs ts → Reached all rest far i rs ts
none_inside all rest s far i [] [] a b le before within is = tt
none_inside all rest s far i [] (t ∷ ts) a b le before within is = absurd is
none_inside all rest s far i (r ∷ rs) [] a b le before within is = absurd is
none_inside all rest s far i (r ∷ rs) (t ∷ ts) zero zero le before within is =
    (pass _ _ (is_inside t s) (is_in t rest) (is_in t all) (not_inside s t within.0) refl is.0, none_inside all rest s (max far r) (i + 1) rs ts zero zero (omega arith) before.1 within.1 is.1)
none_inside all rest s far i (r ∷ rs) (t ∷ ts) zero (suc b) le before within is = absurd (omega arith)
none_inside all rest s far i (r ∷ rs) (t ∷ ts) (suc a) zero le before within is =
    (pass _ _ (is_inside t s) (is_in t rest) (is_in t all) (not_inside s t within.0) refl is.0, none_inside all rest s (max far r) (i + 1) rs ts a zero (omega arith) before.1 within.1 is.1)
none_inside all rest s far i (r ∷ rs) (t ∷ ts) (suc a) (suc b) le before within is =
    (pass _ _ (is_inside t s) (is_in t rest) (is_in t all) (outside s t before.0) refl is.0, none_inside all rest s (max far r) (i + 1) rs ts a b (omega arith) before.1 within.1 is.1)

-- behind the first token of the span, which reaches up to `e`
run : (all rest : List Span) (s : Span) (far high e i : ℕ) (rs : List ℕ) (ts : List Token) (b : ℕ) → high ≡ max far e → b ≡ e - i → Splits (starts_before s.start) zero ts → Splits (ends_by s.end) b ts
    → Reached all (s ∷ rest) far i rs ts → Reached all rest high i rs ts
run all rest s far high e i [] [] b highest left before within is = tt
run all rest s far high e i [] (t ∷ ts) b highest left before within is = absurd is
run all rest s far high e i (r ∷ rs) [] b highest left before within is = absurd is
run all rest s far high e i (r ∷ rs) (t ∷ ts) zero highest left before within is =
    let next : max high r ≡ max (max far r) e = omega (arith, highest) in
    let gone : 0 ≡ e - (i + 1) = omega (arith, left) in
    let past : e ≤ i = omega (arith, left) in
    let same = same_reach i (max far r) (max high r) (λ h. omega (arith, highest)) (λ h. omega (arith, highest, past)) in (
      pass (nat_lt i (max far r)) (nat_lt i (max high r)) (is_inside t s) (is_in t rest) (is_in t all) (not_inside s t within.0) same is.0,
      run all rest s (max far r) (max high r) e (i + 1) rs ts zero next gone before.1 within.1 is.1,
    )
run all rest s far high e i (r ∷ rs) (t ∷ ts) (suc b) highest left before within is =
    let next : max high r ≡ max (max far r) e = omega (arith, highest) in
    let fewer : b ≡ e - (i + 1) = omega (arith, left) in
    let here : i < max high r = omega (arith, highest, left) in (
      hit (nat_lt i (max far r)) (nat_lt i (max high r)) (is_inside t s) (is_in t rest) (is_in t all) (inside s t before.0 ∙ within.0) (lt-ltb i (max high r) here) is.0,
      run all rest s (max far r) (max high r) e (i + 1) rs ts b next fewer before.1 within.1 is.1,
    )

one_more : (all rest : List Span) (s : Span) (far e i : ℕ) (rs : List ℕ) (ts : List Token) (a b : ℕ) → a < b → e ≡ i + b → Splits (starts_before s.start) a ts → Splits (ends_by s.end) b ts
    → Reached all (s ∷ rest) far i rs ts → Reached all rest far i (raised_at a e rs) ts
one_more all rest s far e i rs [] a b less end before within is = absurd (omega (arith, within))
one_more all rest s far e i [] (t ∷ ts) a b less end before within is = absurd is
one_more all rest s far e i (r ∷ rs) (t ∷ ts) zero zero less end before within is = absurd (omega arith)
one_more all rest s far e i (r ∷ rs) (t ∷ ts) zero (suc b) less end before within is =
    let high : max far (max r e) ≡ max (max far r) e = omega arith in
    let left : b ≡ e - (i + 1) = omega (arith, end) in
    let here : i < max far (max r e) = omega (arith, end) in (
      hit (nat_lt i (max far r)) (nat_lt i (max far (max r e))) (is_inside t s) (is_in t rest) (is_in t all) (inside s t before.0 ∙ within.0) (lt-ltb i (max far (max r e)) here) is.0,
      run all rest s (max far r) (max far (max r e)) e (i + 1) rs ts b high left before.1 within.1 is.1,
    )
one_more all rest s far e i (r ∷ rs) (t ∷ ts) (suc a) zero less end before within is = absurd (omega arith)
one_more all rest s far e i (r ∷ rs) (t ∷ ts) (suc a) (suc b) less end before within is = (
  pass (nat_lt i (max far r)) (nat_lt i (max far r)) (is_inside t s) (is_in t rest) (is_in t all) (outside s t before.0) refl is.0,
  one_more all rest s (max far r) e (i + 1) rs ts a b (omega arith) (omega (arith, end)) before.1 within.1 is.1,
)

-- ---- the steps of the loop

pub record IsReached (all rest : List Span) (reach : List ℕ) (ts : List Token) : Type 0 where
  pub reached : Reached all rest 0 0 reach ts
  pub long : length reach ≡ length ts

pub reached_first : (all : List Span) (ts : List Token) → IsReached all all (replicate (length ts) 0) ts
reached_first all ts = record { reached = none_reached all 0 ts; long = length-replicate {A = ℕ} (length ts) 0 }

pub reached_last : (all rest : List Span) (reach : List ℕ) (ts : List Token) → rest ≡ [] → IsReached all rest reach ts → swept 0 0 reach ≡ map (λ (t : Token). is_in t all) ts
reached_last all rest reach ts none is = all_reached all 0 0 reach ts (subst (λ (l : List Span). Reached all l 0 0 reach ts) none is.reached)

pub reached_more : (all rest later : List Span) (s : Span) (reach new : List ℕ) (ts : List Token) → rest ≡ s ∷ later → IsRaised s ts reach new → IsReached all rest reach ts → IsReached all later new ts
reached_more all rest later s reach new ts split raised before = record {
  reached = subst (λ (l : List ℕ). Reached all later 0 0 l ts) (sym raised.is) (go (nat_lt raised.range.first raised.range.behind) refl);
  long = ap length raised.is ∙ same (nat_lt raised.range.first raised.range.behind) ∙ before.long;
}
  where
    here : Reached all (s ∷ later) 0 0 reach ts
    here = subst (λ (l : List Span). Reached all l 0 0 reach ts) split before.reached

    go : (b : Bool) → nat_lt raised.range.first raised.range.behind ≡ b → Reached all later 0 0 (cond b (raised_at raised.range.first raised.range.behind reach) reach) ts
    go true less = one_more all later s 0 raised.range.behind 0 reach ts raised.range.first raised.range.behind (ltb-true raised.range.first raised.range.behind less) (omega arith) raised.of_span.before raised.of_span.within here
    go false less = none_inside all later s 0 0 reach ts raised.range.first raised.range.behind (ltb-false raised.range.first raised.range.behind less) raised.of_span.before raised.of_span.within here

    same : (b : Bool) → length (cond b (raised_at raised.range.first raised.range.behind reach) reach) ≡ length reach
    same true = length-set reach raised.range.first (max (get_or reach raised.range.first 0) raised.range.behind)
    same false = refl
