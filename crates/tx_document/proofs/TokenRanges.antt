-- The tokens in a span of the text are those of a range.
use Rattle.std.proofs.Common.{◌≡◌, ℕ, zero, suc, ◌+◌, ◌-◌, ◌<◌, ◌≤◌, Bool, true, false, cond, List, [], ◌∷◌, ◌++◌, length, get_or, Some, None, refl, sym, ap, ◌∙◌, arith}
use Rattle.std.specs.Prelude.{nat_le, nat_lt, ◌&&◌}
use Rattle.std.specs.List.Sorted.{IsNonDecreasingBy, IsPartitionPoint}
use Rattle.std.proofs.lemmas.Bool.{ltb-true, ltb-false, lt-leb, le-leb}
use Rattle.tx_lexer.specs.declared.tokens.Token.{Token}
use Rattle.tx_lexer.specs.Tokens.{AreInOrder}
use Rattle.tx_tags.specs.declared.pairing.Span.{Span}
use Rattle.tx_document.specs.declared.ranges.Range.{Range}
use Rattle.tx_document.specs.Documents.{is_inside, positions_in, reach_of, last_of, pair}
use Rattle.tx_document.specs.Ranges.{AreRising, Splits, starts_before, ends_by, IsRange, reach_of_range}

-- ---- where a test parts the tokens

pub splits_at : (p : Token → Bool) (ts : List Token) (n : ℕ) → n ≤ length ts → IsPartitionPoint (λ t. p t ≡ true) (λ t. p t ≡ false) ts n → Splits p n ts
splits_at p [] zero within point = refl
splits_at p [] (suc n) within point = absurd (omega arith)
splits_at p (t ∷ ts) zero within point = (point.1 0 t (omega arith) (omega arith), splits_at p ts zero (omega arith) ((λ k d least less. absurd (omega arith)), (λ k d least less. point.1 (suc k) d (omega arith) (omega arith))))
splits_at p (t ∷ ts) (suc n) within point = (point.0 0 t (omega arith) (omega arith), splits_at p ts n (omega arith) ((λ k d least less. point.0 (suc k) d (omega arith) (omega arith)), (λ k d least less. point.1 (suc k) d (omega arith) (omega arith))))

-- ---- the order of tokens

-- numbers, each at least the one before it
abbrev Climbs : (Token → ℕ) → ℕ → List Token → Type 0
Climbs f least [] = Unit {0}
Climbs f least (t ∷ ts) = (least ≤ f t) × Climbs f (f t) ts

climbs_to : (f : Token → ℕ) (least : ℕ) (ts : List Token) (i : ℕ) (d : Token) → Climbs f least ts → i < length ts → least ≤ f (get_or ts i d)
climbs_to f least [] i d up less = absurd (omega arith)
climbs_to f least (t ∷ ts) zero d up less = up.0
climbs_to f least (t ∷ ts) (suc i) d up less = let rest = climbs_to f (f t) ts i d up.1 (omega arith) in omega (arith, rest, up.0)

non_decreasing : (f : Token → ℕ) (least : ℕ) (ts : List Token) → Climbs f least ts → IsNonDecreasingBy f ts
non_decreasing f least [] up i j d le less = absurd (omega arith)
non_decreasing f least (t ∷ ts) up zero zero d le less = omega arith
non_decreasing f least (t ∷ ts) up zero (suc j) d le less = climbs_to f (f t) ts j d up.1 (omega arith)
non_decreasing f least (t ∷ ts) up (suc i) zero d le less = absurd (omega arith)
non_decreasing f least (t ∷ ts) up (suc i) (suc j) d le less = non_decreasing f (f t) ts up.1 i j d (omega arith) (omega arith)

starts_climb : (least low most : ℕ) (ts : List Token) → low ≤ least → AreInOrder least most ts → Climbs (λ t. t.start) low ts
starts_climb least low most [] le order = tt
starts_climb least low most (t ∷ ts) le order = (omega (arith, order.0), starts_climb t.end t.start most ts (omega (arith, order.1)) order.3)

ends_climb : (least most : ℕ) (ts : List Token) → AreInOrder least most ts → Climbs (λ t. t.end) least ts
ends_climb least most [] order = tt
ends_climb least most (t ∷ ts) order = (omega (arith, order.0, order.1), ends_climb t.end most ts order.3)

pub in_order_rising : (least most : ℕ) (ts : List Token) → AreInOrder least most ts → AreRising ts
in_order_rising least most ts order = record { starts = non_decreasing (λ t. t.start) least ts (starts_climb least least most ts (omega arith) order); ends = non_decreasing (λ t. t.end) least ts (ends_climb least most ts order) }

-- ---- the positions in a span

pub outside : (s : Span) (t : Token) → starts_before s.start t ≡ true → is_inside t s ≡ false
outside s t before = let less = ltb-true t.start s.start before in ap (λ (b : Bool). b && nat_le t.end s.end) (lt-leb s.start t.start less)

pub inside : (s : Span) (t : Token) → starts_before s.start t ≡ false → is_inside t s ≡ ends_by s.end t
inside s t from = let le = ltb-false t.start s.start from in ap (λ (b : Bool). b && nat_le t.end s.end) (le-leb s.start t.start le)

pub not_inside : (s : Span) (t : Token) → ends_by s.end t ≡ false → is_inside t s ≡ false
not_inside s t past = go (nat_le s.start t.start)
  where
    go : (b : Bool) → (b && nat_le t.end s.end) ≡ false
    go true = past
    go false = refl

-- so many numbers from one on
abbrev upto : ℕ → ℕ → List ℕ
upto from zero = []
upto from (suc n) = from ∷ upto (from + 1) n

abbrev chosen : Bool → ℕ → List ℕ → List ℕ
chosen b q ps = cond b (q ∷ []) [] ++ ps

positions_are : (s : Span) (ts : List Token) (q a b : ℕ) → Splits (starts_before s.start) a ts → Splits (ends_by s.end) b ts → positions_in s q ts ≡ upto (q + a) (b - a)
positions_are s [] q a b before within = let none : b - a ≡ 0 = omega (arith, before, within) in ap (upto (q + a)) (sym none)
positions_are s (t ∷ ts) q zero zero before within =
    let rest = positions_are s ts (q + 1) zero zero before.1 within.1 in
    ap (λ b. chosen b q (positions_in s (q + 1) ts)) (not_inside s t within.0) ∙ rest
positions_are s (t ∷ ts) q zero (suc b) before within =
    let rest = positions_are s ts (q + 1) zero b before.1 within.1 in
    let here : q ≡ q + 0 = omega arith in
    let next : q + 1 + 0 ≡ q + 0 + 1 = omega arith in
    let less : b - 0 ≡ b = omega arith in
    let all : suc b - 0 ≡ suc b = omega arith in
    ap (λ c. chosen c q (positions_in s (q + 1) ts)) (inside s t before.0 ∙ within.0) ∙ ap (λ l. q ∷ l) (rest ∙ ap (upto (q + 1 + 0)) less ∙ ap (λ n. upto n b) next)
    ∙ ap (λ n. n ∷ upto (q + 0 + 1) b) here ∙ ap (upto (q + 0)) (sym all)
positions_are s (t ∷ ts) q (suc a) zero before within =
    let rest = positions_are s ts (q + 1) a zero before.1 within.1 in
    let none : 0 - a ≡ 0 = omega arith in
    let all : 0 - suc a ≡ 0 = omega arith in
    ap (λ b. chosen b q (positions_in s (q + 1) ts)) (outside s t before.0) ∙ rest ∙ ap (upto (q + 1 + a)) none ∙ ap (upto (q + suc a)) (sym all)
positions_are s (t ∷ ts) q (suc a) (suc b) before within =
    let rest = positions_are s ts (q + 1) a b before.1 within.1 in
    let same : q + 1 + a ≡ q + suc a = omega arith in
    let less : b - a ≡ suc b - suc a = omega arith in
    ap (λ c. chosen c q (positions_in s (q + 1) ts)) (outside s t before.0) ∙ rest ∙ ap (λ n. upto n (b - a)) same ∙ ap (upto (q + suc a)) less

last_upto : (p n : ℕ) → last_of p (upto (p + 1) n) ≡ p + n
last_upto p zero = omega arith
last_upto p (suc n) = let rest = last_upto (p + 1) n in omega (arith, rest)

reach_upto : (p n : ℕ) → reach_of (upto p (suc n)) ≡ Some (pair p (p + n))
reach_upto p n = ap (λ m. Some (pair p m)) (last_upto p n)

pub reach_is : (s : Span) (ts : List Token) (r : Range) → IsRange s ts r → reach_of (positions_in s 1 ts) ≡ reach_of_range r
reach_is s ts r is = ap reach_of (positions_are s ts 1 r.first r.behind is.before is.within) ∙ go (nat_lt r.first r.behind) refl (r.behind - r.first) refl
  where
    go : (b : Bool) → nat_lt r.first r.behind ≡ b → (n : ℕ) → r.behind - r.first ≡ n → reach_of (upto (1 + r.first) n) ≡ cond b (Some (pair (r.first + 1) r.behind)) None
    go true less zero is = absurd (omega (arith, ltb-true r.first r.behind less))
    go true less (suc n) is =
        let first : 1 + r.first ≡ r.first + 1 = omega arith in
        let last : 1 + r.first + n ≡ r.behind = omega (arith, is) in
        reach_upto (1 + r.first) n ∙ ap (λ m. Some (pair m (1 + r.first + n))) first ∙ ap (λ m. Some (pair (r.first + 1) m)) last
    go false less zero is = refl
    go false less (suc n) is = absurd (omega (arith, ltb-false r.first r.behind less))
