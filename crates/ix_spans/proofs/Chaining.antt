-- Chains find what choices in order have.
use Rattle.std.proofs.Common.{ℕ, ◌≡◌, ◌≤◌, ◌<◌, ◌+◌, inl, inr, nat_le, nat_lt, Bool, true, false, cond, List, [], ◌∷◌, Option, Some, None, refl, ap, arith}
use Rattle.std.specs.Bool.{if◌then◌else◌}
use Rattle.std.specs.List.{list_all, filter}
use Rattle.std.proofs.lemmas.Bool.{and_parts, and_from, leb-true, leb-false}
use Rattle.std.proofs.lemmas.Bool.Decides.{nat_tests}
use Rattle.ct_base.specs.declared.numbers.Pair.{Pair}
use Rattle.ct_base.specs.laws.Bools.{same_tests}
use Rattle.ix_spans.specs.InOrder.{StartsInOrder, EachInOrder}
use Rattle.ix_spans.specs.Occurrences.{choices, is_within_span, is_near, near_holds, rises_from, starts_rise}
use Rattle.ix_spans.specs.Windows.{starts_from, first_by, next_start, from_start, chains, opens_chain, chained}
use Rattle.ix_spans.specs.laws.Choices.{Within, any_of, any_by, all_of, all_by, Picks, choice_picks, pick_choice}
use Rattle.ix_spans.proofs.PairSearches.{first_starts, others_in_order, within_filter}

rises_above : (b : ℕ) (c : List Pair) (q : Pair) → rises_from b c ≡ true → Within q c → b < q.first
rises_above b [] q h w = absurd w
rises_above b (p ∷ c) q h (inl e) = let k = (and_parts (nat_lt b p.first) (rises_from p.first c) h).0 in rw e (grind (arith, nat_tests, k))
rises_above b (p ∷ c) q h (inr w) =
    let k = and_parts (nat_lt b p.first) (rises_from p.first c) h in
    let first : b < p.first = grind (arith, nat_tests, k.0) in
    let rest = rises_above p.first c q k.1 w in
    omega (arith, first, rest)

-- what the next start is
pub record IsNext (b e : ℕ) (o : List Pair) (s : ℕ) : Type 0 where
  pub pair : Pair
  pub within : Within pair o
  pub starts : pair.first ≡ s
  pub behind : b < s
  pub ends : pair.last ≤ e

first_is : (e : ℕ) (ps : List Pair) (s : ℕ) → first_by e ps ≡ Some s → (p : Pair) × Within p ps × (p.first ≡ s) × (p.last ≤ e)
first_is e [] s h = cc
first_is e (p ∷ ps) s h = go (first_is e ps s) (nat_le p.last e) refl h
  where
    go : (first_by e ps ≡ Some s → (q : Pair) × Within q ps × (q.first ≡ s) × (q.last ≤ e)) → (test : Bool) → nat_le p.last e ≡ test → (if test then Some p.first else first_by e ps) ≡ Some s → (q : Pair) × Within q (p ∷ ps) × (q.first ≡ s) × (q.last ≤ e)
    go rest true is k = let here : p.first ≡ s = cc in (p, inl refl, here, leb-true p.last e is)
    go rest false is k = let r = rest k in (r.0, inr r.1, r.2, r.3)

next_is : (b e : ℕ) (o : List Pair) (s : ℕ) → next_start b e o ≡ Some s → IsNext b e o s
next_is b e o s h =
    let r = first_is e (filter (starts_from (b + 1)) o) s h in
    let w = within_filter (starts_from (b + 1)) o r.0 r.1 in
    let from = leb-true (b + 1) r.0.first w.1 in
    let is = r.2 in
    record { pair = r.0; within = w.0; starts = is; behind = omega (arith, from, is); ends = r.3 }

-- there is a start, and it is this one or less
abbrev FoundBy : ℕ → Option ℕ → Type 0
FoundBy most l = (s : ℕ) × (l ≡ Some s) × (s ≤ most)

-- it is the least start behind a number
next_by : (b e : ℕ) (o : List Pair) (p : Pair) → StartsInOrder o → Within p o → b < p.first → p.last ≤ e → FoundBy p.first (next_start b e o)
next_by b e [] p order w h k = absurd w
next_by b e (q ∷ o) p order w h k = go (next_by b e o p (others_in_order q o order)) (nat_le (b + 1) q.first) refl (nat_le q.last e) refl w
  where
    go : (Within p o → b < p.first → p.last ≤ e → FoundBy p.first (next_start b e o)) → (from : Bool) → nat_le (b + 1) q.first ≡ from → (by : Bool) → nat_le q.last e ≡ by → Within p (q ∷ o) → FoundBy p.first (first_by e (cond from (q ∷ filter (starts_from (b + 1)) o) (filter (starts_from (b + 1)) o)))
    go rest true is true was v = (q.first, rw was refl, first_starts q o p order w)
    go rest true is false was (inl e') = let far = leb-false q.last e was in let same : p.last ≡ q.last = ap (λ (x : Pair). x.last) e' in absurd (omega (arith, far, same, k))
    go rest true is false was (inr v) = rw was (rest v h k)
    go rest false is by was (inl e') = let low = leb-false (b + 1) q.first is in let same : p.first ≡ q.first = ap (λ (x : Pair). x.first) e' in absurd (omega (arith, low, same, h))
    go rest false is by was (inr v) = rest v h k

chain_picks : (os : List (List Pair)) (b e : ℕ) → chains os b e ≡ true → (c : List Pair) × Picks os c × (rises_from b c ≡ true) × ((q : Pair) → Within q c → q.last ≤ e)
chain_picks [] b e h = ([], tt, refl, λ q w. absurd w)
chain_picks (o ∷ os) b e h = go (λ s. chain_picks os s e) (next_start b e o) refl h
  where
    join : (s : ℕ) → IsNext b e o s → (c : List Pair) × Picks os c × (rises_from s c ≡ true) × ((q : Pair) → Within q c → q.last ≤ e) → (c : List Pair) × Picks (o ∷ os) c × (rises_from b c ≡ true) × ((q : Pair) → Within q c → q.last ≤ e)
    join s l r = (l.pair ∷ r.0, (l.within, r.1), and_from (nat_lt b l.pair.first) (rises_from l.pair.first r.0) rise (rw l.starts r.2), each)
      where
        rise : nat_lt b l.pair.first ≡ true
        rise = let x = l.behind in let y = l.starts in rw l.starts (grind (arith, nat_tests, x))

        each : (q : Pair) → Within q (l.pair ∷ r.0) → q.last ≤ e
        each q (inl is) = rw is l.ends
        each q (inr w) = r.3 q w

    go : ((s : ℕ) → chains os s e ≡ true → (c : List Pair) × Picks os c × (rises_from s c ≡ true) × ((q : Pair) → Within q c → q.last ≤ e)) → (l : Option ℕ) → next_start b e o ≡ l → from_start l (λ s. chains os s e) ≡ true → (c : List Pair) × Picks (o ∷ os) c × (rises_from b c ≡ true) × ((q : Pair) → Within q c → q.last ≤ e)
    go rest None was k = cc
    go rest (Some s) was k = join s (next_is b e o s was) (rest s k)

chains_by : (os : List (List Pair)) (c : List Pair) (a b e : ℕ) → EachInOrder os → a ≤ b → Picks os c → rises_from b c ≡ true → ((q : Pair) → Within q c → q.last ≤ e) → chains os a e ≡ true
chains_by [] c a b e order le h rise ends = refl
chains_by (o ∷ os) [] a b e order le h rise ends = absurd h
chains_by (o ∷ os) (p ∷ c) a b e order le h rise ends =
    let k = and_parts (nat_lt b p.first) (rises_from p.first c) rise in
    let first : b < p.first = grind (arith, nat_tests, k.0) in
    let l = next_by a e o p order.0 h.0 (omega (arith, first, le)) (ends p (inl refl)) in
    rw l.1 (chains_by os c l.0 p.first e order.1 l.2 h.1 k.1 (λ q w. ends q (inr w)))

pub chains_find : (os : List (List Pair)) (span : ℕ) → EachInOrder os → chained os span ≡ near_holds os span true
chains_find [] span order = refl
chains_find (o ∷ os) span order = same_tests (chained (o ∷ os) span) (near_holds (o ∷ os) span true) there back
  where
    near : (p : Pair) (c : List Pair) → p.last ≤ p.first + span → rises_from p.first c ≡ true → ((q : Pair) → Within q c → q.last ≤ p.first + span) → is_within_span span (p ∷ c) ≡ true
    near p c own rise ends = all_by (λ (x : Pair). list_all (λ (y : Pair). nat_le x.last (y.first + span)) (p ∷ c)) (p ∷ c) (λ x v. all_by (λ (y : Pair). nat_le x.last (y.first + span)) (p ∷ c) (λ y w. test x y (last x v) (start y w)))
      where
        last : (x : Pair) → Within x (p ∷ c) → x.last ≤ p.first + span
        last x (inl e) = rw e own
        last x (inr w) = ends x w

        start : (y : Pair) → Within y (p ∷ c) → p.first ≤ y.first
        start y (inl e) = rw e (omega arith)
        start y (inr w) = let r = rises_above p.first c y rise w in omega (arith, r)

        test : (x y : Pair) → x.last ≤ p.first + span → p.first ≤ y.first → nat_le x.last (y.first + span) ≡ true
        test x y h k = grind (arith, nat_tests, h, k)

    there : chained (o ∷ os) span ≡ true → near_holds (o ∷ os) span true ≡ true
    there h =
        let p = any_of (opens_chain os span) o h in
        let k = and_parts (nat_le p.0.last (p.0.first + span)) (chains os p.0.first (p.0.first + span)) p.2 in
        let own : p.0.last ≤ p.0.first + span = grind (arith, nat_tests, k.0) in
        let c = chain_picks os p.0.first (p.0.first + span) k.1 in
        any_by (is_near span true) (choices (o ∷ os)) (p.0 ∷ c.0) (pick_choice (o ∷ os) (p.0 ∷ c.0) (p.1, c.1)) (and_from (is_within_span span (p.0 ∷ c.0)) (rises_from p.0.first c.0) (near p.0 c.0 own c.2 c.3) c.2)

    open_by : (c : List Pair) → Picks (o ∷ os) c → is_within_span span c ≡ true → starts_rise c ≡ true → chained (o ∷ os) span ≡ true
    open_by [] h close rise = absurd h
    open_by (p ∷ c) h close rise = any_by (opens_chain os span) o p h.0 (and_from (nat_le p.last (p.first + span)) (chains os p.first (p.first + span)) (test p (inl refl)) (chains_by os c p.first p.first (p.first + span) order.1 (omega arith) h.1 rise ends))
      where
        test : (q : Pair) → Within q (p ∷ c) → nat_le q.last (p.first + span) ≡ true
        test q w = all_of (λ (y : Pair). nat_le q.last (y.first + span)) (p ∷ c) p (all_of (λ (x : Pair). list_all (λ (y : Pair). nat_le x.last (y.first + span)) (p ∷ c)) (p ∷ c) q close w) (inl refl)

        ends : (q : Pair) → Within q c → q.last ≤ p.first + span
        ends q w = let t = test q (inr w) in grind (arith, nat_tests, t)

    back : near_holds (o ∷ os) span true ≡ true → chained (o ∷ os) span ≡ true
    back h =
        let c = any_of (is_near span true) (choices (o ∷ os)) h in
        let k = and_parts (is_within_span span c.0) (starts_rise c.0) c.2 in
        open_by c.0 (choice_picks (o ∷ os) c.0 c.1) k.0 k.1
