-- Windows that leap find what choices have.
use Rattle.std.proofs.Common.{ℕ, ◌≡◌, ◌≤◌, ◌<◌, ◌+◌, ◌-◌, ◌⊎◌, inl, inr, min, max, nat_le, true, false, List, [], ◌∷◌, Option, Some, None, refl, sym, ap, ◌∙◌, arith}
use Rattle.std.specs.List.{list_all, filter}
use Rattle.std.specs.Option.{option_and_then}
use Rattle.std.proofs.lemmas.Bool.{cases_lt, and_parts, and_from, leb-true, le-leb, false_from_ne_true}
use Rattle.ct_base.specs.declared.numbers.Pair.{Pair}
use Rattle.ct_base.specs.laws.Options.{same_value}
use Rattle.ix_spans.specs.Occurrences.{choices, is_within_span, is_near, near_holds}
use Rattle.ix_spans.specs.Windows.{starts_from, least_of, least_of_all, least_end, opening}
use Rattle.ix_spans.specs.laws.Choices.{Within, any_of, any_by, all_of, all_by, Picks, choice_picks, pick_choice}
use Rattle.ix_spans.proofs.PairSearches.{within_filter, filter_within}

-- ---- the least end

least_at_most : (e : ℕ) (ps : List Pair) → least_of e ps ≤ e
least_at_most e [] = omega arith
least_at_most e (p ∷ ps) = let r = least_at_most (min e p.last) ps in omega (arith, r)

least_under : (e : ℕ) (ps : List Pair) (p : Pair) → Within p ps → least_of e ps ≤ p.last
least_under e [] p w = absurd w
least_under e (q ∷ ps) p (inl is) = let r = least_at_most (min e q.last) ps in rw is (omega (arith, r))
least_under e (q ∷ ps) p (inr w) = least_under (min e q.last) ps p w

-- the end, or that of a pair
least_one : (q : Pair) (ps : List Pair) → (p : Pair) × Within p (q ∷ ps) × (p.last ≡ least_of q.last ps)
least_one q [] = (q, inl refl, refl)
least_one q (r ∷ ps) = go (least_one r ps) (least_one q ps) (cases_lt r.last q.last)
  where
    further : (p : Pair) → Within p (q ∷ ps) → Within p (q ∷ r ∷ ps)
    further p (inl e) = inl e
    further p (inr w) = inr (inr w)

    go : (p : Pair) × Within p (r ∷ ps) × (p.last ≡ least_of r.last ps) → (p : Pair) × Within p (q ∷ ps) × (p.last ≡ least_of q.last ps) → (r.last < q.last) ⊎ (q.last ≤ r.last) → (p : Pair) × Within p (q ∷ r ∷ ps) × (p.last ≡ least_of (min q.last r.last) ps)
    go x y (inl l) = let same : min q.last r.last ≡ r.last = omega (arith, l) in (x.0, inr x.1, rw same x.2)
    go x y (inr l) = let same : min q.last r.last ≡ q.last = omega (arith, l) in (y.0, further y.0 y.1, rw same y.2)

end_of_one : (ps : List Pair) (e : ℕ) → least_of_all ps ≡ Some e → (p : Pair) × Within p ps × (p.last ≡ e)
end_of_one [] e h = cc
end_of_one (q ∷ ps) e h = let x = least_one q ps in (x.0, x.1, x.2 ∙ same_value (least_of q.last ps) e h)

end_under : (ps : List Pair) (e : ℕ) (p : Pair) → least_of_all ps ≡ Some e → Within p ps → e ≤ p.last
end_under [] e p h w = absurd w
end_under (q ∷ ps) e p h (inl is) = let s = same_value (least_of q.last ps) e h in let r = least_at_most q.last ps in rw is (omega (arith, s, r))
end_under (q ∷ ps) e p h (inr w) = let s = same_value (least_of q.last ps) e h in let r = least_under q.last ps p w in omega (arith, s, r)

-- what the least end from a number on is
pub record IsLeastEnd (s : ℕ) (o : List Pair) (e : ℕ) : Type 0 where
  pub pair : Pair
  pub within : Within pair o
  pub starts : s ≤ pair.first
  pub ends : pair.last ≡ e
  pub least : (p : Pair) → Within p o → s ≤ p.first → e ≤ p.last

least_is : (s : ℕ) (o : List Pair) (e : ℕ) → least_end s o ≡ Some e → IsLeastEnd s o e
least_is s o e h =
    let x = end_of_one (filter (starts_from s) o) e h in
    let w = within_filter (starts_from s) o x.0 x.1 in
    record {
      pair = x.0;
      within = w.0;
      starts = leb-true s x.0.first w.1;
      ends = x.2;
      least = λ p v k. end_under (filter (starts_from s) o) e p h (filter_within (starts_from s) o p v (le-leb s p.first k));
    }

nothing_within : (ps : List Pair) (p : Pair) → least_of_all ps ≡ None → Within p ps → ⊥
nothing_within [] p h w = w
nothing_within (q ∷ ps) p h w = cc

none_from : (s : ℕ) (o : List Pair) (p : Pair) → least_end s o ≡ None → Within p o → s ≤ p.first → ⊥
none_from s o p h w k = nothing_within (filter (starts_from s) o) p h (filter_within (starts_from s) o p w (le-leb s p.first k))

-- ---- where a window may open

pub opening_rises : (span s : ℕ) (os : List (List Pair)) (t : ℕ) → opening span s os ≡ Some t → s ≤ t
opening_rises span s [] t h = let e = same_value s t h in omega (arith, e)
opening_rises span s (o ∷ os) t h = go (λ n. opening_rises span n os t) (least_end s o) h
  where
    go : ((n : ℕ) → opening span n os ≡ Some t → n ≤ t) → (l : Option ℕ) → option_and_then (λ e. opening span (max s (e - span)) os) l ≡ Some t → s ≤ t
    go rest None k = cc
    go rest (Some e) k = let r = rest (max s (e - span)) k in omega (arith, r)

-- from a number on, and so far
abbrev AllIn : ℕ → ℕ → List Pair → Type 0
AllIn s e c = (q : Pair) → Within q c → (s ≤ q.first) × (q.last ≤ e)

-- where it stays, each operand has a pair within the span
stays_here : (span s : ℕ) (os : List (List Pair)) → opening span s os ≡ Some s → (c : List Pair) × Picks os c × AllIn s (s + span) c
stays_here span s [] h = ([], tt, λ q w. absurd w)
stays_here span s (o ∷ os) h = go (stays_here span s os) (least_end s o) refl h
  where
    join : (e : ℕ) → e ≤ s + span → IsLeastEnd s o e → (c : List Pair) × Picks os c × AllIn s (s + span) c → (c : List Pair) × Picks (o ∷ os) c × AllIn s (s + span) c
    join e near l r = (l.pair ∷ r.0, (l.within, r.1), each)
      where
        each : AllIn s (s + span) (l.pair ∷ r.0)
        each q (inl is) = rw is (l.starts, let ends = l.ends in omega (arith, ends, near))
        each q (inr w) = r.2 q w

    go : (opening span s os ≡ Some s → (c : List Pair) × Picks os c × AllIn s (s + span) c) → (l : Option ℕ) → least_end s o ≡ l → option_and_then (λ e. opening span (max s (e - span)) os) l ≡ Some s → (c : List Pair) × Picks (o ∷ os) c × AllIn s (s + span) c
    go rest None was k = cc
    go rest (Some e) was k =
        let rises = opening_rises span (max s (e - span)) os s k in
        let same : max s (e - span) ≡ s = omega (arith, rises) in
        let near : e ≤ s + span = omega (arith, rises) in
        join e near (least_is s o e was) (rest (ap (λ n. opening span n os) (sym same) ∙ k))

-- each pair stands from a number on
abbrev AllFrom : ℕ → List Pair → Type 0
AllFrom s c = (q : Pair) → Within q c → s ≤ q.first

close : (span : ℕ) (c : List Pair) (p q : Pair) → is_within_span span c ≡ true → Within p c → Within q c → p.last ≤ q.first + span
close span c p q h v w = leb-true p.last (q.first + span) (all_of (λ (y : Pair). nat_le p.last (y.first + span)) c q (all_of (λ (x : Pair). list_all (λ (y : Pair). nat_le x.last (y.first + span)) c) c p h v) w)

module _ (span : ℕ) (c : List Pair) (near : is_within_span span c ≡ true) where
  -- where it goes on, what is near stands from there on
  goes_on : (s : ℕ) (os : List (List Pair)) (d : List Pair) (t : ℕ) → AllFrom s c → Picks os d → ((p : Pair) → Within p d → Within p c) → opening span s os ≡ Some t → AllFrom t c
  goes_on s [] d t all h part k = λ q w. let e = same_value s t k in let a = all q w in omega (arith, e, a)
  goes_on s (o ∷ os) [] t all h part k = absurd h
  goes_on s (o ∷ os) (p ∷ d) t all h part k = go (λ n more. goes_on n os d t more h.1 (λ q w. part q (inr w))) (least_end s o) refl k
    where
      go : ((n : ℕ) → AllFrom n c → opening span n os ≡ Some t → AllFrom t c) → (l : Option ℕ) → least_end s o ≡ l → option_and_then (λ e. opening span (max s (e - span)) os) l ≡ Some t → AllFrom t c
      go rest None was k = cc
      go rest (Some e) was k =
          let mine = part p (inl refl) in
          let least = (least_is s o e was).least p h.0 (all p mine) in
          rest (max s (e - span)) (λ q w. let a = all q w in let b = close span c p q near mine w in omega (arith, least, a, b)) k

  -- where there is no place, nothing is near
  ends_there : (s : ℕ) (os : List (List Pair)) (d : List Pair) → AllFrom s c → Picks os d → ((p : Pair) → Within p d → Within p c) → opening span s os ≡ None → ⊥
  ends_there s [] d all h part k = cc
  ends_there s (o ∷ os) [] all h part k = h
  ends_there s (o ∷ os) (p ∷ d) all h part k = go (λ n more. ends_there n os d more h.1 (λ q w. part q (inr w))) (least_end s o) refl k
    where
      go : ((n : ℕ) → AllFrom n c → opening span n os ≡ None → ⊥) → (l : Option ℕ) → least_end s o ≡ l → option_and_then (λ e. opening span (max s (e - span)) os) l ≡ None → ⊥
      go rest None was k = none_from s o p was h.0 (all p (part p (inl refl)))
      go rest (Some e) was k =
          let mine = part p (inl refl) in
          let least = (least_is s o e was).least p h.0 (all p mine) in
          rest (max s (e - span)) (λ q w. let a = all q w in let b = close span c p q near mine w in omega (arith, least, a, b)) k

-- ---- the search

-- each choice that is near stands from a number on
pub record StandFrom (os : List (List Pair)) (span s : ℕ) : Type 0 where
  pub all : (c : List Pair) → Picks os c → is_within_span span c ≡ true → AllFrom s c

pub stand_first : (os : List (List Pair)) (span : ℕ) → StandFrom os span 0
stand_first os span = record { all = λ c h near q w. omega arith }

pub stand_on : (os : List (List Pair)) (span s t : ℕ) → StandFrom os span s → opening span s os ≡ Some t → StandFrom os span t
stand_on os span s t from h = record { all = λ c k near. goes_on span c near s os c t (from.all c k near) k (λ p w. w) h }

pub stand_nowhere : (os : List (List Pair)) (span s : ℕ) → StandFrom os span s → opening span s os ≡ None → near_holds os span false ≡ false
stand_nowhere os span s from h = false_from_ne_true (near_holds os span false) none
  where
    none : near_holds os span false ≡ true → ⊥
    none near =
        let c = any_of (is_near span false) (choices os) near in
        let picks = choice_picks os c.0 c.1 in
        let within = (and_parts (is_within_span span c.0) true c.2).0 in
        ends_there span c.0 within s os c.0 (from.all c.0 picks within) picks (λ p w. w) h

all_close : (span s : ℕ) (c : List Pair) → AllIn s (s + span) c → is_within_span span c ≡ true
all_close span s c each = all_by (λ (p : Pair). list_all (λ (q : Pair). nat_le p.last (q.first + span)) c) c (λ p v. all_by (λ (q : Pair). nat_le p.last (q.first + span)) c (λ q w.
    let a = (each p v).1 in let b = (each q w).0 in le-leb p.last (q.first + span) (omega (arith, a, b))))

pub stand_here : (os : List (List Pair)) (span s : ℕ) → opening span s os ≡ Some s → near_holds os span false ≡ true
stand_here os span s h =
    let r = stays_here span s os h in
    any_by (is_near span false) (choices os) r.0 (pick_choice os r.0 r.1) (and_from (is_within_span span r.0) true (all_close span s r.0 r.2) refl)
