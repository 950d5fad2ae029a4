-- A query holds of a document exactly where its score there is above 0.
use Rattle.std.proofs.Common.{ℕ, ◌≡◌, ◌+◌, ◌≤◌, ◌<◌, ◌⊎◌, inl, inr, max, min, nat_lt, eqb, Bool, true, false, cond, not, ◌&&◌, ◌||◌, List, [], ◌∷◌, length, refl, sym, ap, ◌∙◌, arith}
use Rattle.std.specs.List.{list_any}
use Rattle.std.proofs.lemmas.Bool.{cases_lt, lt-ltb, le-ltb, eqb-true, and_parts}
use Rattle.std.proofs.lemmas.List.{length-map}
use Rattle.ct_base.specs.declared.numbers.Pair.{Pair}
use Rattle.ix_spans.specs.Occurrences.{Slots, phrase_starts, phrase_pairs, phrase_score, more_slots, term_score}
use Rattle.q_tree.specs.declared.flats.Slot.{Slot}
use Rattle.q_tree.specs.declared.queries.Op.TheVariants.{Or, And, Not, Minus}
use Rattle.q_tree.specs.ReducedQueries.{Term, Both, Weight, Above, Near, Within, Define}
use Rattle.q_tree.specs.Scores.{DocPostings, phrase_slots, term_slots, unless, last_position, whole_score}
use Rattle.cat_search.specs.Queries.{holds, is_boolean, phrase_holds, HoldsByScore}

-- ---- numbers above 0

none_above : (a : ℕ) → a ≤ 0 → nat_lt 0 a ≡ false
none_above a low = le-ltb 0 a low

pub some_max : (a b : ℕ) → nat_lt 0 (max a b) ≡ (nat_lt 0 a || nat_lt 0 b)
some_max a b = go (cases_lt 0 a)
  where
    go : (0 < a) ⊎ (a ≤ 0) → nat_lt 0 (max a b) ≡ (nat_lt 0 a || nat_lt 0 b)
    go (inl more) = lt-ltb 0 (max a b) (omega (arith, more)) ∙ sym (ap (λ (t : Bool). t || nat_lt 0 b) (lt-ltb 0 a more))
    go (inr low) = let is : max a b ≡ b = omega (arith, low) in ap (nat_lt 0) is ∙ sym (ap (λ (t : Bool). t || nat_lt 0 b) (none_above a low))

pub some_min : (a b : ℕ) → nat_lt 0 (min a b) ≡ (nat_lt 0 a && nat_lt 0 b)
some_min a b = go (cases_lt 0 a)
  where
    go : (0 < a) ⊎ (a ≤ 0) → nat_lt 0 (min a b) ≡ (nat_lt 0 a && nat_lt 0 b)
    go (inl more) = same (cases_lt 0 b) ∙ sym (ap (λ (t : Bool). t && nat_lt 0 b) (lt-ltb 0 a more))
      where
        same : (0 < b) ⊎ (b ≤ 0) → nat_lt 0 (min a b) ≡ nat_lt 0 b
        same (inl above) = lt-ltb 0 (min a b) (omega (arith, more, above)) ∙ sym (lt-ltb 0 b above)
        same (inr none) = le-ltb 0 (min a b) (omega (arith, none)) ∙ sym (none_above b none)
    go (inr low) = le-ltb 0 (min a b) (omega (arith, low)) ∙ sym (ap (λ (t : Bool). t && nat_lt 0 b) (none_above a low))

pub some_unless : (a b : ℕ) → nat_lt 0 (unless a b) ≡ (nat_lt 0 a && not (nat_lt 0 b))
some_unless a b = go (eqb b 0) refl
  where
    and_true : (t : Bool) → t ≡ (t && true)
    and_true true = refl
    and_true false = refl

    and_false : (t : Bool) → false ≡ (t && false)
    and_false true = refl
    and_false false = refl

    some : eqb b 0 ≡ false → (0 < b) ⊎ (b ≤ 0) → nat_lt 0 b ≡ true
    some not (inl more) = lt-ltb 0 b more
    some not (inr low) = let none : b ≡ 0 = omega (arith, low) in let wrong : false ≡ true = sym not ∙ ap (λ (n : ℕ). eqb n 0) none in cc

    go : (t : Bool) → eqb b 0 ≡ t → nat_lt 0 (cond t a 0) ≡ (nat_lt 0 a && not (nat_lt 0 b))
    go true is = and_true (nat_lt 0 a) ∙ sym (ap (λ (n : ℕ). nat_lt 0 a && not (nat_lt 0 n)) (eqb-true b 0 is))
    go false is = and_false (nat_lt 0 a) ∙ sym (ap (λ (t : Bool). nat_lt 0 a && not t) (some is (cases_lt 0 b)))

-- ---- terms

some_hundred : (n : ℕ) → nat_lt 0 (min 100 n) ≡ nat_lt 0 n
some_hundred n = some_min 100 n

phrase_scores : (d : DocPostings) (phrase : List Slot) → nat_lt 0 (phrase_score (phrase_pairs (phrase_slots d 0 phrase) 1 last_position)) ≡ phrase_holds d phrase
phrase_scores d phrase =
    let slots : Slots = phrase_slots d 0 phrase in
    some_hundred (length (phrase_pairs slots 1 last_position))
    ∙ ap (nat_lt 0) (length-map {B = Pair} (phrase_starts slots 1 last_position) (λ p. record { first = p; last = p + more_slots slots }))

term_scores : (d : DocPostings) (phrases : List (List Slot)) → nat_lt 0 (term_score (term_slots d 0 phrases) 1 last_position) ≡ list_any (phrase_holds d) phrases
term_scores d [] = refl
term_scores d (phrase ∷ phrases) =
    some_max (phrase_score (phrase_pairs (phrase_slots d 0 phrase) 1 last_position)) (term_score (term_slots d 0 phrases) 1 last_position)
    ∙ ap (λ (t : Bool). t || nat_lt 0 (term_score (term_slots d 0 phrases) 1 last_position)) (phrase_scores d phrase)
    ∙ ap (λ (t : Bool). phrase_holds d phrase || t) (term_scores d phrases)

-- ---- the law

pub holds_by_score : HoldsByScore
holds_by_score (Term phrases) d boolean = sym (term_scores d phrases)
holds_by_score (Both And a b) d boolean =
    let p = and_parts (is_boolean a) (is_boolean b) boolean in
    ap (λ (t : Bool). t && holds b d) (holds_by_score a d p.0)
    ∙ ap (λ (t : Bool). nat_lt 0 (whole_score a d) && t) (holds_by_score b d p.1)
    ∙ sym (some_min (whole_score a d) (whole_score b d))
holds_by_score (Both Or a b) d boolean =
    let p = and_parts (is_boolean a) (is_boolean b) boolean in
    ap (λ (t : Bool). t || holds b d) (holds_by_score a d p.0)
    ∙ ap (λ (t : Bool). nat_lt 0 (whole_score a d) || t) (holds_by_score b d p.1)
    ∙ sym (some_max (whole_score a d) (whole_score b d))
holds_by_score (Both Not a b) d boolean =
    let p = and_parts (is_boolean a) (is_boolean b) boolean in
    ap (λ (t : Bool). t && not (holds b d)) (holds_by_score a d p.0)
    ∙ ap (λ (t : Bool). nat_lt 0 (whole_score a d) && not t) (holds_by_score b d p.1)
    ∙ sym (some_unless (whole_score a d) (whole_score b d))
holds_by_score (Both Minus a b) d boolean = cc
holds_by_score (Weight w a) d boolean = cc
holds_by_score (Above n a) d boolean = cc
holds_by_score (Near operands span ordered) d boolean = cc
holds_by_score (Within place a) d boolean = cc
holds_by_score (Define phrases sum) d boolean = cc
