-- What the words of a document say of a query.
use Rattle.std.proofs.Common.{ℕ, zero, suc, ◌≡◌, ◌+◌, ◌≤◌, inl, inr, nat_le, nat_lt, Bool, true, false, cond, not, ◌&&◌, ◌||◌, List, [], ◌∷◌, length, take, refl, sym, ap, ◌∙◌, arith}
use Rattle.std.specs.List.{AllByRecursion, list_any, list_all, filter}
use Rattle.std.proofs.lemmas.Bool.{and_parts, and_from, or_cases, or_left, or_right, le-leb, lt-ltb, eqb-true}
use Rattle.ix_spans.specs.Occurrences.{has_number, occurs_at, is_start}
use Rattle.q_tree.specs.declared.flats.PatternBit.{PatternBit}
use Rattle.q_tree.specs.declared.flats.Slot.{Slot}
use Rattle.q_tree.specs.declared.flats.Slot.TheVariants.{Any, Takes}
use Rattle.q_tree.specs.declared.queries.Op.TheVariants.{Or, And, Not, Minus}
use Rattle.q_tree.specs.Slots.{takes}
use Rattle.q_tree.specs.ReducedQueries.{Reduced, Term, Both, Weight, Above, Near, Within, Define}
use Rattle.q_tree.specs.Scores.{DocPostings, phrase_slots, last_position}
use Rattle.q_tree.specs.Soundness.{is_sound, is_phrase}
use Rattle.cat_search.specs.Queries.{holds, is_boolean, phrase_holds}
use Rattle.cat_search.specs.Words.{all_taken, may_take, takes_one, is_exact, is_single, phrase_may, may_meet, has_slot_word, walked_slots}

-- whether a list has an element
abbrev pub is_some_list : List ℕ → Bool
is_some_list [] = false
is_some_list (p ∷ ps) = true

-- the range of a whole document
pub record IsWithin (p : ℕ) : Type 0 where
  pub from : 1 ≤ p
  pub to : p ≤ last_position

-- THESE ARE THE WORDS OF A DOCUMENT in its main stream: each slot has positions there exactly where it takes one of them.
pub record AreWordsOf (d : DocPostings) (words : List (List ℕ)) : Type 0 where
  pub some : (keys : List (List ℕ)) (patterns : List (List PatternBit)) → is_some_list (d.positions 0 (Takes keys patterns)) ≡ list_any (takes (Takes keys patterns)) words
  pub within : (keys : List (List ℕ)) (patterns : List (List PatternBit)) → AllByRecursion IsWithin (d.positions 0 (Takes keys patterns))

-- ---- lists

-- one that passes a test among some
record IsPassed (test : ℕ → Bool) (ps : List ℕ) : Type 0 where
  it : ℕ
  passes : test it ≡ true
  some : is_some_list ps ≡ true

passed : (test : ℕ → Bool) (ps : List ℕ) → nat_lt 0 (length (filter test ps)) ≡ true → IsPassed test ps
passed test [] h = cc
passed test (p ∷ ps) h = go (test p) refl h (passed test ps)
  where
    go : (b : Bool) → test p ≡ b → nat_lt 0 (length (cond b (p ∷ filter test ps) (filter test ps))) ≡ true → (nat_lt 0 (length (filter test ps)) ≡ true → IsPassed test ps) → IsPassed test (p ∷ ps)
    go true is h later = record { it = p; passes = is; some = refl }
    go false is h later = let rest = later h in record { it = rest.it; passes = rest.passes; some = refl }

some_has : (ps : List ℕ) (p : ℕ) → has_number ps p ≡ true → is_some_list ps ≡ true
some_has [] p h = h
some_has (q ∷ ps) p h = refl

module _ {X : Type 0} where
  -- where each that passes the first test passes the second, one that passes the first is one that passes the second
  pub any_weaker : (p q : X → Bool) (xs : List X) → AllByRecursion (λ x. p x ≡ true → q x ≡ true) xs → list_any p xs ≡ true → list_any q xs ≡ true
  any_weaker p q [] each h = h
  any_weaker p q (x ∷ xs) each h = elim (or_cases (p x) (list_any p xs) h) [
    | inl one ↦ or_left (q x) (list_any q xs) (each.0 one)
    | inr rest ↦ or_right (q x) (list_any q xs) (any_weaker p q xs each.1 rest)
  ]

  pub any_same : (p q : X → Bool) (xs : List X) → AllByRecursion (λ x. p x ≡ q x) xs → list_any p xs ≡ list_any q xs
  any_same p q [] each = refl
  any_same p q (x ∷ xs) each = ap (λ (t : Bool). t || list_any p xs) each.0 ∙ ap (λ (t : Bool). q x || t) (any_same p q xs each.1)

  pub any_none : (p : X → Bool) (xs : List X) → AllByRecursion (λ x. p x ≡ false) xs → list_any p xs ≡ false
  any_none p [] each = refl
  any_none p (x ∷ xs) each = ap (λ (t : Bool). t || list_any p xs) each.0 ∙ any_none p xs each.1

  -- where all pass a test, the first of them do
  pub firsts_pass : (test : X → Bool) (n : ℕ) (xs : List X) → list_all test xs ≡ true → list_all test (take n xs) ≡ true
  firsts_pass test zero [] all = refl
  firsts_pass test zero (x ∷ xs) all = refl
  firsts_pass test (suc n) [] all = refl
  firsts_pass test (suc n) (x ∷ xs) all = let b = and_parts (test x) (list_all test xs) all in and_from (test x) (list_all test (take n xs)) b.0 (firsts_pass test n xs b.1)

  -- a fact of each that passes a test
  pub each_passes : (test : X → Bool) (P : X → Type 0) → ((x : X) → test x ≡ true → P x) → (xs : List X) → list_all test xs ≡ true → AllByRecursion P xs
  each_passes test P gives [] all = tt
  each_passes test P gives (x ∷ xs) all = let b = and_parts (test x) (list_all test xs) all in (gives x b.0, each_passes test P gives xs b.1)

-- ---- one document

module _ (d : DocPostings) (words : List (List ℕ)) (are : AreWordsOf d words) where
  slots_may : (phrase : List Slot) (p : ℕ) → occurs_at (phrase_slots d 0 phrase) p ≡ true → all_taken words phrase ≡ true
  slots_may [] p h = refl
  slots_may (Any ∷ phrase) p h = slots_may phrase (p + 1) h
  slots_may (Takes keys patterns ∷ phrase) p h =
      let b = and_parts (has_number (d.positions 0 (Takes keys patterns)) p) (occurs_at (phrase_slots d 0 phrase) (p + 1)) h in
      and_from (list_any (takes (Takes keys patterns)) words) (all_taken words phrase) (sym (are.some keys patterns) ∙ some_has (d.positions 0 (Takes keys patterns)) p b.0) (slots_may phrase (p + 1) b.1)

  phrase_taken : (phrase : List Slot) → phrase_holds d phrase ≡ true → all_taken words phrase ≡ true
  phrase_taken [] h = cc
  phrase_taken (Any ∷ phrase) h = cc
  phrase_taken (Takes keys patterns ∷ phrase) h =
      let rest = phrase_slots d 0 phrase in
      let it = passed (is_start rest 1 last_position) (d.positions 0 (Takes keys patterns)) h in
      let a = and_parts (nat_le 1 it.it && nat_le (it.it + length rest) last_position) (occurs_at rest (it.it + 1)) it.passes in
      and_from (list_any (takes (Takes keys patterns)) words) (all_taken words phrase) (sym (are.some keys patterns) ∙ it.some) (slots_may phrase (it.it + 1) a.1)

  phrase_rules : (phrase : List Slot) → phrase_holds d phrase ≡ true → phrase_may words phrase ≡ true
  phrase_rules phrase h = firsts_pass (may_take words) walked_slots phrase (phrase_taken phrase h)

  all_start : (ps : List ℕ) → AllByRecursion IsWithin ps → nat_lt 0 (length (filter (is_start [] 1 last_position) ps)) ≡ is_some_list ps
  all_start [] each = refl
  all_start (p ∷ ps) each =
      let from = each.0.from in
      let to = each.0.to in
      let starts = filter (is_start [] 1 last_position) ps in
      ap (λ (b : Bool). nat_lt 0 (length (cond b (p ∷ filter (is_start [] 1 last_position) ps) (filter (is_start [] 1 last_position) ps))))
      (and_from (nat_le 1 p && nat_le (p + 0) last_position) true (and_from (nat_le 1 p) (nat_le (p + 0) last_position) (le-leb 1 p from) (le-leb (p + 0) last_position (omega (arith, to)))) refl)
      ∙ lt-ltb 0 (length (p ∷ starts)) (omega arith)

  phrase_tells : (phrase : List Slot) → is_phrase phrase ≡ true → is_single phrase ≡ true → phrase_holds d phrase ≡ phrase_may words phrase
  phrase_tells [] sound single = cc
  phrase_tells (Any ∷ phrase) sound single = cc
  phrase_tells (Takes keys patterns ∷ []) sound single =
      all_start (d.positions 0 (Takes keys patterns)) (are.within keys patterns) ∙ are.some keys patterns ∙ and_true (list_any (takes (Takes keys patterns)) words)
    where
      and_true : (t : Bool) → t ≡ (t && true)
      and_true true = refl
      and_true false = refl
  phrase_tells (Takes keys patterns ∷ slot ∷ phrase) sound single = let long = eqb-true (length (Takes keys patterns ∷ slot ∷ phrase)) 1 single in absurd (omega (arith, long))

  -- where each phrase has one slot, the words tell
  pub tells : (q : Reduced) → is_boolean q ≡ true → is_sound q ≡ true → is_exact q ≡ true → holds q d ≡ may_meet q words
  tells (Term phrases) boolean sound exact =
      any_same (phrase_holds d) (phrase_may words) phrases (both phrases (and_parts (nat_le 1 (length phrases)) (list_all is_phrase phrases) sound).1 exact)
    where
      both : (ps : List (List Slot)) → list_all is_phrase ps ≡ true → list_all is_single ps ≡ true → AllByRecursion (λ (phrase : List Slot). phrase_holds d phrase ≡ phrase_may words phrase) ps
      both [] all single = tt
      both (p ∷ ps) all single =
          let a = and_parts (is_phrase p) (list_all is_phrase ps) all in
          let s = and_parts (is_single p) (list_all is_single ps) single in
          (phrase_tells p a.0 s.0, both ps a.1 s.1)
  tells (Both And a b) boolean sound exact =
      let p = and_parts (is_boolean a) (is_boolean b) boolean in
      let s = and_parts (is_sound a) (is_sound b) sound in
      let e = and_parts (is_exact a) (is_exact b) exact in
      ap (λ (t : Bool). t && holds b d) (tells a p.0 s.0 e.0) ∙ ap (λ (t : Bool). may_meet a words && t) (tells b p.1 s.1 e.1)
  tells (Both Or a b) boolean sound exact =
      let p = and_parts (is_boolean a) (is_boolean b) boolean in
      let s = and_parts (is_sound a) (is_sound b) sound in
      let e = and_parts (is_exact a) (is_exact b) exact in
      ap (λ (t : Bool). t || holds b d) (tells a p.0 s.0 e.0) ∙ ap (λ (t : Bool). may_meet a words || t) (tells b p.1 s.1 e.1)
  tells (Both Not a b) boolean sound exact =
      let p = and_parts (is_boolean a) (is_boolean b) boolean in
      let s = and_parts (is_sound a) (is_sound b) sound in
      let e = and_parts (is_exact a) (is_exact b) exact in
      ap (λ (t : Bool). t && not (holds b d)) (tells a p.0 s.0 e.0)
      ∙ ap (λ (t : Bool). may_meet a words && not t) (tells b p.1 s.1 e.1)
      ∙ sym (ap (λ (t : Bool). may_meet a words && not (t && may_meet b words)) e.1)
  tells (Both Minus a b) boolean sound exact = cc
  tells (Weight w a) boolean sound exact = cc
  tells (Above n a) boolean sound exact = cc
  tells (Near operands span ordered) boolean sound exact = cc
  tells (Within place a) boolean sound exact = cc
  tells (Define phrases sum) boolean sound exact = cc

  -- a document of which the query holds has words that may meet it
  pub rules_out : (q : Reduced) → is_boolean q ≡ true → is_sound q ≡ true → holds q d ≡ true → may_meet q words ≡ true
  rules_out (Term phrases) boolean sound h = any_weaker (phrase_holds d) (phrase_may words) phrases (each phrases) h
    where
      each : (ps : List (List Slot)) → AllByRecursion (λ (phrase : List Slot). phrase_holds d phrase ≡ true → phrase_may words phrase ≡ true) ps
      each [] = tt
      each (p ∷ ps) = (phrase_rules p, each ps)
  rules_out (Both And a b) boolean sound h =
      let p = and_parts (is_boolean a) (is_boolean b) boolean in
      let s = and_parts (is_sound a) (is_sound b) sound in
      let t = and_parts (holds a d) (holds b d) h in
      and_from (may_meet a words) (may_meet b words) (rules_out a p.0 s.0 t.0) (rules_out b p.1 s.1 t.1)
  rules_out (Both Or a b) boolean sound h =
      let p = and_parts (is_boolean a) (is_boolean b) boolean in
      let s = and_parts (is_sound a) (is_sound b) sound in
      elim (or_cases (holds a d) (holds b d) h) [
        | inl one ↦ or_left (may_meet a words) (may_meet b words) (rules_out a p.0 s.0 one)
        | inr other ↦ or_right (may_meet a words) (may_meet b words) (rules_out b p.1 s.1 other)
      ]
  rules_out (Both Not a b) boolean sound h =
      let p = and_parts (is_boolean a) (is_boolean b) boolean in
      let s = and_parts (is_sound a) (is_sound b) sound in
      let t = and_parts (holds a d) (not (holds b d)) h in
      and_from (may_meet a words) (not (is_exact b && may_meet b words)) (rules_out a p.0 s.0 t.0) (taken (is_exact b) refl (tells b p.1 s.1) t.1)
    where
      taken : (e : Bool) → is_exact b ≡ e → (is_exact b ≡ true → holds b d ≡ may_meet b words) → not (holds b d) ≡ true → not (e && may_meet b words) ≡ true
      taken true is same h = ap not (sym (same is)) ∙ h
      taken false is same h = refl
  rules_out (Both Minus a b) boolean sound h = cc
  rules_out (Weight w a) boolean sound h = cc
  rules_out (Above n a) boolean sound h = cc
  rules_out (Near operands span ordered) boolean sound h = cc
  rules_out (Within place a) boolean sound h = cc
  rules_out (Define phrases sum) boolean sound h = cc

-- ---- words that may meet a query

phrase_has : (words : List (List ℕ)) (phrase : List Slot) → is_phrase phrase ≡ true → phrase_may words phrase ≡ true → list_any (takes_one words) phrase ≡ true
phrase_has words [] sound h = cc
phrase_has words (Any ∷ phrase) sound h = cc
phrase_has words (Takes keys patterns ∷ phrase) sound h =
    or_left (list_any (takes (Takes keys patterns)) words) (list_any (takes_one words) phrase) (and_parts (list_any (takes (Takes keys patterns)) words) (all_taken words (take 15 phrase)) h).0

-- some slot takes one of them
pub may_has_slot : (words : List (List ℕ)) (q : Reduced) → is_sound q ≡ true → may_meet q words ≡ true → has_slot_word q words ≡ true
may_has_slot words (Term phrases) sound h =
    any_weaker (phrase_may words) (list_any (takes_one words)) phrases
    (each_passes is_phrase (λ (phrase : List Slot). phrase_may words phrase ≡ true → list_any (takes_one words) phrase ≡ true) (phrase_has words) phrases (and_parts (nat_le 1 (length phrases)) (list_all is_phrase phrases) sound).1) h
may_has_slot words (Both And a b) sound h =
    or_left (has_slot_word a words) (has_slot_word b words) (may_has_slot words a (and_parts (is_sound a) (is_sound b) sound).0 (and_parts (may_meet a words) (may_meet b words) h).0)
may_has_slot words (Both Or a b) sound h =
    let s = and_parts (is_sound a) (is_sound b) sound in
    elim (or_cases (may_meet a words) (may_meet b words) h) [
      | inl one ↦ or_left (has_slot_word a words) (has_slot_word b words) (may_has_slot words a s.0 one)
      | inr other ↦ or_right (has_slot_word a words) (has_slot_word b words) (may_has_slot words b s.1 other)
    ]
may_has_slot words (Both Not a b) sound h =
    or_left (has_slot_word a words) (has_slot_word b words)
    (may_has_slot words a (and_parts (is_sound a) (is_sound b) sound).0 (and_parts (may_meet a words) (not (is_exact b && may_meet b words)) h).0)
may_has_slot words (Both Minus a b) sound h = cc
may_has_slot words (Weight w a) sound h = cc
may_has_slot words (Above n a) sound h = cc
may_has_slot words (Near operands span ordered) sound h = cc
may_has_slot words (Within place a) sound h = cc
may_has_slot words (Define phrases sum) sound h = cc

-- without words no slot does
no_slot_word : (slots : List Slot) → list_any (takes_one []) slots ≡ false
no_slot_word [] = refl
no_slot_word (Any ∷ slots) = no_slot_word slots
no_slot_word (Takes keys patterns ∷ slots) = no_slot_word slots

no_phrase_word : (phrases : List (List Slot)) → list_any (list_any (takes_one [])) phrases ≡ false
no_phrase_word [] = refl
no_phrase_word (phrase ∷ phrases) = ap (λ (t : Bool). t || list_any (list_any (takes_one [])) phrases) (no_slot_word phrase) ∙ no_phrase_word phrases

no_operand_word : (operands : List (List (List Slot))) → list_any (list_any (list_any (takes_one []))) operands ≡ false
no_operand_word [] = refl
no_operand_word (o ∷ os) = ap (λ (t : Bool). t || list_any (list_any (list_any (takes_one []))) os) (no_phrase_word o) ∙ no_operand_word os

pub no_words : (q : Reduced) → has_slot_word q [] ≡ false
no_words (Term phrases) = no_phrase_word phrases
no_words (Both op a b) = ap (λ (t : Bool). t || has_slot_word b []) (no_words a) ∙ no_words b
no_words (Weight w a) = no_words a
no_words (Above n a) = no_words a
no_words (Near operands span ordered) = no_operand_word operands
no_words (Within place a) = no_words a
no_words (Define phrases sum) = no_phrase_word phrases
