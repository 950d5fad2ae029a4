-- A sound query scores nothing over a document that has no position of any slot.
use Rattle.std.proofs.Common.{ℕ, ◌≡◌, ◌+◌, ◌*◌, ◌/◌, ◌&&◌, min, max, nat_le, nat_lt, Bool, true, false, cond, List, [], ◌∷◌, ◌++◌, length, map, refl, ap, ◌∙◌, arith}
use Rattle.std.specs.List.{list_all}
use Rattle.std.proofs.lemmas.Bool.{and_parts}
use Rattle.ct_base.specs.Limits.{stream_limit}
use Rattle.ct_base.specs.declared.numbers.Pair.{Pair}
use Rattle.ix_spans.specs.Occurrences.{near_holds, phrase_starts, pairs_from, more_slots, phrase_pairs, phrase_score, term_score, term_pairs, distinct}
use Rattle.q_tree.specs.declared.flats.Slot.{Slot}
use Rattle.q_tree.specs.declared.flats.Slot.TheVariants.{Any, Takes}
use Rattle.q_tree.specs.declared.flats.Place.TheVariants.{Zone, Field, Sentence, Paragraph}
use Rattle.q_tree.specs.declared.queries.Op.{Op}
use Rattle.q_tree.specs.declared.queries.Op.TheVariants.{Or, And, Not, Minus}
use Rattle.q_tree.specs.ReducedQueries.{Reduced, Term, Both, Weight, Above, Near, Within, Define}
use Rattle.q_tree.specs.Soundness.{is_between, is_phrase, is_term, is_sum, is_sound}
use Rattle.q_tree.specs.Scores.{DocPostings, phrase_slots, term_slots, operand_slots, if_near, near_score, operated, weighted, if_above, defined, score}

-- a document of which nothing is known
abbrev pub no_postings : DocPostings
no_postings = record { positions = λ s slot. []; spans = λ name. [] }

module _ (s lo hi : ℕ) where
  no_starts : (phrase : List Slot) → is_phrase phrase ≡ true → phrase_starts (phrase_slots no_postings s phrase) lo hi ≡ []
  no_starts [] h = cc
  no_starts (Any ∷ phrase) h = cc
  no_starts (Takes keys patterns ∷ phrase) h = refl

  no_pairs : (phrase : List Slot) → is_phrase phrase ≡ true → phrase_pairs (phrase_slots no_postings s phrase) lo hi ≡ []
  no_pairs phrase h = ap (pairs_from (more_slots (phrase_slots no_postings s phrase))) (no_starts phrase h)

  silent_term : (phrases : List (List Slot)) → list_all is_phrase phrases ≡ true → term_score (term_slots no_postings s phrases) lo hi ≡ 0
  silent_term [] h = refl
  silent_term (x ∷ xs) h =
      let p = and_parts (is_phrase x) (list_all is_phrase xs) h in
      ap (λ ps. max (phrase_score ps) (term_score (term_slots no_postings s xs) lo hi)) (no_pairs x p.0)
      ∙ ap (max 0) (silent_term xs p.1)

  silent_pairs : (phrases : List (List Slot)) → list_all is_phrase phrases ≡ true → term_pairs (term_slots no_postings s phrases) lo hi ≡ []
  silent_pairs [] h = refl
  silent_pairs (x ∷ xs) h =
      let p = and_parts (is_phrase x) (list_all is_phrase xs) h in
      ap (λ ps. ps ++ term_pairs (term_slots no_postings s xs) lo hi) (no_pairs x p.0) ∙ silent_pairs xs p.1

  silent_near : (operands : List (List (List Slot))) (span : ℕ) (ordered : Bool) → is_between 2 16 (length operands) ≡ true → list_all is_term operands ≡ true → near_score (operand_slots no_postings s operands) span ordered lo hi ≡ 0
  silent_near [] span ordered some h = cc
  silent_near (o ∷ os) span ordered some h =
      let p = and_parts (is_term o) (list_all is_term os) h in
      let q = and_parts (nat_le 1 (length o)) (list_all is_phrase o) p.0 in
      ap (λ ps. if_none ps) (silent_pairs o q.1)
    where
      if_none : List Pair → ℕ
      if_none ps = if_near (near_holds (ps ∷ map (λ t. term_pairs t lo hi) (operand_slots no_postings s os)) span ordered)

silent_joined : (op : Op) → operated op 0 0 ≡ 0
silent_joined And = refl
silent_joined Or = refl
silent_joined Not = refl
silent_joined Minus = refl

silent_weight : (w : ℕ) → weighted w 0 ≡ 0
silent_weight w = ap (λ n. min 100 ((n + 9) / 10)) (none w)
  where
    none : (w : ℕ) → 0 * w ≡ 0
    none w = omega arith

silent_above : (n : ℕ) → if_above n 0 ≡ 0
silent_above n = go (nat_lt n 0)
  where
    go : (b : Bool) → ◌≡◌ {A = ℕ} (cond b 0 0) 0
    go true = refl
    go false = refl

-- over no pair there is no score
pub silent_score : (f : Reduced) → is_sound f ≡ true → (s lo hi : ℕ) → score f no_postings s lo hi ≡ 0
silent_score (Term phrases) h s lo hi = silent_term s lo hi phrases (and_parts (nat_le 1 (length phrases)) (list_all is_phrase phrases) h).1
silent_score (Both op a b) h s lo hi =
    let p = and_parts (is_sound a) (is_sound b) h in
    ap (λ n. operated op n (score b no_postings s lo hi)) (silent_score a p.0 s lo hi) ∙ ap (operated op 0) (silent_score b p.1 s lo hi) ∙ silent_joined op
silent_score (Weight w a) h s lo hi = ap (weighted w) (silent_score a (and_parts (is_between 1 100 w) (is_sound a) h).1 s lo hi) ∙ silent_weight w
silent_score (Above n a) h s lo hi = ap (if_above n) (silent_score a (and_parts (nat_le n 100) (is_sound a) h).1 s lo hi) ∙ silent_above n
silent_score (Near operands span ordered) h s lo hi =
    let p = and_parts (is_between 2 16 (length operands) && list_all is_term operands) (nat_le span 100) h in
    let q = and_parts (is_between 2 16 (length operands)) (list_all is_term operands) p.0 in
    silent_near s lo hi operands span ordered q.0 q.1
silent_score (Within (Field f) a) h s lo hi = silent_score a (and_parts (is_between 1 stream_limit f) (is_sound a) h).1 f lo hi
silent_score (Within (Zone name) a) h s lo hi = refl
silent_score (Within Sentence a) h s lo hi = refl
silent_score (Within Paragraph a) h s lo hi = refl
silent_score (Define phrases sum) h s lo hi =
    let p = and_parts (is_term phrases) (is_sum sum) h in
    let q = and_parts (nat_le 1 (length phrases)) (list_all is_phrase phrases) p.0 in
    ap (λ ps. defined (length (distinct ps)) sum) (silent_pairs s lo hi phrases q.1)
