-- A query with a score on a document has one of its anchors among the document's keys.
use Rattle.std.specs.Prelude.{ℕ, ◌≡◌, ◌+◌, ◌<◌, ◌≤◌, ◌⊎◌, max, nat_lt, nat_le, eqb, bytes_eq, Bool, true, false, cond, ◌&&◌, ◌||◌, List, [], ◌∷◌, ◌++◌, length, map, filter, Option, Some, None, codes, refl}
use Rattle.std.specs.Bool.{if◌then◌else◌}
use Rattle.std.specs.List.{list_any, list_all, cons_option}
use Rattle.std.proofs.Common.{arith, sym, ◌∙◌, inl, inr, length-append, zero, suc}
use Rattle.std.proofs.lemmas.List.{length-map}
use Rattle.std.proofs.lemmas.Bool.{and_from, and_parts, cases_lt, or_left, or_right}
use Rattle.std.proofs.lemmas.List.Folds.{list_all-append, list_any-append}
use Rattle.std.proofs.lemmas.Slice.Eq.{bytes_eq-Decides}
use Rattle.ct_base.specs.declared.numbers.Pair.{Pair}
use Rattle.ix_spans.specs.Occurrences.{Slots, is_start, phrase_starts, phrase_pairs, phrase_score, term_score, term_pairs, distinct, near_holds, is_pair_inside}
use Rattle.q_tree.specs.declared.flats.PatternBit.{PatternBit}
use Rattle.q_tree.specs.declared.flats.Slot.{Slot}
use Rattle.q_tree.specs.declared.flats.Slot.TheVariants.{Any, Takes}
use Rattle.q_tree.specs.declared.flats.Place.TheVariants.{Zone, Field, Sentence, Paragraph}
use Rattle.q_tree.specs.declared.flats.SumStep.{SumStep}
use Rattle.q_tree.specs.declared.queries.Op.TheVariants.{And, Or, Not, Minus}
use Rattle.q_tree.specs.ReducedQueries.{Reduced, Term, Both, Weight, Above, Near, Within, Define}
use Rattle.q_tree.specs.Slots.{has_key}
use Rattle.q_tree.specs.Soundness.{ends_well, is_between, is_key, is_nearness, is_phrase, is_place, is_slot, is_sound, is_sum, is_term, slot_keys_rise, takes_some}
use Rattle.q_tree.specs.Scores.{DocPostings, score, phrase_slots, term_slots, operand_slots, near_score, defined, greatest_within, unless, weighted, if_above, if_near, last_position}
use Rattle.q_tree.specs.Documents.{DocWord, DocSection, postings_of_words, word_positions, fits_word, is_in_stream, takes_word}
use Rattle.q_stored.specs.Anchoring.{AnchorKeys, anchors, are_anchor_keys, either, has_some, is_found, document_keys, operand_anchors, phrase_anchors, slot_anchors, term_anchors, unless_everywhere}
use Rattle.q_stored.specs.Promises.{AnchorsFind}

any_weaker : {X : Type 0} (p q : X → Bool) (xs : List X) → ((x : X) → p x ≡ true → q x ≡ true) → list_any p xs ≡ true → list_any q xs ≡ true
any_weaker p q [] h k = k
any_weaker p q (x ∷ xs) h k = go (p x) refl k (λ j. any_weaker p q xs h j)
  where
    go : (b : Bool) → p x ≡ b → (b || list_any p xs) ≡ true → (list_any p xs ≡ true → list_any q xs ≡ true) → (q x || list_any q xs) ≡ true
    go true e k rest = or_left (q x) (list_any q xs) (h x e)
    go false e k rest = or_right (q x) (list_any q xs) (rest k)

-- ---- a word that a slot takes

same_key : (a b : List ℕ) → bytes_eq a b ≡ true → bytes_eq b a ≡ true
same_key a b h = (bytes_eq-Decides b a).1 (sym ((bytes_eq-Decides a b).0 h))

-- a key more
among_more : (o : Option (List ℕ)) (ks : List (List ℕ)) (k : List ℕ) → has_key ks k ≡ true → has_key (cons_option o ks) k ≡ true
among_more None ks k h = h
among_more (Some j) ks k h = or_right (bytes_eq j k) (has_key ks k) h

takes_its : (key : Option (List ℕ)) (ks keys : List (List ℕ)) → takes_word (Takes keys []) key ≡ true → list_any (has_key (cons_option key ks)) keys ≡ true
takes_its None ks keys h = cc
takes_its (Some k) ks keys h =
    any_weaker (λ j. bytes_eq j k) (has_key (k ∷ ks)) keys (λ j e. or_left (bytes_eq k j) (has_key ks j) (same_key j k e)) (no_pattern (has_key keys k) h)
  where
    no_pattern : (b : Bool) → (b || false) ≡ true → b ≡ true
    no_pattern true e = refl
    no_pattern false e = e

takes_here : (ws : List DocWord) (stream : ℕ) (keys : List (List ℕ)) → 0 < length (word_positions stream (Takes keys []) ws) → list_any (has_key (document_keys ws)) keys ≡ true
takes_here [] stream keys h = absurd (omega (arith, h))
takes_here (w ∷ ws) stream keys h = go (fits_word stream (Takes keys []) w) refl h (λ k. takes_here ws stream keys k)
  where
    more : list_any (has_key (document_keys ws)) keys ≡ true → list_any (has_key (document_keys (w ∷ ws))) keys ≡ true
    more k = any_weaker (has_key (document_keys ws)) (has_key (document_keys (w ∷ ws))) keys (λ j e. among_more w.key (document_keys ws) j e) k

    go : (b : Bool) → fits_word stream (Takes keys []) w ≡ b → 0 < length (map (λ (v : DocWord). v.position) (cond b (w ∷ filter (fits_word stream (Takes keys [])) ws) (filter (fits_word stream (Takes keys [])) ws))) → (0 < length (word_positions stream (Takes keys []) ws) → list_any (has_key (document_keys ws)) keys ≡ true) → list_any (has_key (document_keys (w ∷ ws))) keys ≡ true
    go true e k rest = takes_its w.key (document_keys ws) keys (and_parts (is_in_stream stream w) (takes_word (Takes keys []) w.key) e).1
    go false e k rest = more (rest k)

-- ---- lists

filtered_some : (t : ℕ → Bool) (ps : List ℕ) → 0 < length (filter t ps) → 0 < length ps
filtered_some t [] h = h
filtered_some t (p ∷ ps) h = omega arith

mapped_some : {X Y : Type 0} (f : X → Y) (xs : List X) → 0 < length (map f xs) → 0 < length xs
mapped_some f xs h = let same = length-map xs f in omega (arith, h, same)

one_of_both : {X : Type 0} (xs ys : List X) → 0 < length (xs ++ ys) → (0 < length xs) ⊎ (0 < length ys)
one_of_both [] ys h = inr h
one_of_both (x ∷ xs) ys h = inl (omega arith)

distinct_some : (ps : List Pair) → 0 < length (distinct ps) → 0 < length ps
distinct_some [] h = h
distinct_some (p ∷ ps) h = omega arith

-- ---- of one of two

found_left : (a b : AnchorKeys) (keys : List (List ℕ)) → is_found a keys ≡ true → is_found (either a b) keys ≡ true
found_left None b keys h = refl
found_left (Some x) None keys h = refl
found_left (Some x) (Some y) keys h = list_any-append (has_key keys) x y ∙ or_left (list_any (has_key keys) x) (list_any (has_key keys) y) h

found_right : (a b : AnchorKeys) (keys : List (List ℕ)) → is_found b keys ≡ true → is_found (either a b) keys ≡ true
found_right None b keys h = refl
found_right (Some x) None keys h = refl
found_right (Some x) (Some y) keys h = list_any-append (has_key keys) x y ∙ or_right (list_any (has_key keys) x) (list_any (has_key keys) y) h

found_by_both : (a b : AnchorKeys) (keys : List (List ℕ)) → is_found a keys ≡ true → is_found b keys ≡ true → is_found (unless_everywhere a b) keys ≡ true
found_by_both None b keys h k = k
found_by_both (Some x) b keys h k = h

-- ---- what numbers above 0 are made of

greater_of : (a b : ℕ) → 0 < max a b → (0 < a) ⊎ (0 < b)
greater_of a b h = go (cases_lt 0 a)
  where
    go : (0 < a) ⊎ (a ≤ 0) → (0 < a) ⊎ (0 < b)
    go (inl l) = inl l
    go (inr le) = inr (omega (arith, h, le))

weighed : (tenths a : ℕ) → 0 < weighted tenths a → 0 < a
weighed tenths zero h = absurd (omega (arith, h))
weighed tenths (suc a) h = omega arith

above : (n a : ℕ) → 0 < if_above n a → 0 < a
above n a h = go (nat_lt n a) h
  where
    go : (b : Bool) → 0 < (if b then a else 0) → 0 < a
    go true k = k
    go false k = absurd (omega (arith, k))

first_of_unless : (a b : ℕ) → 0 < unless a b → 0 < a
first_of_unless a b h = go (eqb b 0) h
  where
    go : (c : Bool) → 0 < (if c then a else 0) → 0 < a
    go true k = k
    go false k = absurd (omega (arith, k))

defined_some : (k : ℕ) (sum : List SumStep) → 0 < defined k sum → 0 < k
defined_some zero sum h = h
defined_some (suc k) sum h = omega arith

greatest_some : (f : ℕ → ℕ → ℕ) (lo hi : ℕ) (found : Bool) → ((l h : ℕ) → 0 < f l h → found ≡ true) → (ps : List Pair) → 0 < greatest_within f lo hi ps → found ≡ true
greatest_some f lo hi found each [] h = absurd (omega (arith, h))
greatest_some f lo hi found each (p ∷ ps) h = go (is_pair_inside lo hi p) h (λ k. greatest_some f lo hi found each ps k)
  where
    either_way : (0 < f p.first p.last) ⊎ (0 < greatest_within f lo hi ps) → (0 < greatest_within f lo hi ps → found ≡ true) → found ≡ true
    either_way (inl k) rest = each p.first p.last k
    either_way (inr k) rest = rest k

    go : (b : Bool) → 0 < max (if b then f p.first p.last else 0) (greatest_within f lo hi ps) → (0 < greatest_within f lo hi ps → found ≡ true) → found ≡ true
    go true k rest = either_way (greater_of (f p.first p.last) (greatest_within f lo hi ps) k) rest
    go false k rest = rest (omega (arith, k))

-- where a choice of each operand is near, the first operand occurs
chosen_first : (o : List Pair) (os : List (List Pair)) (span : ℕ) (ordered : Bool) → 0 < if_near (near_holds (o ∷ os) span ordered) → 0 < length o
chosen_first [] os span ordered h = absurd (omega (arith, h))
chosen_first (p ∷ ps) os span ordered h = omega arith

-- ---- queries

module _ (ws : List DocWord) (ss : List DocSection) where
  abbrev d : DocPostings
  d = postings_of_words ws ss

  abbrev keys : List (List ℕ)
  keys = document_keys ws

  slot_found : (stream : ℕ) (ks : List (List ℕ)) (patterns : List (List PatternBit)) → 0 < length (word_positions stream (Takes ks patterns) ws) → is_found (slot_anchors ks (has_some patterns)) keys ≡ true
  slot_found stream ks [] h = takes_here ws stream ks h
  slot_found stream ks (p ∷ ps) h = refl

  phrase_found : (phrase : List Slot) → is_phrase phrase ≡ true → (stream lo hi : ℕ) → 0 < length (phrase_pairs (phrase_slots d stream phrase) lo hi) → is_found (phrase_anchors phrase) keys ≡ true
  phrase_found [] sound stream lo hi h = cc
  phrase_found (Any ∷ slots) sound stream lo hi h = cc
  phrase_found (Takes ks patterns ∷ slots) sound stream lo hi h =
      slot_found stream ks patterns (filtered_some (is_start (phrase_slots d stream slots) lo hi) (word_positions stream (Takes ks patterns) ws)
      (mapped_some (λ p. record { first = p; last = p + length (phrase_slots d stream slots) }) (phrase_starts (phrase_slots d stream (Takes ks patterns ∷ slots)) lo hi) h))

  term_found : (phrases : List (List Slot)) → list_all is_phrase phrases ≡ true → (stream lo hi : ℕ) → 0 < length (term_pairs (term_slots d stream phrases) lo hi) → is_found (term_anchors phrases) keys ≡ true
  term_found [] sound stream lo hi h = absurd (omega (arith, h))
  term_found (phrase ∷ phrases) sound stream lo hi h =
      go (one_of_both (phrase_pairs (phrase_slots d stream phrase) lo hi) (term_pairs (term_slots d stream phrases) lo hi) h) (λ k. term_found phrases (and_parts (is_phrase phrase) (list_all is_phrase phrases) sound).1 stream lo hi k)
    where
      parts : (is_phrase phrase ≡ true) × (list_all is_phrase phrases ≡ true)
      parts = and_parts (is_phrase phrase) (list_all is_phrase phrases) sound

      go : (0 < length (phrase_pairs (phrase_slots d stream phrase) lo hi)) ⊎ (0 < length (term_pairs (term_slots d stream phrases) lo hi)) → (0 < length (term_pairs (term_slots d stream phrases) lo hi) → is_found (term_anchors phrases) keys ≡ true) → is_found (either (phrase_anchors phrase) (term_anchors phrases)) keys ≡ true
      go (inl k) rest = found_left (phrase_anchors phrase) (term_anchors phrases) keys (phrase_found phrase parts.0 stream lo hi k)
      go (inr k) rest = found_right (phrase_anchors phrase) (term_anchors phrases) keys (rest k)

  -- a term with a score has an occurrence
  scored_pairs : (slots : List Slots) (lo hi : ℕ) → 0 < term_score slots lo hi → 0 < length (term_pairs slots lo hi)
  scored_pairs [] lo hi h = h
  scored_pairs (s ∷ slots) lo hi h = go (greater_of (phrase_score (phrase_pairs s lo hi)) (term_score slots lo hi) h) (λ k. scored_pairs slots lo hi k)
    where
      go : (0 < phrase_score (phrase_pairs s lo hi)) ⊎ (0 < term_score slots lo hi) → (0 < term_score slots lo hi → 0 < length (term_pairs slots lo hi)) → 0 < length (phrase_pairs s lo hi ++ term_pairs slots lo hi)
      go (inl k) rest = let whole = length-append (phrase_pairs s lo hi) (term_pairs slots lo hi) in omega (arith, k, whole)
      go (inr k) rest = let whole = length-append (phrase_pairs s lo hi) (term_pairs slots lo hi) in let more = rest k in omega (arith, more, whole)

  phrases_sound : (phrases : List (List Slot)) → is_term phrases ≡ true → list_all is_phrase phrases ≡ true
  phrases_sound phrases h = (and_parts (nat_le 1 (length phrases)) (list_all is_phrase phrases) h).1

  near_found : (operands : List (List (List Slot))) (span : ℕ) (ordered : Bool) → is_nearness operands span ≡ true → (stream lo hi : ℕ) → 0 < near_score (operand_slots d stream operands) span ordered lo hi → is_found (operand_anchors operands) keys ≡ true
  near_found [] span ordered sound stream lo hi h = cc
  near_found (phrases ∷ operands) span ordered sound stream lo hi h =
      let first = (and_parts (is_between 2 16 (length (phrases ∷ operands)) && list_all is_term (phrases ∷ operands)) (nat_le span 100) sound).0 in
      let all = (and_parts (is_between 2 16 (length (phrases ∷ operands))) (list_all is_term (phrases ∷ operands)) first).1 in
      let one = (and_parts (is_term phrases) (list_all is_term operands) all).0 in
      term_found phrases (phrases_sound phrases one) stream lo hi
      (chosen_first (term_pairs (term_slots d stream phrases) lo hi) (map (λ o. term_pairs o lo hi) (operand_slots d stream operands)) span ordered h)

  pub score_found : (q : Reduced) → is_sound q ≡ true → (s lo hi : ℕ) → 0 < score q d s lo hi → is_found (anchors q) keys ≡ true
  score_found (Term phrases) sound s lo hi h = term_found phrases (phrases_sound phrases sound) s lo hi (scored_pairs (term_slots d s phrases) lo hi h)
  score_found (Both And a b) sound s lo hi h =
      let p = and_parts (is_sound a) (is_sound b) sound in
      found_by_both (anchors a) (anchors b) keys (score_found a p.0 s lo hi (omega (arith, h))) (score_found b p.1 s lo hi (omega (arith, h)))
  score_found (Both Or a b) sound s lo hi h =
      let p = and_parts (is_sound a) (is_sound b) sound in
      go (greater_of (score a d s lo hi) (score b d s lo hi) h) (λ k. score_found a p.0 s lo hi k) (λ k. score_found b p.1 s lo hi k)
    where
      go : (0 < score a d s lo hi) ⊎ (0 < score b d s lo hi) → (0 < score a d s lo hi → is_found (anchors a) keys ≡ true) → (0 < score b d s lo hi → is_found (anchors b) keys ≡ true) → is_found (either (anchors a) (anchors b)) keys ≡ true
      go (inl k) first second = found_left (anchors a) (anchors b) keys (first k)
      go (inr k) first second = found_right (anchors a) (anchors b) keys (second k)
  score_found (Both Not a b) sound s lo hi h = score_found a (and_parts (is_sound a) (is_sound b) sound).0 s lo hi (first_of_unless (score a d s lo hi) (score b d s lo hi) h)
  score_found (Both Minus a b) sound s lo hi h = score_found a (and_parts (is_sound a) (is_sound b) sound).0 s lo hi (omega (arith, h))
  score_found (Weight tenths a) sound s lo hi h = score_found a (and_parts (is_between 1 100 tenths) (is_sound a) sound).1 s lo hi (weighed tenths (score a d s lo hi) h)
  score_found (Above n a) sound s lo hi h = score_found a (and_parts (nat_le n 100) (is_sound a) sound).1 s lo hi (above n (score a d s lo hi) h)
  score_found (Near operands span ordered) sound s lo hi h = near_found operands span ordered sound s lo hi h
  score_found (Within (Field f) a) sound s lo hi h = score_found a (and_parts (is_place (Field f)) (is_sound a) sound).1 f lo hi h
  score_found (Within (Zone name) a) sound s lo hi h = greatest_some (λ l r. score a d s l r) lo hi (is_found (anchors a) keys) (λ l r k. score_found a sound s l r k) (d.spans name) h
  score_found (Within Sentence a) sound s lo hi h = greatest_some (λ l r. score a d s l r) lo hi (is_found (anchors a) keys) (λ l r k. score_found a sound s l r k) (d.spans (codes "sentence")) h
  score_found (Within Paragraph a) sound s lo hi h = greatest_some (λ l r. score a d s l r) lo hi (is_found (anchors a) keys) (λ l r k. score_found a sound s l r k) (d.spans (codes "paragraph")) h
  score_found (Define phrases sum) sound s lo hi h =
      term_found phrases (phrases_sound phrases (and_parts (is_term phrases) (is_sum sum) sound).0) s lo hi
      (distinct_some (term_pairs (term_slots d s phrases) lo hi) (defined_some (length (distinct (term_pairs (term_slots d s phrases) lo hi))) sum h))

pub anchors_find : AnchorsFind
anchors_find q ws ss sound h = score_found ws ss q sound 0 1 last_position h

-- ---- anchors are keys

either_keys : (a b : AnchorKeys) → are_anchor_keys a ≡ true → are_anchor_keys b ≡ true → are_anchor_keys (either a b) ≡ true
either_keys None b h k = refl
either_keys (Some x) None h k = refl
either_keys (Some x) (Some y) h k = list_all-append is_key x y ∙ and_from (list_all is_key x) (list_all is_key y) h k

slot_keys : (ks : List (List ℕ)) (patterns : List (List PatternBit)) → is_slot (Takes ks patterns) ≡ true → are_anchor_keys (slot_anchors ks (has_some patterns)) ≡ true
slot_keys ks [] h = (and_parts (nat_le 1 (length ks + 0) && slot_keys_rise ks) (list_all is_key ks) h).1
slot_keys ks (p ∷ ps) h = refl

phrase_keys : (phrase : List Slot) → list_all is_slot phrase ≡ true → are_anchor_keys (phrase_anchors phrase) ≡ true
phrase_keys [] h = refl
phrase_keys (Any ∷ slots) h = phrase_keys slots h
phrase_keys (Takes ks patterns ∷ slots) h = slot_keys ks patterns (and_parts (is_slot (Takes ks patterns)) (list_all is_slot slots) h).0

slots_sound : (phrase : List Slot) → is_phrase phrase ≡ true → list_all is_slot phrase ≡ true
slots_sound [] h = refl
slots_sound (s ∷ ss) h = (and_parts (takes_some s && ends_well (s ∷ ss)) (list_all is_slot (s ∷ ss)) h).1

term_keys : (phrases : List (List Slot)) → list_all is_phrase phrases ≡ true → are_anchor_keys (term_anchors phrases) ≡ true
term_keys [] h = refl
term_keys (phrase ∷ phrases) h =
    let p = and_parts (is_phrase phrase) (list_all is_phrase phrases) h in
    either_keys (phrase_anchors phrase) (term_anchors phrases) (phrase_keys phrase (slots_sound phrase p.0)) (term_keys phrases p.1)

all_sound : (phrases : List (List Slot)) → is_term phrases ≡ true → list_all is_phrase phrases ≡ true
all_sound phrases h = (and_parts (nat_le 1 (length phrases)) (list_all is_phrase phrases) h).1

operand_keys : (operands : List (List (List Slot))) → list_all is_term operands ≡ true → are_anchor_keys (operand_anchors operands) ≡ true
operand_keys [] h = refl
operand_keys (phrases ∷ operands) h = term_keys phrases (all_sound phrases (and_parts (is_term phrases) (list_all is_term operands) h).0)

both_keys : (a b : AnchorKeys) → are_anchor_keys a ≡ true → are_anchor_keys b ≡ true → are_anchor_keys (unless_everywhere a b) ≡ true
both_keys None b h k = k
both_keys (Some x) b h k = h

pub anchors_are_keys : (q : Reduced) → is_sound q ≡ true → are_anchor_keys (anchors q) ≡ true
anchors_are_keys (Term phrases) h = term_keys phrases (all_sound phrases h)
anchors_are_keys (Both And a b) h = let p = and_parts (is_sound a) (is_sound b) h in both_keys (anchors a) (anchors b) (anchors_are_keys a p.0) (anchors_are_keys b p.1)
anchors_are_keys (Both Or a b) h = let p = and_parts (is_sound a) (is_sound b) h in either_keys (anchors a) (anchors b) (anchors_are_keys a p.0) (anchors_are_keys b p.1)
anchors_are_keys (Both Not a b) h = anchors_are_keys a (and_parts (is_sound a) (is_sound b) h).0
anchors_are_keys (Both Minus a b) h = anchors_are_keys a (and_parts (is_sound a) (is_sound b) h).0
anchors_are_keys (Weight tenths a) h = anchors_are_keys a (and_parts (is_between 1 100 tenths) (is_sound a) h).1
anchors_are_keys (Above n a) h = anchors_are_keys a (and_parts (nat_le n 100) (is_sound a) h).1
anchors_are_keys (Near operands span ordered) h =
    let first = (and_parts (is_between 2 16 (length operands) && list_all is_term operands) (nat_le span 100) h).0 in
    operand_keys operands (and_parts (is_between 2 16 (length operands)) (list_all is_term operands) first).1
anchors_are_keys (Within place a) h = anchors_are_keys a (and_parts (is_place place) (is_sound a) h).1
anchors_are_keys (Define phrases sum) h = term_keys phrases (all_sound phrases (and_parts (is_term phrases) (is_sum sum) h).0)
