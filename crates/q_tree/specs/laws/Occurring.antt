-- A phrase occurs at just those positions at which each of its slots takes the word in its place.
use Rattle.std.proofs.Common.{ℕ, ◌≡◌, ◌+◌, ◌&&◌, ◌||◌, nat_le, eqb, Bool, true, false, cond, List, [], ◌∷◌, length, map, suc, refl, ap, ◌∙◌, arith}
use Rattle.std.specs.List.{filter}
use Rattle.std.proofs.lemmas.Bool.{leb-true, le-leb}
use Rattle.ct_base.specs.laws.Bools.{same_tests}
use Rattle.ix_spans.specs.Occurrences.{has_number, occurs_at}
use Rattle.ix_spans.specs.Rising.{Above, Rising}
use Rattle.ix_spans.specs.laws.Rising.{above_lower, above_rises}
use Rattle.ix_spans.specs.laws.Starts.{starts_are, starts_rise}
use Rattle.q_tree.specs.declared.flats.Slot.{Slot}
use Rattle.q_tree.specs.declared.flats.Slot.TheVariants.{Any, Takes}
use Rattle.q_tree.specs.Soundness.{is_phrase}
use Rattle.q_tree.specs.Scores.{phrase_slots, occurrences}
use Rattle.q_tree.specs.Documents.{DocWord, DocSection, fits_word, word_positions, postings_of_words, stands_at, phrase_stands_at, occurs, WordsRise}

and_true : (x : Bool) → x ≡ (x && true)
and_true true = refl
and_true false = refl

and_false : (x y : Bool) → y ≡ ((x && false) || y)
and_false true y = refl
and_false false y = refl

-- the positions of a slot are those of the words that it takes
pub word_stands : (ws : List DocWord) (stream : ℕ) (slot : Slot) (n : ℕ) → has_number (word_positions stream slot ws) n ≡ stands_at ws stream slot n
word_stands [] stream slot n = refl
word_stands (w ∷ ws) stream slot n = go (fits_word stream slot w) (word_stands ws stream slot n)
  where
    go : (b : Bool) → has_number (word_positions stream slot ws) n ≡ stands_at ws stream slot n → has_number (map (λ (v : DocWord). v.position) (cond b (w ∷ filter (fits_word stream slot) ws) (filter (fits_word stream slot) ws))) n ≡ ((eqb w.position n && b) || stands_at ws stream slot n)
    go true rest = ap (λ t. eqb w.position n || t) rest ∙ ap (λ t. t || stands_at ws stream slot n) (and_true (eqb w.position n))
    go false rest = rest ∙ and_false (eqb w.position n) (stands_at ws stream slot n)

-- the slots of a phrase take the positions from one on where the phrase stands there
slots_stand : (ws : List DocWord) (ss : List DocSection) (stream : ℕ) (phrase : List Slot) (p : ℕ) → occurs_at (phrase_slots (postings_of_words ws ss) stream phrase) p ≡ phrase_stands_at ws stream phrase p
slots_stand ws ss stream [] p = refl
slots_stand ws ss stream (Any ∷ phrase) p = slots_stand ws ss stream phrase (p + 1)
slots_stand ws ss stream (Takes keys patterns ∷ phrase) p =
    ap (λ t. t && occurs_at (phrase_slots (postings_of_words ws ss) stream phrase) (p + 1)) (word_stands ws stream (Takes keys patterns) p)
    ∙ ap (λ t. stands_at ws stream (Takes keys patterns) p && t) (slots_stand ws ss stream phrase (p + 1))

slot_count : (ws : List DocWord) (ss : List DocSection) (stream : ℕ) (phrase : List Slot) → length (phrase_slots (postings_of_words ws ss) stream phrase) ≡ length phrase
slot_count ws ss stream [] = refl
slot_count ws ss stream (s ∷ phrase) = ap suc (slot_count ws ss stream phrase)

-- the last place of a phrase, said of the places behind the first and of all
last_place : (p more hi : ℕ) → nat_le (p + more) hi ≡ nat_le (p + suc more) (hi + 1)
last_place p more hi =
    same_tests (nat_le (p + more) hi) (nat_le (p + suc more) (hi + 1))
    (λ h. let le = leb-true (p + more) hi h in le-leb (p + suc more) (hi + 1) (omega (arith, le)))
    (λ h. let le = leb-true (p + suc more) (hi + 1) h in le-leb (p + more) hi (omega (arith, le)))

moved : (h a b c : Bool) → (h && (a && b && c)) ≡ (a && b && (h && c))
moved true a b c = refl
moved false true true c = refl
moved false true false c = refl
moved false false b c = refl

pub occurs_where : (ws : List DocWord) (ss : List DocSection) (stream : ℕ) (phrase : List Slot) (lo hi p : ℕ) → is_phrase phrase ≡ true → has_number (occurrences phrase (postings_of_words ws ss) stream lo hi) p ≡ occurs ws stream phrase lo hi p
occurs_where ws ss stream [] lo hi p h = cc
occurs_where ws ss stream (Any ∷ phrase) lo hi p h = cc
occurs_where ws ss stream (Takes keys patterns ∷ phrase) lo hi p h =
    let slots = phrase_slots (postings_of_words ws ss) stream phrase in
    let first = word_positions stream (Takes keys patterns) ws in
    let count : nat_le (p + length slots) hi ≡ nat_le (p + suc (length phrase)) (hi + 1) = ap (λ n. nat_le (p + n) hi) (slot_count ws ss stream phrase) ∙ last_place p (length phrase) hi in
    starts_are first slots lo hi p
    ∙ moved (has_number first p) (nat_le lo p) (nat_le (p + length slots) hi) (occurs_at slots (p + 1))
    ∙ ap (λ t. nat_le lo p && t && (has_number first p && occurs_at slots (p + 1))) count
    ∙ ap (λ t. nat_le lo p && nat_le (p + suc (length phrase)) (hi + 1) && t) (slots_stand ws ss stream (Takes keys patterns ∷ phrase) p)

-- ---- in rising order

words_above : (before : ℕ) (stream : ℕ) (slot : Slot) (ws : List DocWord) → WordsRise before ws → Above before (word_positions stream slot ws)
words_above before stream slot [] h = tt
words_above before stream slot (w ∷ ws) h = go (fits_word stream slot w) (words_above w.position stream slot ws h.1)
  where
    go : (b : Bool) → Above w.position (word_positions stream slot ws) → Above before (map (λ (v : DocWord). v.position) (cond b (w ∷ filter (fits_word stream slot) ws) (filter (fits_word stream slot) ws)))
    go true rest = (h.0, rest)
    go false rest = let f = h.0 in above_lower before w.position (word_positions stream slot ws) (omega (arith, f)) rest

pub word_positions_rise : (stream : ℕ) (slot : Slot) (ws : List DocWord) → WordsRise 0 ws → Rising (word_positions stream slot ws)
word_positions_rise stream slot ws h = above_rises 0 (word_positions stream slot ws) (words_above 0 stream slot ws h)

pub occurrences_rise : (ws : List DocWord) (ss : List DocSection) (stream : ℕ) (phrase : List Slot) (lo hi : ℕ) → WordsRise 0 ws → Rising (occurrences phrase (postings_of_words ws ss) stream lo hi)
occurrences_rise ws ss stream [] lo hi h = tt
occurrences_rise ws ss stream (Any ∷ phrase) lo hi h = tt
occurrences_rise ws ss stream (Takes keys patterns ∷ phrase) lo hi h =
    starts_rise (word_positions stream (Takes keys patterns) ws) (phrase_slots (postings_of_words ws ss) stream phrase) lo hi (word_positions_rise stream (Takes keys patterns) ws h)
