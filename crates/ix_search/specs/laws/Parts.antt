-- A query has one score over two documents whose postings agree in what it asks for.
use Rattle.std.proofs.Common.{ℕ, ◌≡◌, ◌≤◌, ◌+◌, ◌&&◌, nat_le, true, List, [], ◌∷◌, length, Some, codes, refl, ap, ◌∙◌}
use Rattle.std.specs.List.{list_all}
use Rattle.std.proofs.lemmas.Bool.{and_parts, leb-true}
use Rattle.std.proofs.Math.Path.{fun_ext}
use Rattle.ct_base.specs.Limits.{stream_limit, token_limit}
use Rattle.ct_entry.specs.Keys.{IsToken}
use Rattle.ct_entry.specs.Lists.{EachIs}
use Rattle.ix_spans.specs.Occurrences.{term_score}
use Rattle.q_tree.specs.declared.flats.Slot.{Slot}
use Rattle.q_tree.specs.declared.flats.Slot.TheVariants.{Any, Takes}
use Rattle.q_tree.specs.declared.flats.Place.TheVariants.{Zone, Field, Sentence, Paragraph}
use Rattle.q_tree.specs.ReducedQueries.{Reduced, Term, Both, Weight, Above, Near, Within, Define}
use Rattle.q_tree.specs.Soundness.{is_between, is_key, slot_keys_rise, is_slot, takes_some, ends_well, is_phrase, is_term, is_sum, is_sound}
use Rattle.q_tree.specs.Scores.{DocPostings, slot_positions, phrase_slots, term_slots, operand_slots, near_score, define_score, greatest_within, operated, weighted, if_above, score}
use Rattle.ix_search.specs.Promises.{PartsScoreAlike}
use Rattle.ix_search.specs.Parts.{OfSlot, OfPhrase, OfTerm, OfOperands, OfParts, keys_of}

-- ---- one score

module _ (c d : DocPostings) where
  abbrev pub SameSlot : ℕ → Slot → Type 0
  SameSlot s slot = c.positions s slot ≡ d.positions s slot

  abbrev pub SameSection : List ℕ → Type 0
  SameSection name = c.spans name ≡ d.spans name

  slot_same : (s : ℕ) (slot : Slot) → OfSlot SameSlot s slot → slot_positions c s slot ≡ slot_positions d s slot
  slot_same s Any h = refl
  slot_same s (Takes keys patterns) h = ap Some h

  phrase_same : (s : ℕ) (phrase : List Slot) → OfPhrase SameSlot s phrase → phrase_slots c s phrase ≡ phrase_slots d s phrase
  phrase_same s [] h = refl
  phrase_same s (x ∷ xs) h = ap (λ o. o ∷ phrase_slots c s xs) (slot_same s x h.0) ∙ ap (λ os. slot_positions d s x ∷ os) (phrase_same s xs h.1)

  term_same : (s : ℕ) (phrases : List (List Slot)) → OfTerm SameSlot s phrases → term_slots c s phrases ≡ term_slots d s phrases
  term_same s [] h = refl
  term_same s (x ∷ xs) h = ap (λ o. o ∷ term_slots c s xs) (phrase_same s x h.0) ∙ ap (λ os. phrase_slots d s x ∷ os) (term_same s xs h.1)

  operands_same : (s : ℕ) (operands : List (List (List Slot))) → OfOperands SameSlot s operands → operand_slots c s operands ≡ operand_slots d s operands
  operands_same s [] h = refl
  operands_same s (x ∷ xs) h = ap (λ o. o ∷ operand_slots c s xs) (term_same s x h.0) ∙ ap (λ os. term_slots d s x ∷ os) (operands_same s xs h.1)

  both_same : (f : ℕ → ℕ → ℕ) (a b x y : ℕ) → a ≡ x → b ≡ y → f a b ≡ f x y
  both_same f a b x y h k = ap (λ n. f n b) h ∙ ap (f x) k

  within_same : (f g : ℕ → ℕ → ℕ) (lo hi : ℕ) (name : List ℕ) → SameSection name → ((l h : ℕ) → f l h ≡ g l h) → greatest_within f lo hi (c.spans name) ≡ greatest_within g lo hi (d.spans name)
  within_same f g lo hi name spans h = ap (λ ps. greatest_within f lo hi ps) spans ∙ ap (λ k. greatest_within k lo hi (d.spans name)) (fun_ext (λ l. fun_ext (λ r. h l r)))

  -- THE SAME SCORE, where the postings agree in all parts of the query
  pub same_by_parts : (f : Reduced) (s : ℕ) → OfParts SameSlot SameSection f s → (lo hi : ℕ) → score f c s lo hi ≡ score f d s lo hi
  same_by_parts (Term phrases) s h lo hi = ap (λ xs. term_score xs lo hi) (term_same s phrases h)
  same_by_parts (Both op a b) s h lo hi = both_same (operated op) (score a c s lo hi) (score b c s lo hi) (score a d s lo hi) (score b d s lo hi) (same_by_parts a s h.0 lo hi) (same_by_parts b s h.1 lo hi)
  same_by_parts (Weight w a) s h lo hi = ap (weighted w) (same_by_parts a s h lo hi)
  same_by_parts (Above n a) s h lo hi = ap (if_above n) (same_by_parts a s h lo hi)
  same_by_parts (Near operands span ordered) s h lo hi = ap (λ xs. near_score xs span ordered lo hi) (operands_same s operands h)
  same_by_parts (Within (Field f) a) s h lo hi = same_by_parts a f h lo hi
  same_by_parts (Within (Zone name) a) s h lo hi = within_same (λ l r. score a c s l r) (λ l r. score a d s l r) lo hi name h.0 (λ l r. same_by_parts a s h.1 l r)
  same_by_parts (Within Sentence a) s h lo hi = within_same (λ l r. score a c s l r) (λ l r. score a d s l r) lo hi (codes "sentence") h.0 (λ l r. same_by_parts a s h.1 l r)
  same_by_parts (Within Paragraph a) s h lo hi = within_same (λ l r. score a c s l r) (λ l r. score a d s l r) lo hi (codes "paragraph") h.0 (λ l r. same_by_parts a s h.1 l r)
  same_by_parts (Define phrases sum) s h lo hi = ap (λ xs. define_score xs sum lo hi) (term_same s phrases h)

pub parts_score_alike : PartsScoreAlike
parts_score_alike c d f s same lo hi = same_by_parts c d f s same lo hi

-- ---- facts that follow from others

module _ (P R : ℕ → Slot → Type 0) (so : (s : ℕ) (slot : Slot) → P s slot → R s slot) where
  pub slot_so : (s : ℕ) (slot : Slot) → OfSlot P s slot → OfSlot R s slot
  slot_so s Any h = tt
  slot_so s (Takes keys patterns) h = so s (Takes keys patterns) h

  pub phrase_so : (s : ℕ) (phrase : List Slot) → OfPhrase P s phrase → OfPhrase R s phrase
  phrase_so s [] h = tt
  phrase_so s (x ∷ xs) h = (slot_so s x h.0, phrase_so s xs h.1)

  pub term_so : (s : ℕ) (phrases : List (List Slot)) → OfTerm P s phrases → OfTerm R s phrases
  term_so s [] h = tt
  term_so s (x ∷ xs) h = (phrase_so s x h.0, term_so s xs h.1)

  operands_so : (s : ℕ) (operands : List (List (List Slot))) → OfOperands P s operands → OfOperands R s operands
  operands_so s [] h = tt
  operands_so s (x ∷ xs) h = (term_so s x h.0, operands_so s xs h.1)

  pub parts_so : (Q S : List ℕ → Type 0) → ((name : List ℕ) → Q name → S name) → (f : Reduced) (s : ℕ) → OfParts P Q f s → OfParts R S f s
  parts_so Q S also (Term phrases) s h = term_so s phrases h
  parts_so Q S also (Both op a b) s h = (parts_so Q S also a s h.0, parts_so Q S also b s h.1)
  parts_so Q S also (Weight w a) s h = parts_so Q S also a s h
  parts_so Q S also (Above n a) s h = parts_so Q S also a s h
  parts_so Q S also (Near operands span ordered) s h = operands_so s operands h
  parts_so Q S also (Within (Field f) a) s h = parts_so Q S also a f h
  parts_so Q S also (Within (Zone name) a) s h = (also name h.0, parts_so Q S also a s h.1)
  parts_so Q S also (Within Sentence a) s h = (also (codes "sentence") h.0, parts_so Q S also a s h.1)
  parts_so Q S also (Within Paragraph a) s h = (also (codes "paragraph") h.0, parts_so Q S also a s h.1)
  parts_so Q S also (Define phrases sum) s h = term_so s phrases h

-- ---- the streams and keys of a sound query

-- a stream that there is, and a slot with keys of 1 to 255 bytes, or patterns
pub record IsSlotPart (s : ℕ) (slot : Slot) : Type 0 where
  pub some : takes_some slot ≡ true
  pub stream : s ≤ stream_limit
  pub keys : EachIs IsToken (keys_of slot)

abbrev pub AnyName : List ℕ → Type 0
AnyName name = Unit {0}

tokens_are : (ks : List (List ℕ)) → list_all is_key ks ≡ true → EachIs IsToken ks
tokens_are [] h = tt
tokens_are (k ∷ ks) h =
    let p = and_parts (is_key k) (list_all is_key ks) h in
    let q = and_parts (nat_le 1 (length k)) (nat_le (length k) token_limit) p.0 in
    (record { some = leb-true 1 (length k) q.0; short = leb-true (length k) token_limit q.1 }, tokens_are ks p.1)

module _ (s : ℕ) (low : s ≤ stream_limit) where
  slots_read : (slots : List Slot) → list_all is_slot slots ≡ true → OfPhrase IsSlotPart s slots
  slots_read [] h = tt
  slots_read (Any ∷ slots) h = (tt, slots_read slots h)
  slots_read (Takes keys patterns ∷ slots) h =
      let p = and_parts (is_slot (Takes keys patterns)) (list_all is_slot slots) h in
      let q = and_parts (nat_le 1 (length keys + length patterns) && slot_keys_rise keys) (list_all is_key keys) p.0 in
      (record { some = refl; stream = low; keys = tokens_are keys q.1 }, slots_read slots p.1)

  phrase_read : (phrase : List Slot) → is_phrase phrase ≡ true → OfPhrase IsSlotPart s phrase
  phrase_read [] h = tt
  phrase_read (x ∷ xs) h = slots_read (x ∷ xs) (and_parts (takes_some x && ends_well (x ∷ xs)) (list_all is_slot (x ∷ xs)) h).1

  phrases_read : (phrases : List (List Slot)) → list_all is_phrase phrases ≡ true → OfTerm IsSlotPart s phrases
  phrases_read [] h = tt
  phrases_read (x ∷ xs) h = let p = and_parts (is_phrase x) (list_all is_phrase xs) h in (phrase_read x p.0, phrases_read xs p.1)

  term_read : (phrases : List (List Slot)) → is_term phrases ≡ true → OfTerm IsSlotPart s phrases
  term_read phrases h = phrases_read phrases (and_parts (nat_le 1 (length phrases)) (list_all is_phrase phrases) h).1

  operands_read : (operands : List (List (List Slot))) → list_all is_term operands ≡ true → OfOperands IsSlotPart s operands
  operands_read [] h = tt
  operands_read (x ∷ xs) h = let p = and_parts (is_term x) (list_all is_term xs) h in (term_read x p.0, operands_read xs p.1)

pub parts_read : (f : Reduced) → is_sound f ≡ true → (s : ℕ) → s ≤ stream_limit → OfParts IsSlotPart AnyName f s
parts_read (Term phrases) h s low = term_read s low phrases h
parts_read (Both op a b) h s low = let p = and_parts (is_sound a) (is_sound b) h in (parts_read a p.0 s low, parts_read b p.1 s low)
parts_read (Weight w a) h s low = parts_read a (and_parts (is_between 1 100 w) (is_sound a) h).1 s low
parts_read (Above n a) h s low = parts_read a (and_parts (nat_le n 100) (is_sound a) h).1 s low
parts_read (Near operands span ordered) h s low =
    let p = and_parts (is_between 2 16 (length operands) && list_all is_term operands) (nat_le span 100) h in
    operands_read s low operands (and_parts (is_between 2 16 (length operands)) (list_all is_term operands) p.0).1
parts_read (Within (Field f) a) h s low =
    let p = and_parts (is_between 1 stream_limit f) (is_sound a) h in
    parts_read a p.1 f (leb-true f stream_limit (and_parts (nat_le 1 f) (nat_le f stream_limit) p.0).1)
parts_read (Within (Zone name) a) h s low = (tt, parts_read a h s low)
parts_read (Within Sentence a) h s low = (tt, parts_read a h s low)
parts_read (Within Paragraph a) h s low = (tt, parts_read a h s low)
parts_read (Define phrases sum) h s low = term_read s low phrases (and_parts (is_term phrases) (is_sum sum) h).0
