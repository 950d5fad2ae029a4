-- What has the same postings has the same score: so a document has it by its words and by its entries.
use Rattle.std.proofs.Common.{ℕ, ◌≡◌, ◌≤◌, ◌&&◌, nat_le, true, List, [], ◌∷◌, Some, codes, refl, ap, ◌∙◌, arith}
use Rattle.std.proofs.lemmas.Bool.{and_parts, leb-true}
use Rattle.std.proofs.Math.Path.{fun_ext}
use Rattle.ct_base.specs.Limits.{stream_limit}
use Rattle.ix_spans.specs.Occurrences.{term_score}
use Rattle.q_tree.specs.declared.flats.Slot.{Slot}
use Rattle.q_tree.specs.declared.flats.Slot.TheVariants.{Any, Takes}
use Rattle.q_tree.specs.declared.flats.Place.TheVariants.{Zone, Field, Sentence, Paragraph}
use Rattle.q_tree.specs.ReducedQueries.{Reduced, Term, Both, Weight, Above, Near, Within, Define}
use Rattle.q_tree.specs.Soundness.{is_between, is_sound}
use Rattle.q_tree.specs.Scores.{DocPostings, slot_positions, phrase_slots, term_slots, operand_slots, near_score, define_score, greatest_within, operated, weighted, if_above, score, whole_score, last_position}
use Rattle.q_tree.specs.Documents.{DocWord, DocSection, DocEntry, postings_of_words, postings_of_entries, WordsRise, ArePostings}
use Rattle.q_tree.specs.laws.Postings.{same_positions}

module _ (c d : DocPostings) (same : (stream : ℕ) → stream ≤ stream_limit → (slot : Slot) → c.positions stream slot ≡ d.positions stream slot) (spans : (name : List ℕ) → c.spans name ≡ d.spans name) where
  slot_same : (s : ℕ) → s ≤ stream_limit → (slot : Slot) → slot_positions c s slot ≡ slot_positions d s slot
  slot_same s le Any = refl
  slot_same s le (Takes keys patterns) = ap Some (same s le (Takes keys patterns))

  phrase_same : (s : ℕ) → s ≤ stream_limit → (phrase : List Slot) → phrase_slots c s phrase ≡ phrase_slots d s phrase
  phrase_same s le [] = refl
  phrase_same s le (x ∷ xs) = ap (λ o. o ∷ phrase_slots c s xs) (slot_same s le x) ∙ ap (λ os. slot_positions d s x ∷ os) (phrase_same s le xs)

  term_same : (s : ℕ) → s ≤ stream_limit → (phrases : List (List Slot)) → term_slots c s phrases ≡ term_slots d s phrases
  term_same s le [] = refl
  term_same s le (x ∷ xs) = ap (λ o. o ∷ term_slots c s xs) (phrase_same s le x) ∙ ap (λ os. phrase_slots d s x ∷ os) (term_same s le xs)

  operands_same : (s : ℕ) → s ≤ stream_limit → (operands : List (List (List Slot))) → operand_slots c s operands ≡ operand_slots d s operands
  operands_same s le [] = refl
  operands_same s le (x ∷ xs) = ap (λ o. o ∷ operand_slots c s xs) (term_same s le x) ∙ ap (λ os. term_slots d s x ∷ os) (operands_same s le xs)

  both_same : (f : ℕ → ℕ → ℕ) (a b x y : ℕ) → a ≡ x → b ≡ y → f a b ≡ f x y
  both_same f a b x y h k = ap (λ n. f n b) h ∙ ap (f x) k

  within_same : (f g : ℕ → ℕ → ℕ) (lo hi : ℕ) (name : List ℕ) → ((l h : ℕ) → f l h ≡ g l h) → greatest_within f lo hi (c.spans name) ≡ greatest_within g lo hi (d.spans name)
  within_same f g lo hi name h = ap (λ ps. greatest_within f lo hi ps) (spans name) ∙ ap (λ k. greatest_within k lo hi (d.spans name)) (fun_ext (λ l. fun_ext (λ r. h l r)))

  parts_sound : (a b : Reduced) → (is_sound a && is_sound b) ≡ true → (is_sound a ≡ true) × (is_sound b ≡ true)
  parts_sound a b h = and_parts (is_sound a) (is_sound b) h

  pub same_score : (f : Reduced) → is_sound f ≡ true → (s : ℕ) → s ≤ stream_limit → (lo hi : ℕ) → score f c s lo hi ≡ score f d s lo hi
  same_score (Term phrases) h s le lo hi = ap (λ xs. term_score xs lo hi) (term_same s le phrases)
  same_score (Both op a b) h s le lo hi = let k = parts_sound a b h in both_same (operated op) (score a c s lo hi) (score b c s lo hi) (score a d s lo hi) (score b d s lo hi) (same_score a k.0 s le lo hi) (same_score b k.1 s le lo hi)
  same_score (Weight w a) h s le lo hi = let k = and_parts (is_between 1 100 w) (is_sound a) h in ap (weighted w) (same_score a k.1 s le lo hi)
  same_score (Above n a) h s le lo hi = let k = and_parts (nat_le n 100) (is_sound a) h in ap (if_above n) (same_score a k.1 s le lo hi)
  same_score (Near operands span ordered) h s le lo hi = ap (λ xs. near_score xs span ordered lo hi) (operands_same s le operands)
  same_score (Within (Field f) a) h s le lo hi =
      let k = and_parts (is_between 1 stream_limit f) (is_sound a) h in
      let r = and_parts (nat_le 1 f) (nat_le f stream_limit) k.0 in
      same_score a k.1 f (leb-true f stream_limit r.1) lo hi
  same_score (Within (Zone name) a) h s le lo hi = within_same (λ l r. score a c s l r) (λ l r. score a d s l r) lo hi name (λ l r. same_score a h s le l r)
  same_score (Within Sentence a) h s le lo hi = within_same (λ l r. score a c s l r) (λ l r. score a d s l r) lo hi (codes "sentence") (λ l r. same_score a h s le l r)
  same_score (Within Paragraph a) h s le lo hi = within_same (λ l r. score a c s l r) (λ l r. score a d s l r) lo hi (codes "paragraph") (λ l r. same_score a h s le l r)
  same_score (Define phrases sum) h s le lo hi = ap (λ xs. define_score xs sum lo hi) (term_same s le phrases)

pub score_by_entries : (f : Reduced) (ws : List DocWord) (ss : List DocSection) (es : List DocEntry) → is_sound f ≡ true → WordsRise 0 ws → ArePostings ws ss es → whole_score f (postings_of_entries es) ≡ whole_score f (postings_of_words ws ss)
score_by_entries f ws ss es sound rise same =
    same_score (postings_of_entries es) (postings_of_words ws ss) (λ stream within slot. same_positions ws ss es rise same stream within slot) same.pairs f sound 0 (omega arith) 1 last_position
