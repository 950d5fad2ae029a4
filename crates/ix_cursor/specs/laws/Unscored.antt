-- A query has no score in a document that its slots and sections rule out.
use Rattle.std.specs.Prelude.{ℕ, ◌≡◌, ◌<◌, nat_le, Bool, true, false, ◌&&◌, ◌||◌, List, [], ◌∷◌, length, codes, refl}
use Rattle.std.proofs.Common.{ap, ◌∙◌, arith}
use Rattle.std.specs.List.{list_all}
use Rattle.std.proofs.lemmas.Bool.{and_parts, and_right}
use Rattle.q_tree.specs.declared.flats.Slot.{Slot}
use Rattle.q_tree.specs.declared.flats.Slot.TheVariants.{Any, Takes}
use Rattle.q_tree.specs.declared.flats.Place.TheVariants.{Zone, Field, Sentence, Paragraph}
use Rattle.q_tree.specs.declared.queries.Op.{Op}
use Rattle.q_tree.specs.declared.queries.Op.TheVariants.{Or, And, Not, Minus}
use Rattle.q_tree.specs.ReducedQueries.{Reduced, Term, Both, Weight, Above, Near, Within, Define}
use Rattle.q_tree.specs.Scores.{DocPostings, score, phrase_slots, term_slots, operand_slots}
use Rattle.q_tree.specs.Soundness.{is_between, is_phrase, is_term, is_nearness, is_place, is_sum, is_sound}
use Rattle.ix_lists.specs.Seeking.{has_any}
use Rattle.ix_cursor.specs.MayScore.{may_occur, may_match, may_join, may_score}
use Rattle.ix_cursor.specs.laws.Silence.{no_term_score, no_near_score, no_define_score, nothing_joined, nothing_weighted, nothing_above, nothing_within}

-- WHERE A QUERY MAY NOT SCORE, it doesn't
pub unscored : (f : Reduced) (d : DocPostings) (s : ℕ) → may_score f d s ≡ false → (lo hi : ℕ) → score f d s lo hi ≡ 0
unscored (Term phrases) d s h lo hi = no_term_score (term_slots d s phrases) lo hi h
unscored (Both op a b) d s h lo hi = nothing_joined op (may_score a d s) (may_score b d s) (score a d s lo hi) (score b d s lo hi) (λ k. unscored a d s k lo hi) (λ k. unscored b d s k lo hi) h
unscored (Weight w a) d s h lo hi = nothing_weighted w (score a d s lo hi) (unscored a d s h lo hi)
unscored (Above n a) d s h lo hi = nothing_above n (score a d s lo hi) (unscored a d s h lo hi)
unscored (Near operands span ordered) d s h lo hi = no_near_score (operand_slots d s operands) span ordered lo hi h
unscored (Within (Field f) a) d s h lo hi = unscored a d f h lo hi
unscored (Within (Zone name) a) d s h lo hi = nothing_within (λ l h. score a d s l h) (may_score a d s) lo hi (d.spans name) (λ k l m. unscored a d s k l m) h
unscored (Within Sentence a) d s h lo hi = nothing_within (λ l h. score a d s l h) (may_score a d s) lo hi (d.spans (codes "sentence")) (λ k l m. unscored a d s k l m) h
unscored (Within Paragraph a) d s h lo hi = nothing_within (λ l h. score a d s l h) (may_score a d s) lo hi (d.spans (codes "paragraph")) (λ k l m. unscored a d s k l m) h
unscored (Define phrases sum) d s h lo hi = no_define_score (term_slots d s phrases) sum lo hi h

-- SO EACH DOCUMENT WITH A SCORE IS A CANDIDATE
pub scored_may : (f : Reduced) (d : DocPostings) (s lo hi : ℕ) → 0 < score f d s lo hi → may_score f d s ≡ true
scored_may f d s lo hi above = go (may_score f d s) refl
  where
    go : (t : Bool) → may_score f d s ≡ t → t ≡ true
    go true h = refl
    go false h = let none = unscored f d s h lo hi in absurd (omega (arith, above, none))

-- ---- documents in which no slot has a position

module _ (d : DocPostings) (none : (stream : ℕ) (slot : Slot) → d.positions stream slot ≡ []) where
  no_slot : (stream : ℕ) (phrase : List Slot) → is_phrase phrase ≡ true → may_occur (phrase_slots d stream phrase) ≡ false
  no_slot stream [] h = let wrong : false ≡ true = h in cc
  no_slot stream (Any ∷ slots) h = let wrong : false ≡ true = h in cc
  no_slot stream (Takes keys patterns ∷ slots) h = ap (λ ps. has_any ps && may_occur (phrase_slots d stream slots)) (none stream (Takes keys patterns))

  no_phrase : (stream : ℕ) (phrases : List (List Slot)) → list_all is_phrase phrases ≡ true → may_match (term_slots d stream phrases) ≡ false
  no_phrase stream [] h = refl
  no_phrase stream (p ∷ phrases) h =
      let parts = and_parts (is_phrase p) (list_all is_phrase phrases) h in
      ap (λ t. t || may_match (term_slots d stream phrases)) (no_slot stream p parts.0) ∙ no_phrase stream phrases parts.1

  no_term : (stream : ℕ) (phrases : List (List Slot)) → is_term phrases ≡ true → may_match (term_slots d stream phrases) ≡ false
  no_term stream phrases h = let parts = and_parts (nat_le 1 (length phrases)) (list_all is_phrase phrases) h in no_phrase stream phrases parts.1

  no_operand : (stream : ℕ) (operands : List (List (List Slot))) (span : ℕ) → is_nearness operands span ≡ true → list_all may_match (operand_slots d stream operands) ≡ false
  no_operand stream [] span h = let wrong : false ≡ true = h in cc
  no_operand stream (o ∷ operands) span h =
      let parts = and_parts (is_between 2 16 (length (o ∷ operands)) && list_all is_term (o ∷ operands)) (nat_le span 100) h in
      let terms = and_parts (is_between 2 16 (length (o ∷ operands))) (list_all is_term (o ∷ operands)) parts.0 in
      let first = and_parts (is_term o) (list_all is_term operands) terms.1 in
      ap (λ t. t && list_all may_match (operand_slots d stream operands)) (no_term stream o first.0)

  neither_may : (op : Op) (x y : Bool) → x ≡ false → y ≡ false → may_join op x y ≡ false
  neither_may And x y h k = ap (λ t. t && y) h
  neither_may Or x y h k = ap (λ t. t || y) h ∙ k
  neither_may Not x y h k = h
  neither_may Minus x y h k = h

  -- A SOUND QUERY MAY SCORE ONLY WHERE ONE OF ITS SLOTS HAS A POSITION
  pub nowhere : (f : Reduced) (s : ℕ) → is_sound f ≡ true → may_score f d s ≡ false
  nowhere (Term phrases) s h = no_term s phrases h
  nowhere (Both op a b) s h =
      let parts = and_parts (is_sound a) (is_sound b) h in
      neither_may op (may_score a d s) (may_score b d s) (nowhere a s parts.0) (nowhere b s parts.1)
  nowhere (Weight w a) s h = let parts = and_parts (is_between 1 100 w) (is_sound a) h in nowhere a s parts.1
  nowhere (Above n a) s h = let parts = and_parts (nat_le n 100) (is_sound a) h in nowhere a s parts.1
  nowhere (Near operands span ordered) s h = no_operand s operands span h
  nowhere (Within (Field f) a) s h = let parts = and_parts (is_place (Field f)) (is_sound a) h in nowhere a f parts.1
  nowhere (Within (Zone name) a) s h = let parts = and_parts (is_place (Zone name)) (is_sound a) h in and_right (has_any (d.spans name)) (may_score a d s) (nowhere a s parts.1)
  nowhere (Within Sentence a) s h = let parts = and_parts (is_place Sentence) (is_sound a) h in and_right (has_any (d.spans (codes "sentence"))) (may_score a d s) (nowhere a s parts.1)
  nowhere (Within Paragraph a) s h = let parts = and_parts (is_place Paragraph) (is_sound a) h in and_right (has_any (d.spans (codes "paragraph"))) (may_score a d s) (nowhere a s parts.1)
  nowhere (Define phrases sum) s h = let parts = and_parts (is_term phrases) (is_sum sum) h in no_term s phrases parts.0
