-- In which documents a query may score, by which of them its slots and its sections are in.
use Rattle.std.specs.Prelude.{ℕ, ◌≡◌, zero, Bool, true, false, ◌&&◌, ◌||◌, List, [], ◌∷◌, map, Option, Some, None, bytes_eq, codes, refl}
use Rattle.std.specs.Bool.{if◌then◌else◌}
use Rattle.std.specs.List.{list_any, list_all}
use Rattle.ix_spans.specs.Occurrences.{Slots}
use Rattle.ix_lists.specs.Seeking.{has_any}
use Rattle.q_tree.specs.declared.flats.Slot.{Slot}
use Rattle.q_tree.specs.declared.flats.Slot.TheVariants.{Any, Takes}
use Rattle.q_tree.specs.declared.flats.Place.TheVariants.{Zone, Field, Sentence, Paragraph}
use Rattle.q_tree.specs.declared.queries.Op.{Op}
use Rattle.q_tree.specs.declared.queries.Op.TheVariants.{Or, And, Not, Minus}
use Rattle.q_tree.specs.ReducedQueries.{Reduced, Term, Both, Weight, Above, Near, Within, Define}
use Rattle.q_tree.specs.Scores.{DocPostings, term_slots, operand_slots}

-- a slot may fit in a document where it has a position; Any may in each
abbrev pub may_fit : Option (List ℕ) → Bool
may_fit None = true
may_fit (Some positions) = has_any positions

-- a phrase may occur where each of its slots may fit
abbrev pub may_occur : Slots → Bool
may_occur slots = list_all may_fit slots

-- a term may occur where one of its phrases may
abbrev pub may_match : List Slots → Bool
may_match phrases = list_any may_occur phrases

-- AND may score where both parts may, OR where one of them may, NOT and MINUS where the first may
abbrev pub may_join : Op → Bool → Bool → Bool
may_join And a b = a && b
may_join Or a b = a || b
may_join Not a b = a
may_join Minus a b = a

-- WHETHER A QUERY MAY SCORE in a document, over a stream. NEAR may where each operand may occur, WITHIN where the section has a pair and
-- the part may score.
abbrev pub may_score : Reduced → DocPostings → ℕ → Bool
may_score (Term phrases) d s = may_match (term_slots d s phrases)
may_score (Both op a b) d s = may_join op (may_score a d s) (may_score b d s)
may_score (Weight w a) d s = may_score a d s
may_score (Above n a) d s = may_score a d s
may_score (Near operands span ordered) d s = list_all may_match (operand_slots d s operands)
may_score (Within (Field f) a) d s = may_score a d f
may_score (Within (Zone name) a) d s = has_any (d.spans name) && may_score a d s
may_score (Within Sentence a) d s = has_any (d.spans (codes "sentence")) && may_score a d s
may_score (Within Paragraph a) d s = has_any (d.spans (codes "paragraph")) && may_score a d s
may_score (Define phrases sum) d s = may_match (term_slots d s phrases)

-- ---- computed examples: a document that has a at 1 and b at 9 of its main stream, and no section

abbrev slot_of : List ℕ → Slot
slot_of key = Takes (key ∷ []) []

abbrev places : ℕ → Slot → List ℕ
places zero (Takes (key ∷ keys) patterns) = if bytes_eq key (codes "a") then 1 ∷ [] else (if bytes_eq key (codes "b") then 9 ∷ [] else [])
places stream slot = []

abbrev has_a_and_b : DocPostings
has_a_and_b = record { positions = places; spans = λ name. [] }

abbrev word : List ℕ → Reduced
word key = Term ((slot_of key ∷ []) ∷ [])

both_words : may_score (Both And (word (codes "a")) (word (codes "b"))) has_a_and_b 0 ≡ true
both_words = refl

one_word_alone : may_score (Both And (word (codes "a")) (word (codes "c"))) has_a_and_b 0 ≡ false
one_word_alone = refl

either_word : may_score (Both Or (word (codes "c")) (word (codes "b"))) has_a_and_b 0 ≡ true
either_word = refl

-- a NOT b has no score there, which the documents alone don't tell
not_ruled_out : may_score (Both Not (word (codes "a")) (word (codes "b"))) has_a_and_b 0 ≡ true
not_ruled_out = refl

-- nor do they tell where the words of a phrase stand, with any word between
phrase_not_ruled_out : may_score (Term ((slot_of (codes "a") ∷ Any ∷ slot_of (codes "b") ∷ []) ∷ [])) has_a_and_b 0 ≡ true
phrase_not_ruled_out = refl

in_no_sentence : may_score (Within Sentence (word (codes "a"))) has_a_and_b 0 ≡ false
in_no_sentence = refl

in_no_field : may_score (Within (Field 1) (word (codes "a"))) has_a_and_b 0 ≡ false
in_no_field = refl
