-- What the words of a document say of a query, without where they stand.
use Rattle.std.specs.Prelude.{ℕ, zero, suc, ◌≡◌, eqb, Bool, true, false, not, ◌&&◌, ◌||◌, List, [], ◌∷◌, length, take, codes, refl}
use Rattle.std.specs.List.{list_any, list_all}
use Rattle.q_tree.specs.declared.flats.Slot.{Slot}
use Rattle.q_tree.specs.declared.flats.Slot.TheVariants.{Any, Takes}
use Rattle.q_tree.specs.declared.queries.Op.TheVariants.{Or, And, Not, Minus}
use Rattle.q_tree.specs.Slots.{takes}
use Rattle.q_tree.specs.ReducedQueries.{Reduced, Term, Both, Weight, Above, Near, Within, Define}
use Rattle.cat_search.specs.Queries.{key_term, red_hat}

-- ---- slots

-- whether the slot takes one of the words
abbrev pub takes_one : List (List ℕ) → Slot → Bool
takes_one words Any = false
takes_one words (Takes keys patterns) = list_any (takes (Takes keys patterns)) words

-- whether the words don't rule out that the slot is met: Any is met by each word, a stopword too
abbrev pub may_take : List (List ℕ) → Slot → Bool
may_take words Any = true
may_take words (Takes keys patterns) = list_any (takes (Takes keys patterns)) words

-- ---- queries

abbrev pub is_single : List Slot → Bool
is_single phrase = eqb (length phrase) 1

-- whether each phrase of a query has one slot: then the words of a row tell whether it meets the query
abbrev pub is_exact : Reduced → Bool
is_exact (Term phrases) = list_all is_single phrases
is_exact (Both op a b) = is_exact a && is_exact b
is_exact (Weight w a) = false
is_exact (Above n a) = false
is_exact (Near operands span ordered) = false
is_exact (Within place a) = false
is_exact (Define phrases sum) = false

-- each slot takes one of the words
abbrev pub all_taken : List (List ℕ) → List Slot → Bool
all_taken words slots = list_all (may_take words) slots

-- for how many slots of a phrase a word is looked for: where the row has them all its text tells
abbrev pub walked_slots : ℕ
walked_slots = 16

-- the first slots of a phrase do
abbrev pub phrase_may : List (List ℕ) → List Slot → Bool
phrase_may words phrase = all_taken words (take walked_slots phrase)

-- WHETHER A ROW WITH THESE WORDS MAY MEET A QUERY: the words of a phrase, or of its first slots, are all there, wherever they stand. NOT takes rows away only where the words tell
-- that they meet what stands behind it.
abbrev pub may_meet : Reduced → List (List ℕ) → Bool
may_meet (Term phrases) words = list_any (phrase_may words) phrases
may_meet (Both And a b) words = may_meet a words && may_meet b words
may_meet (Both Or a b) words = may_meet a words || may_meet b words
may_meet (Both Not a b) words = may_meet a words && not (is_exact b && may_meet b words)
may_meet (Both Minus a b) words = false
may_meet (Weight w a) words = false
may_meet (Above n a) words = false
may_meet (Near operands span ordered) words = false
may_meet (Within place a) words = false
may_meet (Define phrases sum) words = false

-- whether some slot of a query takes one of the words
abbrev pub has_slot_word : Reduced → List (List ℕ) → Bool
has_slot_word (Term phrases) words = list_any (list_any (takes_one words)) phrases
has_slot_word (Both op a b) words = has_slot_word a words || has_slot_word b words
has_slot_word (Weight w a) words = has_slot_word a words
has_slot_word (Above n a) words = has_slot_word a words
has_slot_word (Near operands span ordered) words = list_any (list_any (list_any (takes_one words))) operands
has_slot_word (Within place a) words = has_slot_word a words
has_slot_word (Define phrases sum) words = list_any (list_any (takes_one words)) phrases

-- ---- computed examples

abbrev hat_and_red : List (List ℕ)
hat_and_red = codes "hat" ∷ codes "red" ∷ []

-- `red hat` may stand in a text that has both words, as `hat, red`, in which it doesn't
may_stand : may_meet red_hat hat_and_red ≡ true
may_stand = refl

not_without_hat : may_meet red_hat (codes "red" ∷ []) ≡ false
not_without_hat = refl

-- of a phrase of 17 words the last one isn't looked for
abbrev red_hats : ℕ → List Slot
red_hats zero = Takes (codes "cap" ∷ []) [] ∷ []
red_hats (suc n) = Takes (codes "red" ∷ []) [] ∷ red_hats n

its_last_word : phrase_may hat_and_red (red_hats 16) ≡ true
its_last_word = refl

its_sixteenth_word : phrase_may hat_and_red (red_hats 15) ≡ false
its_sixteenth_word = refl

its_word : has_slot_word red_hat (codes "red" ∷ []) ≡ true
its_word = refl

a_word_is_exact : is_exact (Both Or (key_term (codes "red")) (key_term (codes "hat"))) ≡ true
a_word_is_exact = refl

a_phrase_is_not : is_exact (Both And (key_term (codes "red")) red_hat) ≡ false
a_phrase_is_not = refl

-- what stands behind NOT takes away a row where it is exact
taken_away : may_meet (Both Not (key_term (codes "red")) (key_term (codes "hat"))) hat_and_red ≡ false
taken_away = refl

left_there : may_meet (Both Not (key_term (codes "red")) red_hat) hat_and_red ≡ true
left_there = refl
