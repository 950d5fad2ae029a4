-- How a reduced query is written: in prefix form, each operator before its parts, and each of these heads as a tag with what follows it.
use Rattle.std.specs.Prelude.{ℕ, ◌≡◌, ◌/◌, ◌%◌, Bool, true, false, ◌&&◌, List, [], ◌∷◌, ◌++◌, length, codes, refl}
use Rattle.std.specs.List.{flat_map}
use Rattle.std.specs.Str.{chars, is_utf8}
use lib.Utf8.{encode}
use Rattle.ct_base.specs.Names.{is_kept}
use Rattle.ct_bytes.specs.Varints.{varint, text_bytes}
use Rattle.tx_settings.specs.PrefsBytes.{listed, is_short, is_text, are_listed}
use Rattle.q_tree.specs.declared.flats.PatternBit.{PatternBit}
use Rattle.q_tree.specs.declared.flats.PatternBit.TheVariants.{Chars, One, Many}
use Rattle.q_tree.specs.declared.flats.Slot.{Slot}
use Rattle.q_tree.specs.declared.flats.Slot.TheVariants.{Any, Takes}
use Rattle.q_tree.specs.declared.flats.Place.{Place}
use Rattle.q_tree.specs.declared.flats.Place.TheVariants.{Zone, Field, Sentence, Paragraph}
use Rattle.q_tree.specs.declared.flats.SumStep.{SumStep}
use Rattle.q_tree.specs.declared.flats.SumStep.TheVariants.{Number, Discrete, Occurrence, Plus, Minus as Less, Times}
use Rattle.q_tree.specs.declared.queries.Op.{Op}
use Rattle.q_tree.specs.declared.queries.Op.TheVariants.{And, Or, Not, Minus}
use Rattle.q_tree.specs.ReducedQueries.{Reduced, Term, Both, Weight, Above, Near, Within, Define}
use Rattle.q_stored.specs.declared.heads.Head.{Head}
use Rattle.q_stored.specs.declared.heads.Head.TheVariants.{Term as TermHead, Both as BothHead, Weight as WeightHead, Above as AboveHead, Near as NearHead, Within as WithinHead, Define as DefineHead}

-- ---- patterns, slots, phrases and terms

abbrev pub bit_tag : PatternBit → ℕ
bit_tag (Chars text) = 1
bit_tag One = 2
bit_tag Many = 3

abbrev pub bit_body : PatternBit → List ℕ
bit_body (Chars text) = text_bytes text
bit_body One = []
bit_body Many = []

abbrev pub bit_spelling : PatternBit → List ℕ
bit_spelling bit = bit_tag bit ∷ bit_body bit

abbrev pub pattern_spelling : List PatternBit → List ℕ
pattern_spelling bits = listed bit_spelling bits

abbrev pub slot_tag : Slot → ℕ
slot_tag Any = 0
slot_tag (Takes keys patterns) = 1

-- the keys, and the patterns
abbrev pub slot_body : Slot → List ℕ
slot_body Any = []
slot_body (Takes keys patterns) = listed text_bytes keys ++ listed pattern_spelling patterns

abbrev pub slot_spelling : Slot → List ℕ
slot_spelling slot = slot_tag slot ∷ slot_body slot

-- a list of phrases, each a list of slots
abbrev pub term_spelling : List (List Slot) → List ℕ
term_spelling phrases = listed (listed slot_spelling) phrases

-- ---- places, and the steps of sums

abbrev pub place_tag : Place → ℕ
place_tag (Zone name) = 1
place_tag (Field stream) = 2
place_tag Sentence = 3
place_tag Paragraph = 4

abbrev pub place_body : Place → List ℕ
place_body (Zone name) = text_bytes name
place_body (Field stream) = stream ∷ []
place_body Sentence = []
place_body Paragraph = []

abbrev pub place_spelling : Place → List ℕ
place_spelling place = place_tag place ∷ place_body place

abbrev pub step_tag : SumStep → ℕ
step_tag (Number n) = 1
step_tag Discrete = 2
step_tag Occurrence = 3
step_tag Plus = 4
step_tag Less = 5
step_tag Times = 6

-- a number in two bytes, the higher one first
abbrev pub step_body : SumStep → List ℕ
step_body (Number n) = n / 256 ∷ n % 256 ∷ []
step_body step = []

abbrev pub step_spelling : SumStep → List ℕ
step_spelling step = step_tag step ∷ step_body step

-- ---- heads

abbrev pub op_tag : Op → ℕ
op_tag And = 2
op_tag Or = 3
op_tag Not = 4
op_tag Minus = 5

abbrev pub head_tag : Head → ℕ
head_tag (TermHead phrases) = 1
head_tag (BothHead op) = op_tag op
head_tag (WeightHead tenths) = 6
head_tag (AboveHead n) = 7
head_tag (NearHead operands span ordered) = 8
head_tag (WithinHead place) = 9
head_tag (DefineHead phrases sum) = 10

abbrev pub order_byte : Bool → ℕ
order_byte false = 0
order_byte true = 1

abbrev pub head_body : Head → List ℕ
head_body (TermHead phrases) = term_spelling phrases
head_body (BothHead op) = []
head_body (WeightHead tenths) = tenths ∷ []
head_body (AboveHead n) = n ∷ []
head_body (NearHead operands span ordered) = span ∷ order_byte ordered ∷ listed term_spelling operands
head_body (WithinHead place) = place_spelling place
head_body (DefineHead phrases sum) = term_spelling phrases ++ listed step_spelling sum

abbrev pub head_spelling : Head → List ℕ
head_spelling head = head_tag head ∷ head_body head

-- ---- queries

-- THE PREFIX FORM of a query: its head, and then those of its parts
abbrev pub prefix : Reduced → List Head
prefix (Term phrases) = TermHead phrases ∷ []
prefix (Both op a b) = BothHead op ∷ prefix a ++ prefix b
prefix (Weight tenths a) = WeightHead tenths ∷ prefix a
prefix (Above n a) = AboveHead n ∷ prefix a
prefix (Near operands span ordered) = NearHead operands span ordered ∷ []
prefix (Within place a) = WithinHead place ∷ prefix a
prefix (Define phrases sum) = DefineHead phrases sum ∷ []

-- its head alone
abbrev pub query_head : Reduced → Head
query_head (Term phrases) = TermHead phrases
query_head (Both op a b) = BothHead op
query_head (Weight tenths a) = WeightHead tenths
query_head (Above n a) = AboveHead n
query_head (Near operands span ordered) = NearHead operands span ordered
query_head (Within place a) = WithinHead place
query_head (Define phrases sum) = DefineHead phrases sum

-- how many nodes a query has
abbrev pub node_count : Reduced → ℕ
node_count q = length (prefix q)

-- THE BYTES OF A QUERY
abbrev pub query_bytes : Reduced → List ℕ
query_bytes q = flat_map head_spelling (prefix q)

-- ---- what can be written: texts in UTF-8, names as they are kept, and fewer than 2 ^ 32 of anything

abbrev pub is_written_bit : PatternBit → Bool
is_written_bit (Chars text) = is_text text
is_written_bit bit = true

abbrev pub is_written_pattern : List PatternBit → Bool
is_written_pattern bits = are_listed is_written_bit bits

abbrev pub is_written_slot : Slot → Bool
is_written_slot Any = true
is_written_slot (Takes keys patterns) = are_listed is_short keys && are_listed is_written_pattern patterns

abbrev pub is_written_phrase : List Slot → Bool
is_written_phrase slots = are_listed is_written_slot slots

abbrev pub is_written_term : List (List Slot) → Bool
is_written_term phrases = are_listed is_written_phrase phrases

abbrev pub is_written_place : Place → Bool
is_written_place (Zone name) = is_kept name
is_written_place place = true

abbrev pub is_written_step : SumStep → Bool
is_written_step step = true

abbrev pub is_written_head : Head → Bool
is_written_head (TermHead phrases) = is_written_term phrases
is_written_head (NearHead operands span ordered) = are_listed is_written_term operands
is_written_head (WithinHead place) = is_written_place place
is_written_head (DefineHead phrases sum) = is_written_term phrases && are_listed is_written_step sum
is_written_head head = true

-- ---- computed examples

abbrev pub single_slot : List ℕ → Slot
single_slot key = Takes (key ∷ []) []

abbrev pub key_phrase : List ℕ → List Slot
key_phrase key = single_slot key ∷ []

abbrev pub a_term : Reduced
a_term = Term (key_phrase (codes "a") ∷ [])

abbrev pub b_term : Reduced
b_term = Term (key_phrase (codes "b") ∷ [])

-- a: one phrase of one slot, with one key and no pattern
one_word : query_bytes a_term ≡ 1 ∷ 1 ∷ 1 ∷ 1 ∷ 1 ∷ 1 ∷ codes "a" ++ 0 ∷ []
unfolding varint
one_word = refl

-- a AND b: the operator stands first
both_words : query_bytes (Both And a_term b_term) ≡ 2 ∷ (1 ∷ 1 ∷ 1 ∷ 1 ∷ 1 ∷ 1 ∷ codes "a" ++ 0 ∷ 1 ∷ 1 ∷ 1 ∷ 1 ∷ 1 ∷ 1 ∷ codes "b" ++ 0 ∷ [])
unfolding varint
both_words = refl

three_nodes : node_count (Both Or a_term b_term) ≡ 3
three_nodes = refl

-- (a OR b) WITHIN t, where t is the first field
in_a_field : prefix (Within (Field 1) (Both Or a_term b_term)) ≡ WithinHead (Field 1) ∷ BothHead Or ∷ TermHead (key_phrase (codes "a") ∷ []) ∷ TermHead (key_phrase (codes "b") ∷ []) ∷ []
in_a_field = refl

-- a * 2.5, and a > 5
a_weight : head_spelling (query_head (Weight 25 a_term)) ≡ 6 ∷ 25 ∷ []
a_weight = refl

a_threshold : head_spelling (query_head (Above 5 a_term)) ≡ 7 ∷ 5 ∷ []
a_threshold = refl

-- NEAR((a,b),5,TRUE): the span, that the operands are ordered, and two terms without their tags
near_one_another : query_bytes (Near ((key_phrase (codes "a") ∷ []) ∷ (key_phrase (codes "b") ∷ []) ∷ []) 5 true)
    ≡ 8 ∷ 5 ∷ 1 ∷ 2 ∷ (1 ∷ 1 ∷ 1 ∷ 1 ∷ 1 ∷ codes "a" ++ 0 ∷ 1 ∷ 1 ∷ 1 ∷ 1 ∷ 1 ∷ codes "b" ++ 0 ∷ [])
unfolding varint
near_one_another = refl

-- DEFINESCORE(a, OCCURRENCE - 1)
with_a_sum : query_bytes (Define (key_phrase (codes "a") ∷ []) (Occurrence ∷ Number 1 ∷ Less ∷ [])) ≡ 10 ∷ 1 ∷ 1 ∷ 1 ∷ 1 ∷ 1 ∷ codes "a" ++ 0 ∷ 3 ∷ 3 ∷ 1 ∷ 0 ∷ 1 ∷ 5 ∷ []
unfolding varint
with_a_sum = refl

-- any word between a and b
any_word : term_spelling ((single_slot (codes "a") ∷ Any ∷ single_slot (codes "b") ∷ []) ∷ []) ≡ 1 ∷ 3 ∷ 1 ∷ 1 ∷ 1 ∷ codes "a" ++ 0 ∷ 0 ∷ 1 ∷ 1 ∷ 1 ∷ codes "b" ++ 0 ∷ []
unfolding varint
any_word = refl

-- caf%
a_pattern : slot_spelling (Takes [] ((Chars (codes "caf") ∷ Many ∷ []) ∷ [])) ≡ 1 ∷ 0 ∷ 1 ∷ 2 ∷ 1 ∷ 3 ∷ codes "caf" ++ 3 ∷ []
unfolding varint
a_pattern = refl

-- OCCURRENCE * 10 + 500
a_sum : listed step_spelling (Occurrence ∷ Number 10 ∷ Times ∷ Number 500 ∷ Plus ∷ []) ≡ 5 ∷ 3 ∷ 1 ∷ 0 ∷ 10 ∷ 6 ∷ 1 ∷ 1 ∷ 244 ∷ 4 ∷ []
unfolding varint
a_sum = refl

in_a_zone : head_spelling (WithinHead (Zone (codes "name"))) ≡ 9 ∷ 1 ∷ 4 ∷ codes "name"
unfolding varint
in_a_zone = refl

no_text : is_written_bit (Chars (0xff ∷ [])) ≡ false
unfolding is_utf8 chars encode
no_text = refl
