-- The keys by which a query is looked for: a document on which it has a score above 0 has one of them.
use Rattle.std.specs.Prelude.{ℕ, ◌≡◌, Bool, true, false, List, [], ◌∷◌, ◌++◌, Option, Some, None, codes, refl}
use Rattle.std.specs.List.{list_all, list_any, filter_map}
use Rattle.q_tree.specs.declared.flats.PatternBit.{PatternBit}
use Rattle.q_tree.specs.declared.flats.PatternBit.TheVariants.{Chars, Many}
use Rattle.q_tree.specs.declared.flats.Slot.{Slot}
use Rattle.q_tree.specs.declared.flats.Slot.TheVariants.{Any, Takes}
use Rattle.q_tree.specs.declared.flats.Place.TheVariants.{Sentence}
use Rattle.q_tree.specs.declared.queries.Op.{Op}
use Rattle.q_tree.specs.declared.queries.Op.TheVariants.{And, Or, Not, Minus}
use Rattle.q_tree.specs.ReducedQueries.{Reduced, Term, Both, Weight, Above, Near, Within, Define}
use Rattle.q_tree.specs.Slots.{has_key}
use Rattle.q_tree.specs.Soundness.{is_key}
use Rattle.q_tree.specs.Documents.{DocWord}
use Rattle.q_stored.specs.QueryBytes.{a_term, b_term, key_phrase}

-- None stands for everywhere: the query may have a score on any document. Of keys a list may have one twice.
abbrev pub AnchorKeys : Type 0
AnchorKeys = Option (List (List ℕ))

-- those of what needs one of two
abbrev pub either : AnchorKeys → AnchorKeys → AnchorKeys
either None b = None
either (Some a) None = None
either (Some a) (Some b) = Some (a ++ b)

-- those of what needs both: of the first, unless it may be anywhere
abbrev pub unless_everywhere : AnchorKeys → AnchorKeys → AnchorKeys
unless_everywhere None b = b
unless_everywhere (Some a) b = Some a

-- a slot's keys; everywhere where it has a pattern
abbrev pub slot_anchors : List (List ℕ) → Bool → AnchorKeys
slot_anchors keys false = Some keys
slot_anchors keys true = None

abbrev pub has_some : List (List PatternBit) → Bool
has_some [] = false
has_some (p ∷ ps) = true

-- those of the first slot of a phrase that isn't Any
abbrev pub phrase_anchors : List Slot → AnchorKeys
phrase_anchors [] = Some []
phrase_anchors (Any ∷ slots) = phrase_anchors slots
phrase_anchors (Takes keys patterns ∷ slots) = slot_anchors keys (has_some patterns)

abbrev pub term_anchors : List (List Slot) → AnchorKeys
term_anchors [] = Some []
term_anchors (phrase ∷ phrases) = either (phrase_anchors phrase) (term_anchors phrases)

abbrev pub joined_anchors : Op → AnchorKeys → AnchorKeys → AnchorKeys
joined_anchors And a b = unless_everywhere a b
joined_anchors Or a b = either a b
joined_anchors Not a b = a
joined_anchors Minus a b = a

-- the first operand of a nearness
abbrev pub operand_anchors : List (List (List Slot)) → AnchorKeys
operand_anchors [] = Some []
operand_anchors (phrases ∷ operands) = term_anchors phrases

-- THE ANCHORS OF A QUERY
abbrev pub anchors : Reduced → AnchorKeys
anchors (Term phrases) = term_anchors phrases
anchors (Both op a b) = joined_anchors op (anchors a) (anchors b)
anchors (Weight tenths a) = anchors a
anchors (Above n a) = anchors a
anchors (Near operands span ordered) = operand_anchors operands
anchors (Within place a) = anchors a
anchors (Define phrases sum) = term_anchors phrases

-- each anchor has 1 to 255 bytes
abbrev pub are_anchor_keys : AnchorKeys → Bool
are_anchor_keys None = true
are_anchor_keys (Some keys) = list_all is_key keys

-- ---- documents

-- the keys of a document's words, whatever their streams
abbrev pub document_keys : List DocWord → List (List ℕ)
document_keys ws = filter_map (λ (w : DocWord). w.key) ws

-- WHETHER A QUERY IS LOOKED FOR where a document has these keys: it is so everywhere, or one of its anchors is among them.
abbrev pub is_found : AnchorKeys → List (List ℕ) → Bool
is_found None keys = true
is_found (Some anchored) keys = list_any (has_key keys) anchored

-- ---- computed examples

-- a OR b: under both
either_word : anchors (Both Or a_term b_term) ≡ Some (codes "a" ∷ codes "b" ∷ [])
either_word = refl

-- a AND b, a NOT b, (a > 5) * 2: under a
first_word : anchors (Both And a_term b_term) ≡ Some (codes "a" ∷ [])
first_word = refl

not_the_second : anchors (Both Not (Weight 20 (Above 5 a_term)) b_term) ≡ Some (codes "a" ∷ [])
not_the_second = refl

abbrev any_c : Reduced
any_c = Term ((Takes [] ((Chars (codes "c") ∷ Many ∷ []) ∷ []) ∷ []) ∷ [])

-- c%: everywhere; c% AND b: under b; c% OR b: everywhere
a_pattern : anchors any_c ≡ None
a_pattern = refl

the_second_word : anchors (Both And any_c b_term) ≡ Some (codes "b" ∷ [])
the_second_word = refl

a_pattern_or_a_word : anchors (Both Or any_c b_term) ≡ None
a_pattern_or_a_word = refl

-- `a`, then any word, then `b`
first_of_a_phrase : anchors (Term ((Takes (codes "a" ∷ []) [] ∷ Any ∷ Takes (codes "b" ∷ []) [] ∷ []) ∷ [])) ≡ Some (codes "a" ∷ [])
first_of_a_phrase = refl

-- the phrases `a` and `b`, as those of a term with its synonyms: under both
of_two_phrases : anchors (Term (key_phrase (codes "a") ∷ key_phrase (codes "b") ∷ [])) ≡ Some (codes "a" ∷ codes "b" ∷ [])
of_two_phrases = refl

-- NEAR((a,b),5) WITHIN SENTENCE: under the first
of_near : anchors (Within Sentence (Near ((key_phrase (codes "a") ∷ []) ∷ (key_phrase (codes "b") ∷ []) ∷ []) 5 false)) ≡ Some (codes "a" ∷ [])
of_near = refl

-- an anchor of 1 byte is a key, and an empty one isn't
of_no_byte : are_anchor_keys (Some (codes "a" ∷ [] ∷ [])) ≡ false
of_no_byte = refl

found_by_one : is_found (Some (codes "a" ∷ codes "b" ∷ [])) (codes "b" ∷ codes "c" ∷ []) ≡ true
found_by_one = refl

found_by_none : is_found (Some (codes "a" ∷ [])) (codes "b" ∷ codes "c" ∷ []) ≡ false
found_by_none = refl
