-- How a query is reduced for an index: words become keys, stopwords take any word, and what has nothing to find falls away.
use Rattle.std.specs.Prelude.{ℕ, ◌≡◌, ◌+◌, Bool, true, false, not, List, [], ◌∷◌, ◌++◌, map, filter, bytes_eq, Option, Some, None, codes, refl}
use Rattle.std.specs.Bool.{if◌then◌else◌}
use Rattle.std.specs.List.{flat_map}
use Rattle.std.specs.Option.{option_map}
use Rattle.std.specs.Str.{chars}
use Rattle.tx_chars.specs.Keys.{key_of}
use Rattle.tx_lexer.specs.CharSets.{has}
use Rattle.tx_lexer.specs.declared.options.LexerOptions.{LexerOptions}
use Rattle.tx_lexer.specs.declared.tokens.Token.{Token}
use Rattle.tx_lexer.specs.Tokens.{tokens, rules}
use Rattle.tx_stop.specs.StopKeys.{is_stop, with_key}
use Rattle.tx_tags.specs.declared.groups.SectionKind.{SectionKind}
use Rattle.tx_tags.specs.declared.groups.SectionKind.TheVariants.{Zone as ZoneKind}
use Rattle.tx_tags.specs.declared.groups.Section.{Section}
use Rattle.tx_tags.specs.Groups.{SectionGroup, is_field}
use Rattle.q_tree.specs.declared.flats.PatternBit.{PatternBit}
use Rattle.q_tree.specs.declared.flats.PatternBit.TheVariants.{Chars as PatternChars, One as PatternOne, Many as PatternMany}
use Rattle.q_tree.specs.declared.flats.Slot.{Slot}
use Rattle.q_tree.specs.declared.flats.Slot.TheVariants.{Any, Takes}
use Rattle.q_tree.specs.declared.flats.Place.{Place}
use Rattle.q_tree.specs.declared.flats.Place.TheVariants.{Zone, Field, Sentence, Paragraph}
use Rattle.q_tree.specs.declared.flats.SumStep.{SumStep}
use Rattle.q_tree.specs.declared.queries.WordBit.{WordBit}
use Rattle.q_tree.specs.declared.queries.WordBit.TheVariants.{Chars, One, Many}
use Rattle.q_tree.specs.declared.queries.Word.{Word}
use Rattle.q_tree.specs.declared.queries.Leaf.{Leaf}
use Rattle.q_tree.specs.declared.queries.Leaf.TheVariants.{Phrase, Thes}
use Rattle.q_tree.specs.declared.queries.Relation.{Relation}
use Rattle.q_tree.specs.declared.queries.Op.{Op}
use Rattle.q_tree.specs.declared.queries.Op.TheVariants.{Or, And, Not, Minus}
use Rattle.th_graph.specs.declared.pairs.TermPair.{TermPair}
use Rattle.th_graph.specs.Terms.{term_of}
use Rattle.th_graph.specs.Expansions.{expansion}
use Rattle.q_tree.specs.Limits.{has_wildcard}
use Rattle.q_tree.specs.Trees.{Tree, Single, Both, Weight, Above, Near, Within, Define}
use Rattle.q_tree.specs.ReducedQueries.{Reduced, Term, Both as ReducedBoth, Weight as ReducedWeight, Above as ReducedAbove, Near as ReducedNear, Within as ReducedWithin, Define as ReducedDefine}

-- By what a query is reduced: the options of the index's lexer, its stop keys and its section group; and the thesauri that are there among
-- those that the query names, by their names.
pub record Context : Type 0 where
  pub lexer : LexerOptions
  pub stop : List (List ℕ)
  pub group : SectionGroup
  pub thesauri : List (List ℕ × List TermPair)

-- ---- words

-- the text of a word without wildcards
abbrev pub word_text : List WordBit → List ℕ
word_text [] = []
word_text (Chars text ∷ bits) = text ++ word_text bits
word_text (bit ∷ bits) = word_text bits

-- the keys of its tokens
abbrev pub word_keys : Context → Word → List (List ℕ)
word_keys x w = map (λ (t : Token). t.key) (tokens (rules x.lexer) (chars (word_text w.bits)))

-- a stopword takes any word, and what is no stopword its key
abbrev pub key_slot : Context → List ℕ → Slot
key_slot x key = if is_stop x.stop key then Any else Takes (key ∷ []) []

-- Of a wildcard word each run of characters is keyed by itself, without skipjoins, and left out where its key is empty.
abbrev pub literal : List ℕ → List PatternBit
literal [] = []
literal (b ∷ bs) = PatternChars (b ∷ bs) ∷ []

abbrev pub pattern_bit : Context → WordBit → List PatternBit
pattern_bit x (Chars text) = literal (key_of x.lexer.base_letter x.lexer.mixed_case (filter (λ c. not (has x.lexer.skipjoins c)) (chars text)))
pattern_bit x One = PatternOne ∷ []
pattern_bit x Many = PatternMany ∷ []

abbrev pub pattern : Context → Word → List PatternBit
pattern x w = flat_map (pattern_bit x) w.bits

-- the slots of a word that stands by itself: one with its pattern, or one for each token
abbrev pub word_slots : Context → Word → List Slot
word_slots x w = if has_wildcard w.bits then Takes [] (pattern x w ∷ []) ∷ [] else map (key_slot x) (word_keys x w)

-- ---- words that EQUIV joins

abbrev pub joined_keys : Context → Word → List (List ℕ)
joined_keys x w = if has_wildcard w.bits then [] else filter (λ key. not (is_stop x.stop key)) (word_keys x w)

abbrev pub joined_patterns : Context → Word → List (List PatternBit)
joined_patterns x w = if has_wildcard w.bits then pattern x w ∷ [] else []

-- keys in rising order, each once
abbrev pub in_order : List (List ℕ) → List (List ℕ)
in_order [] = []
in_order (key ∷ keys) = with_key key (in_order keys)

-- stopwords are left out, and a slot of stopwords alone takes any word
abbrev pub slot_of : List (List ℕ) → List (List PatternBit) → Slot
slot_of [] [] = Any
slot_of keys patterns = Takes keys patterns

abbrev pub joined_slot : Context → List Word → Slot
joined_slot x ws = slot_of (in_order (flat_map (joined_keys x) ws)) (flat_map (joined_patterns x) ws)

-- ---- phrases

-- the slots of the words that stand at one place of a phrase
abbrev pub place_slots : Context → List Word → List Slot
place_slots x (w ∷ []) = word_slots x w
place_slots x ws = joined_slot x ws ∷ []

-- Slots that take any word are dropped at the front and at the end.
abbrev pub front_dropped : List Slot → List Slot
front_dropped [] = []
front_dropped (Any ∷ slots) = front_dropped slots
front_dropped (Takes keys patterns ∷ slots) = Takes keys patterns ∷ slots

abbrev pub unless_last_any : Slot → List Slot → List Slot
unless_last_any Any [] = []
unless_last_any slot slots = slot ∷ slots

abbrev pub end_dropped : List Slot → List Slot
end_dropped [] = []
end_dropped (slot ∷ slots) = unless_last_any slot (end_dropped slots)

abbrev pub trimmed : List Slot → List Slot
trimmed slots = end_dropped (front_dropped slots)

-- a phrase without slots is none
abbrev pub phrases_of_slots : List Slot → List (List Slot)
phrases_of_slots [] = []
phrases_of_slots (slot ∷ slots) = (slot ∷ slots) ∷ []

-- ---- operators of thesauri

-- a blank, where a word follows
abbrev pub blank_before : List Word → List ℕ
blank_before [] = []
blank_before (w ∷ ws) = 32 ∷ []

-- the words of an operator, which have no wildcards, with a blank between two
abbrev pub words_text : List Word → List ℕ
words_text [] = []
words_text (w ∷ ws) = word_text w.bits ++ (blank_before ws ++ words_text ws)

-- the pairs of the thesaurus of a name, if it is there
abbrev pub thesaurus_named : List ℕ → List (List ℕ × List TermPair) → Option (List TermPair)
thesaurus_named name [] = None
thesaurus_named name (t ∷ ts) = if bytes_eq t.0 name then Some t.1 else thesaurus_named name ts

-- what the words of an operator expand to, in the order of the terms' bytes; nothing where their text stands for no term
abbrev pub expanded : List TermPair → Relation → ℕ → Option (List ℕ) → List (List ℕ)
expanded ps relation level None = []
expanded ps relation level (Some term) = expansion ps relation level term

abbrev pub operator_terms : List TermPair → Relation → ℕ → List Word → List (List ℕ)
operator_terms ps relation level words = expanded ps relation level (term_of (chars (words_text words)))

-- a term is reduced as the phrase of its tokens
abbrev pub slots_of_term : Context → List ℕ → List Slot
slots_of_term x term = map (key_slot x) (map (λ (t : Token). t.key) (tokens (rules x.lexer) (chars term)))

abbrev pub term_phrases : Context → List ℕ → List (List Slot)
term_phrases x term = phrases_of_slots (trimmed (slots_of_term x term))

abbrev pub operator_phrases : Context → Option (List TermPair) → Relation → ℕ → List Word → List (List Slot)
operator_phrases x None relation level words = []
operator_phrases x (Some ps) relation level words = flat_map (term_phrases x) (operator_terms ps relation level words)

-- The phrases of a leaf: one or none of words, and one for each term that an operator of thesauri gives, unless it has none.
abbrev pub leaf_phrases : Context → Leaf → List (List Slot)
leaf_phrases x (Phrase places) = phrases_of_slots (trimmed (flat_map (place_slots x) places))
leaf_phrases x (Thes relation words level thesaurus) = operator_phrases x (thesaurus_named thesaurus x.thesauri) relation level words

-- the phrases of an operand
abbrev pub operand_phrases : Context → List Leaf → List (List Slot)
operand_phrases x leaves = flat_map (leaf_phrases x) leaves

-- ---- operators over what may be nothing

-- a term without phrases is nothing
abbrev pub term : List (List Slot) → Option Reduced
term [] = None
term (p ∷ ps) = Some (Term (p ∷ ps))

-- what is left of an operator whose left side is nothing
abbrev pub right_alone : Op → Reduced → Option Reduced
right_alone And b = Some b
right_alone Or b = Some b
right_alone Not b = None
right_alone Minus b = None

-- AND and OR with one side nothing are the other; NOT and MINUS with the right side nothing are the left, and with the left side
-- nothing they are nothing.
abbrev pub both_query : Op → Option Reduced → Option Reduced → Option Reduced
both_query op None None = None
both_query op None (Some b) = right_alone op b
both_query op (Some a) None = Some a
both_query op (Some a) (Some b) = Some (ReducedBoth op a b)

-- whether an operand has a phrase
abbrev pub has_phrase : List (List Slot) → Bool
has_phrase [] = false
has_phrase (p ∷ ps) = true

-- the phrases of each operand that has some
abbrev pub kept_operands : Context → List (List Leaf) → List (List (List Slot))
kept_operands x operands = filter has_phrase (map (operand_phrases x) operands)

-- Of NEAR the operands that are nothing are dropped; one that is left is itself, and without any it is nothing.
abbrev pub near_query : ℕ → Bool → List (List (List Slot)) → Option Reduced
near_query span ordered [] = None
near_query span ordered (o ∷ []) = Some (Term o)
near_query span ordered (o ∷ p ∷ os) = Some (ReducedNear (o ∷ p ∷ os) span ordered)

-- ---- sections

-- a zone by its name, a field by its stream
abbrev pub zone_or_field : SectionKind → ℕ → List ℕ → Place
zone_or_field ZoneKind stream name = Zone name
zone_or_field kind stream name = Field stream

-- the section of a name, where the next field has this stream
abbrev pub find_section : ℕ → List Section → List ℕ → Option Place
find_section stream [] name = None
find_section stream (s ∷ ss) name =
    if bytes_eq s.name name then Some (zone_or_field s.kind stream name)
    else find_section (if is_field s.kind then stream + 1 else stream) ss name

abbrev pub special : Bool → Place → Option Place
special has_it place = if has_it then Some place else None

-- what a name says in WITHIN: sentences and paragraphs where the group has them, else a section
abbrev pub named_place : SectionGroup → List ℕ → Option Place
named_place g name =
    if bytes_eq name (codes "sentence") then special g.sentence Sentence
    else (if bytes_eq name (codes "paragraph") then special g.paragraph Paragraph
    else find_section 1 g.sections name)

abbrev pub within_place : Option Place → Option Reduced → Option Reduced
within_place None q = None
within_place (Some place) q = option_map (ReducedWithin place) q

abbrev pub define_query : List SumStep → List (List Slot) → Option Reduced
define_query sum [] = None
define_query sum (p ∷ ps) = Some (ReducedDefine (p ∷ ps) sum)

-- ---- queries

-- THE REDUCED QUERY. None is a query that finds nothing. What it is where the query has a fault doesn't matter.
abbrev pub reduced : Context → Tree → Option Reduced
reduced x (Single leaf) = term (leaf_phrases x leaf)
reduced x (Both op a b) = both_query op (reduced x a) (reduced x b)
reduced x (Weight tenths a) = option_map (ReducedWeight tenths) (reduced x a)
reduced x (Above n a) = option_map (ReducedAbove n) (reduced x a)
reduced x (Near operands span ordered) = near_query span ordered (kept_operands x operands)
reduced x (Within name a) = within_place (named_place x.group name) (reduced x a)
reduced x (Define leaves sum) = define_query sum (operand_phrases x leaves)

-- ---- computed examples; those of whole queries are in `Examples.antt`

nothing_and_a_part : (q : Reduced) → both_query And None (Some q) ≡ Some q
nothing_and_a_part q = refl

nothing_minus_a_part : (q : Reduced) → both_query Minus None (Some q) ≡ None
nothing_minus_a_part q = refl

one_operand_left : (p : List Slot) → near_query 5 true ((p ∷ []) ∷ []) ≡ Some (Term (p ∷ []))
one_operand_left p = refl

any_between : trimmed (Any ∷ Takes [] [] ∷ Any ∷ Takes [] [] ∷ Any ∷ []) ≡ Takes [] [] ∷ Any ∷ Takes [] [] ∷ []
any_between = refl

no_thesaurus : (x : Context) (relation : Relation) (words : List Word) → operator_phrases x None relation 1 words ≡ []
no_thesaurus x relation words = refl

no_such_sentences : special false Sentence ≡ None
no_such_sentences = refl
