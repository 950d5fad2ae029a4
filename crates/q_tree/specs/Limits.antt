-- Which queries as they are written keep the limits of the grammar.
use Rattle.std.specs.Prelude.{ℕ, ◌≡◌, ◌+◌, nat_le, Bool, true, false, ◌&&◌, List, [], ◌∷◌, length, codes, refl}
use Rattle.std.specs.List.{list_all}
use Rattle.q_tree.specs.declared.queries.WordBit.{WordBit}
use Rattle.q_tree.specs.declared.queries.WordBit.TheVariants.{Chars, One, Many}
use Rattle.q_tree.specs.declared.queries.Word.{Word}
use Rattle.q_tree.specs.declared.queries.Leaf.{Leaf}
use Rattle.q_tree.specs.declared.queries.Leaf.TheVariants.{Phrase, Thes}
use Rattle.q_tree.specs.declared.queries.Relation.TheVariants.{Syn}
use Rattle.q_tree.specs.Soundness.{is_between, is_sum}
use Rattle.q_tree.specs.Trees.{Tree, Single, Both, Weight, Above, Near, Within, Define}

-- how many bytes a query text has at most
abbrev pub query_limit : ℕ
query_limit = 4000

-- ---- words

-- how many bytes the characters of a word have
abbrev pub word_length : List WordBit → ℕ
word_length [] = 0
word_length (Chars text ∷ bits) = length text + word_length bits
word_length (One ∷ bits) = word_length bits
word_length (Many ∷ bits) = word_length bits

abbrev pub has_wildcard : List WordBit → Bool
has_wildcard [] = false
has_wildcard (Chars text ∷ bits) = has_wildcard bits
has_wildcard (One ∷ bits) = true
has_wildcard (Many ∷ bits) = true

-- a word is no longer than a query text
abbrev pub word_keeps_limit : Word → Bool
word_keeps_limit w = nat_le (word_length w.bits) query_limit

-- ---- leaves and trees

abbrev pub leaf_keeps_limits : Leaf → Bool
leaf_keeps_limits (Phrase slots) = list_all (λ slot. list_all word_keeps_limit slot) slots
leaf_keeps_limits (Thes relation words level thesaurus) = list_all word_keeps_limit words && is_between 1 99 level

abbrev pub leaves_keep_limits : List Leaf → Bool
leaves_keep_limits leaves = list_all leaf_keeps_limits leaves

-- WHETHER A QUERY KEEPS THE LIMITS: words that a query text may have, weights from 0.1 to 10, thresholds and spans up to 100, two to
-- 16 operands of a nearness, and sums of at most eight operators and of numbers up to 1000.
abbrev pub keeps_limits : Tree → Bool
keeps_limits (Single leaf) = leaf_keeps_limits leaf
keeps_limits (Both op a b) = keeps_limits a && keeps_limits b
keeps_limits (Weight tenths a) = is_between 1 100 tenths && keeps_limits a
keeps_limits (Above n a) = nat_le n 100 && keeps_limits a
keeps_limits (Near operands span ordered) = is_between 2 16 (length operands) && list_all leaves_keep_limits operands && nat_le span 100
keeps_limits (Within name a) = keeps_limits a
keeps_limits (Define leaves sum) = leaves_keep_limits leaves && is_sum sum

-- ---- computed examples

abbrev word_a : Word
word_a = record { place = 1; bits = Chars (codes "a") ∷ Many ∷ [] }

a_wildcard : has_wildcard word_a.bits ≡ true
a_wildcard = refl

weight_10 : keeps_limits (Weight 100 (Single (Phrase ((word_a ∷ []) ∷ [])))) ≡ true
weight_10 = refl

weight_of_11 : keeps_limits (Weight 110 (Single (Phrase ((word_a ∷ []) ∷ [])))) ≡ false
weight_of_11 = refl

level_100 : keeps_limits (Single (Thes Syn (word_a ∷ []) 100 (codes "default"))) ≡ false
level_100 = refl

one_operand : keeps_limits (Near ((Phrase ((word_a ∷ []) ∷ []) ∷ []) ∷ []) 5 false) ≡ false
one_operand = refl
