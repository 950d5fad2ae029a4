-- Texts, their lexemes and what they are read as.
use Rattle.std.specs.Prelude.{ℕ, ◌≡◌, false, List, [], ◌∷◌, codes, refl}
use lib.Utf8.{encode}
use Rattle.q_tree.specs.declared.queries.Leaf.{Leaf}
use Rattle.q_tree.specs.declared.queries.Leaf.TheVariants.{Phrase}
use Rattle.q_tree.specs.declared.queries.Word.{Word as TreeWord}
use Rattle.q_tree.specs.declared.queries.WordBit.TheVariants.{Chars, One, Many}
use Rattle.q_tree.specs.declared.flats.SumStep.TheVariants.{Number, Occurrence, Plus, Minus as Less, Times}
use Rattle.q_tree.specs.declared.queries.Op.TheVariants.{Or, And, Minus}
use Rattle.q_parse.specs.declared.faults.Cause.TheVariants.{OutOfRange, NotInProfile, Syntax}
use Rattle.q_tree.specs.Trees.{Single, Both, Near, Within, Define}
use Rattle.q_parse.specs.Faults.{TooLarge, Found, Fault}
use Rattle.q_parse.specs.Verdicts.{verdict}

abbrev word_at : ℕ → List ℕ → TreeWord
word_at place cs = record { place = place; bits = Chars cs ∷ [] }

abbrev leaf_at : ℕ → List ℕ → Leaf
leaf_at place cs = Phrase ((word_at place cs ∷ []) ∷ [])

or_and : verdict (codes "a or b AND c") ≡ Found (Both Or (Single (leaf_at 1 (codes "a"))) (Both And (Single (leaf_at 6 (codes "b"))) (Single (leaf_at 12 (codes "c")))))
unfolding encode
or_and = refl

fuzzy : verdict (codes "fuzzy(x)") ≡ Fault NotInProfile 1
unfolding encode
fuzzy = refl

comma : verdict (codes "a,b") ≡ Fault NotInProfile 2
unfolding encode
comma = refl

open_left : verdict (codes "(a") ≡ Fault Syntax 3
unfolding encode
open_left = refl

closed_twice : verdict (codes "a)") ≡ Fault Syntax 2
unfolding encode
closed_twice = refl

no_weight : verdict (codes "quick*0") ≡ Fault OutOfRange 7
unfolding encode
no_weight = refl

far : verdict (codes "NEAR((a,b),101)") ≡ Fault OutOfRange 12
unfolding encode
far = refl

foreign : verdict (codes "DEFINESCORE(quick, COMPLETION)") ≡ Fault NotInProfile 20
unfolding encode
foreign = refl

empty : verdict [] ≡ Fault Syntax 1
unfolding encode
empty = refl

escaped : verdict (codes "a\\&{b}}c}_%") ≡ Found (Single (Phrase (((record { place = 1; bits = Chars (codes "a&b}c") ∷ One ∷ Many ∷ [] }) ∷ []) ∷ [])))
unfolding encode
escaped = refl

score : verdict (codes "DEFINESCORE(a, OCCURRENCE * 10 + 5)") ≡ Found (Define (leaf_at 13 (codes "a") ∷ []) (Occurrence ∷ Number 10 ∷ Times ∷ Number 5 ∷ Plus ∷ []))
unfolding encode
score = refl

broader : verdict (codes "BT(a b, 2, my_th) = c") ≡ Fault Syntax 19
unfolding encode
broader = refl

level : verdict (codes "BT(a,9x)") ≡ Fault OutOfRange 6
unfolding encode
level = refl

chain : verdict (codes "a;(b|c) WITHIN my_sec") ≡ Found (Within (codes "my_sec") (Near ((leaf_at 1 (codes "a") ∷ []) ∷ (leaf_at 4 (codes "b") ∷ leaf_at 6 (codes "c") ∷ []) ∷ []) 100 false))
unfolding encode
chain = refl

seventeen : verdict (codes "NEAR((a,a,a,a,a,a,a,a,a,a,a,a,a,a,a,a,a),5)") ≡ Fault OutOfRange 38
unfolding encode
seventeen = refl

ninth : verdict (codes "DEFINESCORE(a,1-1-1-1-1-1-1-1-1-1)") ≡ Fault OutOfRange 32
unfolding encode
ninth = refl

-- in a sum the minus is the sign `-` alone
sum_with_sign : verdict (codes "DEFINESCORE(a,5 - 3)") ≡ Found (Define (leaf_at 13 (codes "a") ∷ []) (Number 5 ∷ Number 3 ∷ Less ∷ []))
unfolding encode
sum_with_sign = refl

sum_with_word : verdict (codes "DEFINESCORE(a,5 MINUS 3)") ≡ Fault Syntax 17
unfolding encode
sum_with_word = refl

-- so the word MINUS isn't the ninth operator either
no_ninth : verdict (codes "DEFINESCORE(a,1*1*1*1*1*1*1*1*1 MINUS 1)") ≡ Fault Syntax 33
unfolding encode
no_ninth = refl

-- between queries both are MINUS
word_and_sign : verdict (codes "a MINUS b - c") ≡ Found (Both Minus (Both Minus (Single (leaf_at 1 (codes "a"))) (Single (leaf_at 9 (codes "b")))) (Single (leaf_at 13 (codes "c"))))
unfolding encode
word_and_sign = refl

-- MINUS groups to the left
minus_to_the_left : verdict (codes "a-b-c") ≡ Found (Both Minus (Both Minus (Single (leaf_at 1 (codes "a"))) (Single (leaf_at 3 (codes "b")))) (Single (leaf_at 5 (codes "c"))))
unfolding encode
minus_to_the_left = refl

-- places count bytes: an é has two
counted_in_bytes : verdict (codes "é)") ≡ Fault Syntax 3
unfolding encode
counted_in_bytes = refl

-- a word is a function only in front of a `(`
no_function : verdict (codes "syn") ≡ Found (Single (leaf_at 1 (codes "syn")))
unfolding encode
no_function = refl

never_closed : verdict (codes "a {b") ≡ Fault Syntax 3
unfolding encode
never_closed = refl

thirty_three_open : verdict (codes "(((((((((((((((((((((((((((((((((") ≡ TooLarge
unfolding encode
thirty_three_open = refl

thirty_two_open : verdict (codes "((((((((((((((((((((((((((((((((") ≡ Fault Syntax 33
unfolding encode
thirty_two_open = refl

-- ---- causes

-- in a sum a word of other products is foreign, and any other plain word is no number
foreign_operator : verdict (codes "DEFINESCORE(a,5 IGNORE") ≡ Fault NotInProfile 17
unfolding encode
foreign_operator = refl

one_word : verdict (codes "DEFINESCORE(a,IGNORE+1)") ≡ Fault OutOfRange 15
unfolding encode
one_word = refl

-- a comma behind the sixteenth operand of a chain, and the NEAR behind it
comma_in_chain : verdict (codes "a;a;a;a;a;a;a;a;a;a;a;a;a;a;a;a,") ≡ Fault NotInProfile 32
unfolding encode
comma_in_chain = refl

chain_of_seventeen : verdict (codes "a;a;a;a;a;a;a;a;a;a;a;a;a;a;a;a;a") ≡ Fault OutOfRange 32
unfolding encode
chain_of_seventeen = refl

-- a name where the level has to be the last, and a level where there is none
level_behind_name : verdict (codes "BT(a,x,5)") ≡ Fault NotInProfile 7
unfolding encode
level_behind_name = refl

no_level : verdict (codes "SYN(a,5)") ≡ Fault Syntax 7
unfolding encode
no_level = refl

-- an escaped word, an operator and a refused word are no plain words
braced_number : verdict (codes "a * {5}") ≡ Fault Syntax 5
unfolding encode
braced_number = refl

operator_for_number : verdict (codes "a*and") ≡ Fault Syntax 3
unfolding encode
operator_for_number = refl

refused_for_number : verdict (codes "a*accum") ≡ Fault NotInProfile 3
unfolding encode
refused_for_number = refl

wildcard_for_number : verdict (codes "a * 1%") ≡ Fault OutOfRange 5
unfolding encode
wildcard_for_number = refl

-- behind a section there is neither NOT nor a weight
not_behind_section : verdict (codes "a WITHIN s NOT b") ≡ Fault Syntax 12
unfolding encode
not_behind_section = refl

-- ---- escapes

no_pair : verdict (codes "{a}}") ≡ Fault Syntax 1
unfolding encode
no_pair = refl

a_pair : verdict (codes "{a}}}") ≡ Found (Single (leaf_at 1 (codes "a}")))
unfolding encode
a_pair = refl

nothing_escaped : verdict (codes "a\\") ≡ Fault Syntax 2
unfolding encode
nothing_escaped = refl

no_character : verdict (codes "{}") ≡ Found (Single (Phrase ((record { place = 1; bits = [] } ∷ []) ∷ [])))
unfolding encode
no_character = refl
