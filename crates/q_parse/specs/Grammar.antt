-- The grammar of queries: what is written, as it is written, and what it means.
use Rattle.std.specs.Prelude.{ℕ, ◌≡◌, ◌+◌, ◌<◌, ◌≤◌, Bool, true, false, List, [], ◌∷◌, ◌++◌, length, take, codes, refl}
use Rattle.q_tree.specs.declared.queries.Relation.{Relation}
use Rattle.q_tree.specs.declared.queries.Relation.TheVariants.{Broader, Narrower}
use Rattle.q_tree.specs.declared.queries.Word.{Word as TreeWord}
use Rattle.q_tree.specs.declared.queries.Leaf.{Leaf}
use Rattle.q_tree.specs.declared.queries.Leaf.TheVariants.{Phrase, Thes as Terms_of}
use Rattle.q_tree.specs.declared.flats.SumStep.{SumStep}
use Rattle.q_tree.specs.declared.flats.SumStep.TheVariants.{Plus, Minus as Less, Times}
use Rattle.q_lex.specs.declared.lexemes.Written.{Written}
use Rattle.q_tree.specs.declared.queries.Op.{Op}
use Rattle.q_tree.specs.declared.queries.Op.TheVariants.{Or as OrOp, And as AndOp, Not as NotOp, Minus as MinusOp}
use Rattle.q_lex.specs.declared.lexemes.Infix.{Infix}
use Rattle.q_lex.specs.declared.lexemes.Infix.TheVariants.{Or, And, Not, MinusWord, MinusSign}
use Rattle.q_lex.specs.declared.lexemes.Lexeme.{Lexeme}
use Rattle.q_lex.specs.declared.lexemes.Lexeme.TheVariants.{Word, Operator, Equiv, Near, Within, Star, Greater, Open, Close, Comma, Define, Thes}
use Rattle.q_tree.specs.Trees.{Tree, Single, Both, Weight, Above, Near as NearTree, Within as WithinTree, Define as DefineTree}
use Rattle.q_tree.specs.Limits.{has_wildcard}
use Rattle.q_lex.specs.Words.{GrammarRules, strict, takes_tenths, takes_whole, takes_level, takes_atom, takes_plus, may_add, may_count, tenths_of, whole_of, atom_of, is_name, name_of, is_flag, says}

-- A phrase as it is written: a word, a word more in a slot of its own, or one more in the last slot.
pub data PhraseText : Type 0 where
  OneWord : Written → PhraseText
  NextSlot : PhraseText → Written → PhraseText
  SameSlot : PhraseText → Written → PhraseText

abbrev pub phrase_spelling : PhraseText → List Lexeme
phrase_spelling (OneWord w) = Word w ∷ []
phrase_spelling (NextSlot p w) = phrase_spelling p ++ Word w ∷ []
phrase_spelling (SameSlot p w) = phrase_spelling p ++ Equiv ∷ Word w ∷ []

-- the slots with one word more in the last one
abbrev pub put_last : List (List TreeWord) → TreeWord → List (List TreeWord)
put_last [] w = (w ∷ []) ∷ []
put_last (s ∷ []) w = (s ++ w ∷ []) ∷ []
put_last (s ∷ t ∷ ss) w = s ∷ put_last (t ∷ ss) w

abbrev pub slots_of_phrase : PhraseText → List (List TreeWord)
slots_of_phrase (OneWord w) = (w.word ∷ []) ∷ []
slots_of_phrase (NextSlot p w) = slots_of_phrase p ++ (w.word ∷ []) ∷ []
slots_of_phrase (SameSlot p w) = put_last (slots_of_phrase p) w.word

-- the words of a thesaurus operator, without wildcards
pub data WordsText : Type 0 where
  FirstWord : Written → WordsText
  MoreWords : WordsText → Written → WordsText

abbrev pub words_spelling : WordsText → List Lexeme
words_spelling (FirstWord w) = Word w ∷ []
words_spelling (MoreWords ws w) = words_spelling ws ++ Word w ∷ []

abbrev pub words_of : WordsText → List TreeWord
words_of (FirstWord w) = w.word ∷ []
words_of (MoreWords ws w) = words_of ws ++ w.word ∷ []

abbrev pub AreWords : WordsText → Type 0
AreWords (FirstWord w) = has_wildcard w.word.bits ≡ false
AreWords (MoreWords ws w) = AreWords ws × (has_wildcard w.word.bits ≡ false)

-- what follows them: a level and a thesaurus
pub data ThesTail : Type 0 where
  NoTail : ThesTail
  NameTail : Written → ThesTail
  LevelTail : Written → ThesTail
  BothTail : Written → Written → ThesTail

abbrev pub thes_tail_spelling : ThesTail → List Lexeme
thes_tail_spelling NoTail = Close ∷ []
thes_tail_spelling (NameTail w) = Comma ∷ Word w ∷ Close ∷ []
thes_tail_spelling (LevelTail w) = Comma ∷ Word w ∷ Close ∷ []
thes_tail_spelling (BothTail w v) = Comma ∷ Word w ∷ Comma ∷ Word v ∷ Close ∷ []

-- BT and NT may have a level, SYN and PT not
abbrev pub has_level : Relation → Bool
has_level Broader = true
has_level Narrower = true
has_level relation = false

abbrev pub IsThesTail : GrammarRules → Relation → ThesTail → Type 0
IsThesTail r relation NoTail = Unit {0}
IsThesTail r relation (NameTail w) = is_name w ≡ true
IsThesTail r relation (LevelTail w) = (has_level relation ≡ true) × (takes_level r w ≡ true)
IsThesTail r relation (BothTail w v) = (has_level relation ≡ true) × (takes_level r w ≡ true) × (is_name v ≡ true)

abbrev pub default_thesaurus : List ℕ
default_thesaurus = codes "default"

abbrev pub tail_level : ThesTail → ℕ
tail_level NoTail = 1
tail_level (NameTail w) = 1
tail_level (LevelTail w) = whole_of w
tail_level (BothTail w v) = whole_of w

abbrev pub tail_name : ThesTail → List ℕ
tail_name NoTail = default_thesaurus
tail_name (NameTail w) = name_of w
tail_name (LevelTail w) = default_thesaurus
tail_name (BothTail w v) = name_of v

-- a phrase, or an operator of a thesaurus
pub data LeafText : Type 0 where
  PhraseLeaf : PhraseText → LeafText
  ThesLeaf : Relation → WordsText → ThesTail → LeafText

abbrev pub leaf_spelling : LeafText → List Lexeme
leaf_spelling (PhraseLeaf p) = phrase_spelling p
leaf_spelling (ThesLeaf relation ws tail) = Thes relation ∷ Open ∷ (words_spelling ws ++ thes_tail_spelling tail)

abbrev pub leaf : LeafText → Leaf
leaf (PhraseLeaf p) = Phrase (slots_of_phrase p)
leaf (ThesLeaf relation ws tail) = Terms_of relation (words_of ws) (tail_level tail) (tail_name tail)

abbrev pub IsLeaf : GrammarRules → LeafText → Type 0
IsLeaf r (PhraseLeaf p) = Unit {0}
IsLeaf r (ThesLeaf relation ws tail) = AreWords ws × IsThesTail r relation tail

-- A sum as it is written. An operator is a lexeme.
pub data SumText : Type 0 where
  AtomText : Written → SumText
  SumGroup : SumText → SumText
  SumBoth : Lexeme → SumText → SumText → SumText

abbrev pub sum_spelling : SumText → List Lexeme
sum_spelling (AtomText w) = Word w ∷ []
sum_spelling (SumGroup s) = Open ∷ (sum_spelling s ++ Close ∷ [])
sum_spelling (SumBoth l s t) = sum_spelling s ++ l ∷ sum_spelling t

-- Whether the lexeme is an operator of a sum: the plus is the plain word `+`, and the minus is the sign `-`. The word MINUS is none,
-- though it means the same as `-` between queries.
abbrev pub is_sum_sign : GrammarRules → Lexeme → Bool
is_sum_sign r (Word w) = takes_plus r w
is_sum_sign r (Operator MinusSign) = true
is_sum_sign r Star = true
is_sum_sign r l = false

-- the operator as a step of the postfix form
abbrev pub sign_step : Lexeme → SumStep
sign_step (Operator MinusSign) = Less
sign_step Star = Times
sign_step l = Plus

abbrev pub step_tightness : SumStep → ℕ
step_tightness Times = 2
step_tightness step = 1

-- in postfix form
abbrev pub postfix_form : SumText → List SumStep
postfix_form (AtomText w) = atom_of w ∷ []
postfix_form (SumGroup s) = postfix_form s
postfix_form (SumBoth l s t) = (postfix_form s ++ postfix_form t) ++ sign_step l ∷ []

-- how many operators the sum has
abbrev pub operator_count : SumText → ℕ
operator_count (AtomText w) = 0
operator_count (SumGroup s) = operator_count s
operator_count (SumBoth l s t) = operator_count s + 1 + operator_count t

-- The sum is one of the grammar, and its operators outside of parentheses bind at least as tight as k. What stands left of an
-- operator binds at least as tight as it, what stands right of it binds tighter: so chains group to the left.
abbrev pub SumFits : GrammarRules → ℕ → SumText → Type 0
SumFits r k (AtomText w) = takes_atom r w ≡ true
SumFits r k (SumGroup s) = SumFits r 1 s
SumFits r k (SumBoth l s t) = (is_sum_sign r l ≡ true) × (k ≤ step_tightness (sign_step l)) × SumFits r (step_tightness (sign_step l)) s × SumFits r (step_tightness (sign_step l) + 1) t

-- what follows the operands of NEAR: a span, and whether they are ordered
pub data NearTail : Type 0 where
  NoSpan : NearTail
  Span : Written → NearTail
  Ordered : Written → Written → NearTail

abbrev pub near_tail_spelling : NearTail → List Lexeme
near_tail_spelling NoSpan = Close ∷ []
near_tail_spelling (Span w) = Comma ∷ Word w ∷ Close ∷ []
near_tail_spelling (Ordered w v) = Comma ∷ Word w ∷ Comma ∷ Word v ∷ Close ∷ []

abbrev pub near_span : NearTail → ℕ
near_span NoSpan = 100
near_span (Span w) = whole_of w
near_span (Ordered w v) = whole_of w

abbrev pub near_ordered : NearTail → Bool
near_ordered (Ordered w v) = says (codes "true") v
near_ordered tail = false

abbrev pub IsNearTail : GrammarRules → NearTail → Type 0
IsNearTail r NoSpan = Unit {0}
IsNearTail r (Span w) = takes_whole r 0 100 w ≡ true
IsNearTail r (Ordered w v) = (takes_whole r 0 100 w ≡ true) × (is_flag v ≡ true)

-- What an operator between two queries means. The word MINUS and the sign `-` mean the same.
abbrev pub op_of : Infix → Op
op_of Or = OrOp
op_of And = AndOp
op_of Not = NotOp
op_of MinusWord = MinusOp
op_of MinusSign = MinusOp

-- A query as it is written, with its parentheses: a leaf, a group, two queries with an operator between, a weight, a threshold, a
-- section, terms with NEAR between, operands with commas between, NEAR in its form as a function, or DEFINESCORE.
pub data Text : Type 0 where
  LeafPart : LeafText → Text
  GroupText : Text → Text
  BothText : Infix → Text → Text → Text
  WeightText : Text → Written → Text
  AboveText : Text → Written → Text
  WithinText : Text → Written → Text
  ChainText : Text → Text → Text
  ListText : Text → Text → Text
  NearText : Text → NearTail → Text
  DefineText : Text → SumText → Text

abbrev pub spelling : Text → List Lexeme
spelling (LeafPart p) = leaf_spelling p
spelling (GroupText t) = Open ∷ (spelling t ++ Close ∷ [])
spelling (BothText op s t) = spelling s ++ Operator op ∷ spelling t
spelling (WeightText t w) = spelling t ++ Star ∷ Word w ∷ []
spelling (AboveText t w) = spelling t ++ Greater ∷ Word w ∷ []
spelling (WithinText t w) = spelling t ++ Within ∷ Word w ∷ []
spelling (ChainText s t) = spelling s ++ Near ∷ spelling t
spelling (ListText s t) = spelling s ++ Comma ∷ spelling t
spelling (NearText t tail) = Near ∷ Open ∷ Open ∷ (spelling t ++ Close ∷ near_tail_spelling tail)
spelling (DefineText t s) = Define ∷ Open ∷ (spelling t ++ Comma ∷ (sum_spelling s ++ Close ∷ []))

-- the phrases of terms, and the operands of a chain or a list
abbrev pub phrases : Text → List Leaf
phrases (LeafPart p) = leaf p ∷ []
phrases (GroupText t) = phrases t
phrases (BothText op s t) = phrases s ++ phrases t
phrases t = []

abbrev pub operands : Text → List (List Leaf)
operands (ChainText s t) = operands s ++ phrases t ∷ []
operands (ListText s t) = operands s ++ phrases t ∷ []
operands t = phrases t ∷ []

-- The tree of the query. Its parentheses are gone.
abbrev pub meaning : Text → Tree
meaning (LeafPart p) = Single (leaf p)
meaning (GroupText t) = meaning t
meaning (BothText op s t) = Both (op_of op) (meaning s) (meaning t)
meaning (WeightText t w) = Weight (tenths_of w) (meaning t)
meaning (AboveText t w) = Above (whole_of w) (meaning t)
meaning (WithinText t w) = WithinTree (name_of w) (meaning t)
meaning (ChainText s t) = NearTree (operands s ++ phrases t ∷ []) 100 false
meaning (ListText s t) = meaning t
meaning (NearText t tail) = NearTree (operands t) (near_span tail) (near_ordered tail)
meaning (DefineText t s) = DefineTree (phrases t) (postfix_form s)

-- how tight an operator binds
abbrev pub tightness : Infix → ℕ
tightness Or = 1
tightness And = 2
tightness Not = 4
tightness MinusWord = 5
tightness MinusSign = 5

-- a term, or, where `many`, terms with OR between them
abbrev pub Terms : GrammarRules → Bool → Text → Type 0
Terms r many (LeafPart p) = IsLeaf r p
Terms r many (GroupText t) = Terms r true t
Terms r true (BothText Or s t) = Terms r true s × Terms r false t
Terms r many t = ⊥

-- terms with NEAR between them
abbrev pub IsNearChain : GrammarRules → Text → Type 0
IsNearChain r (ChainText s t) = IsNearChain r s × Terms r false t × (may_add r (length (operands s)) ≡ true)
IsNearChain r t = Terms r false t

-- lists of terms with commas between them
abbrev pub IsList : GrammarRules → Text → Type 0
IsList r (ListText s t) = IsList r s × Terms r true t × (may_add r (length (operands s)) ≡ true)
IsList r t = Terms r true t

-- The text is one of the grammar, and its operators outside of parentheses bind at least as tight as k: 1 for OR, 2 for AND, 3 for
-- WITHIN, 4 for NOT, 5 for MINUS, 6 for weights and thresholds. What stands left of an operator binds at least as tight as it,
-- what stands right of it binds tighter: so chains group to the left.
abbrev pub QueryFits : GrammarRules → ℕ → Text → Type 0
QueryFits r k (LeafPart p) = IsLeaf r p
QueryFits r k (GroupText t) = QueryFits r 1 t
QueryFits r k (BothText op s t) = (k ≤ tightness op) × QueryFits r (tightness op) s × QueryFits r (tightness op + 1) t
QueryFits r k (WeightText t w) = (k ≤ 6) × QueryFits r 6 t × (takes_tenths r w ≡ true)
QueryFits r k (AboveText t w) = (k ≤ 6) × QueryFits r 6 t × (takes_whole r 0 100 w ≡ true)
QueryFits r k (WithinText t w) = (k ≤ 3) × QueryFits r 3 t × (is_name w ≡ true)
QueryFits r k (ChainText s t) = IsNearChain r s × Terms r false t × (may_add r (length (operands s)) ≡ true)
QueryFits r k (ListText s t) = ⊥
QueryFits r k (NearText t tail) = (2 ≤ length (operands t)) × IsList r t × IsNearTail r tail
QueryFits r k (DefineText t s) = Terms r true t × SumFits r 1 s × (may_count r (operator_count s) ≡ true)

-- the lexemes are a query
pub record IsQuery (r : GrammarRules) (ls : List Lexeme) (tree : Tree) : Type 0 where
  pub text : Text
  pub fits : QueryFits r 1 text
  pub spelt : spelling text ≡ ls
  pub means : meaning text ≡ tree

-- some query begins so
pub record BeginsQuery (r : GrammarRules) (ls : List Lexeme) : Type 0 where
  pub rest : List Lexeme
  pub tree : Tree
  pub whole : IsQuery r (ls ++ rest) tree

-- The least lexeme, or the end, such that the lexemes up to and with it begin no query: those before it begin one.
pub record IsFirstBad (ls : List Lexeme) (place : ℕ) : Type 0 where
  pub before : BeginsQuery strict (take place ls)
  pub within : place ≤ length ls
  pub lexeme : place < length ls → BeginsQuery strict (take (place + 1) ls) → ⊥
  pub no_query : (tree : Tree) → IsQuery strict ls tree → ⊥

-- The lexemes up to and with the one at the place begin a query of the grammar with these limits.
abbrev pub GoesOn : GrammarRules → List Lexeme → ℕ → Type 0
GoesOn r ls place = (place < length ls) × BeginsQuery r (take (place + 1) ls)

-- computed examples: `a b = c` has two slots; `v - w * w` is `v w w * -`, with two operators, which parentheses don't add to
same_slot : (a b c : Written) → slots_of_phrase (SameSlot (NextSlot (OneWord a) b) c) ≡ (a.word ∷ []) ∷ (b.word ∷ c.word ∷ []) ∷ []
same_slot a b c = refl

product_first : (v w : Written) → postfix_form (SumBoth (Operator MinusSign) (AtomText v) (SumBoth Star (AtomText w) (AtomText w))) ≡ atom_of v ∷ atom_of w ∷ atom_of w ∷ Times ∷ Less ∷ []
product_first v w = refl

two_operators : (v w : Written) → operator_count (SumGroup (SumBoth (Operator MinusSign) (AtomText v) (SumGroup (SumBoth Star (AtomText w) (AtomText w))))) ≡ 2
two_operators v w = refl
