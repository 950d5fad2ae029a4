-- What the reader has read where it is at a stage within frames: which texts, and how they spell the lexemes.
use Rattle.std.proofs.Common.{◌≡◌, ℕ, ◌+◌, ◌≤◌, Bool, true, false, ◌⊎◌, List, [], ◌∷◌, ◌++◌, length, Option, Some, None}
use Rattle.std.specs.Prelude.{codes}
use Rattle.q_tree.specs.declared.queries.Relation.{Relation}
use Rattle.q_tree.specs.declared.queries.Word.{Word as TreeWord}
use Rattle.q_tree.specs.declared.flats.SumStep.{SumStep}
use Rattle.q_lex.specs.declared.lexemes.Written.{Written}
use Rattle.q_lex.specs.declared.lexemes.Infix.TheVariants.{Or}
use Rattle.q_lex.specs.declared.lexemes.Lexeme.{Lexeme}
use Rattle.q_lex.specs.declared.lexemes.Lexeme.TheVariants.{Word, Operator, Equiv, Near, Within, Star, Greater, Open, Close, Comma, Define, Thes}
use Rattle.q_lex.specs.Words.{GrammarRules, takes_whole, takes_level, may_add, may_count, whole_of, is_flag, says}
use Rattle.q_tree.specs.declared.queries.Leaf.{Leaf}
use Rattle.q_parse.specs.declared.stages.Kind.{Kind}
use Rattle.q_parse.specs.declared.stages.Kind.TheVariants.{InGroup, InNear, InDefine}
use Rattle.q_parse.specs.declared.stages.SumFrame.{SumFrame}
use Rattle.q_parse.specs.declared.stages.SumFrame.TheVariants.{SumLeft, SumOpen}
use Rattle.q_tree.specs.Trees.{Tree}
use Rattle.q_parse.specs.Grammar.{PhraseText, phrase_spelling, slots_of_phrase, WordsText, words_spelling, words_of, AreWords, ThesTail, thes_tail_spelling, has_level, IsThesTail, tail_level, tail_name, SumText, sum_spelling, is_sum_sign, sign_step, step_tightness, postfix_form, operator_count, SumFits, Text, spelling, phrases, operands, meaning, tightness, Terms, IsNearChain, IsList, QueryFits}
use Rattle.q_parse.specs.Machine.{Frame, Left, Group, Chain, TermsOf, Stage, Operand, InPhrase, AfterEquiv, ThesOpen, ThesFirst, ThesWords, ThesArgument, ThesLevel, ThesName, ThesClose, After, AfterChain, AfterTerms, Factor, Threshold, SectionName, NearWord, NearOpen, NearEnd, NearSpan, NearOrder, NearFlag, NearClose, DefineWord, SumOperand, SumAfter, State, is_main, step}
use Rattle.q_parse.proofs.Complete.{Looser, SumLooser}

module _ (r : GrammarRules) where
  -- Terms with these phrases after what S tells of, and the same with an OR after them, or nothing.
  pub record TermsRead (S : List Lexeme → Type 0) (ps : List Leaf) (ls : List Lexeme) : Type 0 where
    pub before : List Lexeme
    pub text : Text
    pub outer : S before
    pub terms : Terms r true text
    pub its : phrases text ≡ ps
    pub spelt : before ++ spelling text ≡ ls

  abbrev pub TermsFront : (List Lexeme → Type 0) → List Leaf → List Lexeme → Type 0
  TermsFront S ps ls = ((ps ≡ []) × S ls) ⊎ ((before : List Lexeme) × TermsRead S ps before × (before ++ Operator Or ∷ [] ≡ ls))

  abbrev pub ListFront : List (List Leaf) → List Lexeme → List Lexeme → Type 0
  ListFront [] before ls = before ++ Near ∷ Open ∷ Open ∷ [] ≡ ls
  ListFront (o ∷ ops) before ls = (s : Text) × IsList r s × (operands s ≡ o ∷ ops) × (may_add r (length (operands s)) ≡ true) × (before ++ Near ∷ Open ∷ Open ∷ (spelling s ++ Comma ∷ []) ≡ ls)

  -- what stands before a group of terms, where S tells of the frames around it
  abbrev pub Outer : (List Lexeme → Type 0) → Bool → Kind → List Lexeme → Type 0
  Outer S main InGroup ls = (before : List Lexeme) × S before × (main ≡ false) × (before ++ Open ∷ [] ≡ ls)
  Outer S main (InNear ops) ls = (before : List Lexeme) × S before × (main ≡ true) × ListFront ops before ls
  Outer S main InDefine ls = (before : List Lexeme) × S before × (main ≡ true) × (before ++ Define ∷ Open ∷ [] ≡ ls)

  abbrev pub ReadsFrames : List Frame → List Lexeme → Type 0
  ReadsFrames [] ls = ls ≡ []
  ReadsFrames (Group ∷ fs) ls = (before : List Lexeme) × ReadsFrames fs before × (is_main fs ≡ true) × (before ++ Open ∷ [] ≡ ls)
  ReadsFrames (Left op t ∷ fs) ls = (before : List Lexeme) × (s : Text) × ReadsFrames fs before × (is_main fs ≡ true) × Looser (tightness op) fs × QueryFits r (tightness op) s × (meaning s ≡ t) × (before ++ (spelling s ++ Operator op ∷ []) ≡ ls)
  ReadsFrames (Chain ops ∷ fs) ls = (before : List Lexeme) × (s : Text) × ReadsFrames fs before × (is_main fs ≡ true) × IsNearChain r s × (may_add r (length (operands s)) ≡ true) × (operands s ≡ ops) × (before ++ (spelling s ++ Near ∷ []) ≡ ls)
  ReadsFrames (TermsOf kind ps ∷ fs) ls = TermsFront (Outer (ReadsFrames fs) (is_main fs) kind) ps ls

  pub record Holds (k : ℕ) (fs : List Frame) (t : Tree) (ls : List Lexeme) : Type 0 where
    pub before : List Lexeme
    pub text : Text
    pub frames : ReadsFrames fs before
    pub main : is_main fs ≡ true
    pub looser : Looser k fs
    pub fits : QueryFits r k text
    pub means : meaning text ≡ t
    pub spelt : before ++ spelling text ≡ ls

  -- a chain and a term more
  pub record ChainRead (ops : List (List Leaf)) (fs : List Frame) (ls : List Lexeme) : Type 0 where
    pub before : List Lexeme
    pub text : Text
    pub last : Text
    pub frames : ReadsFrames fs before
    pub main : is_main fs ≡ true
    pub chain : IsNearChain r text
    pub term : Terms r false last
    pub may : may_add r (length (operands text)) ≡ true
    pub its : operands text ++ phrases last ∷ [] ≡ ops
    pub spelt : before ++ (spelling text ++ Near ∷ spelling last) ≡ ls

  abbrev pub AfterRead : List Frame → List Lexeme → Type 0
  AfterRead (TermsOf kind ps ∷ fs) ls = TermsRead (Outer (ReadsFrames fs) (is_main fs) kind) ps ls
  AfterRead fs ls = ⊥

  abbrev pub Fronts : List Lexeme → List Frame → List Lexeme → Type 0
  Fronts front fs ls = (before : List Lexeme) × ReadsFrames fs before × (before ++ front ≡ ls)

  abbrev pub MainFronts : List Lexeme → List Frame → List Lexeme → Type 0
  MainFronts front fs ls = (before : List Lexeme) × ReadsFrames fs before × (is_main fs ≡ true) × (before ++ front ≡ ls)

  abbrev pub PhraseRead : List (List TreeWord) → List Lexeme → List Frame → List Lexeme → Type 0
  PhraseRead ss tail fs ls = (before : List Lexeme) × (p : PhraseText) × ReadsFrames fs before × (slots_of_phrase p ≡ ss) × (before ++ (phrase_spelling p ++ tail) ≡ ls)

  -- the words of a thesaurus operator and this after them
  pub record ThesRead (relation : Relation) (ws : List TreeWord) (tail : List Lexeme) (fs : List Frame) (ls : List Lexeme) : Type 0 where
    pub before : List Lexeme
    pub text : WordsText
    pub frames : ReadsFrames fs before
    pub are : AreWords text
    pub its : words_of text ≡ ws
    pub spelt : before ++ Thes relation ∷ Open ∷ (words_spelling text ++ tail) ≡ ls

  -- the operands of NEAR and this after them
  pub record NearRead (ops : List (List Leaf)) (tail : List Lexeme) (fs : List Frame) (ls : List Lexeme) : Type 0 where
    pub before : List Lexeme
    pub text : Text
    pub frames : ReadsFrames fs before
    pub main : is_main fs ≡ true
    pub list : IsList r text
    pub many : 2 ≤ length (operands text)
    pub its : operands text ≡ ops
    pub spelt : before ++ Near ∷ Open ∷ Open ∷ (spelling text ++ Close ∷ tail) ≡ ls

  abbrev pub DefineFront : List Leaf → List Frame → List Lexeme → Type 0
  DefineFront ps fs ls = (before : List Lexeme) × (t : Text) × ReadsFrames fs before × (is_main fs ≡ true) × Terms r true t × (phrases t ≡ ps) × (before ++ Define ∷ Open ∷ (spelling t ++ Comma ∷ []) ≡ ls)

  abbrev pub SumFrames : (List Lexeme → Type 0) → List SumFrame → List SumStep → ℕ → List Lexeme → Type 0
  SumFrames S [] out n ls = (out ≡ []) × (n ≡ 0) × S ls
  SumFrames S (SumOpen ∷ stack) out n ls = (before : List Lexeme) × SumFrames S stack out n before × (before ++ Open ∷ [] ≡ ls)
  SumFrames S (SumLeft step ∷ stack) out n ls = (before : List Lexeme) × (out0 : List SumStep) × (n0 : ℕ) × (s : SumText) × (l : Lexeme) × SumFrames S stack out0 n0 before × SumLooser (step_tightness step) stack × SumFits r (step_tightness step) s × (is_sum_sign r l ≡ true) × (sign_step l ≡ step) × (out0 ++ postfix_form s ≡ out) × (n0 + operator_count s + 1 ≡ n) × (before ++ (sum_spelling s ++ l ∷ []) ≡ ls)

  pub record SumHolds (S : List Lexeme → Type 0) (k : ℕ) (stack : List SumFrame) (out : List SumStep) (n : ℕ) (ls : List Lexeme) : Type 0 where
    pub before : List Lexeme
    pub out0 : List SumStep
    pub n0 : ℕ
    pub text : SumText
    pub frames : SumFrames S stack out0 n0 before
    pub looser : SumLooser k stack
    pub fits : SumFits r k text
    pub its : out0 ++ postfix_form text ≡ out
    pub count : n0 + operator_count text ≡ n
    pub spelt : before ++ sum_spelling text ≡ ls

  abbrev pub ReadsAt : Stage → List Frame → List Lexeme → Type 0
  ReadsAt Operand fs ls = ReadsFrames fs ls
  ReadsAt (InPhrase ss) fs ls = PhraseRead ss [] fs ls
  ReadsAt (AfterEquiv ss) fs ls = PhraseRead ss (Equiv ∷ []) fs ls
  ReadsAt (ThesOpen relation) fs ls = Fronts (Thes relation ∷ []) fs ls
  ReadsAt (ThesFirst relation) fs ls = Fronts (Thes relation ∷ Open ∷ []) fs ls
  ReadsAt (ThesWords relation ws) fs ls = ThesRead relation ws [] fs ls
  ReadsAt (ThesArgument relation ws) fs ls = ThesRead relation ws (Comma ∷ []) fs ls
  ReadsAt (ThesLevel relation ws n) fs ls = (w : Written) × (has_level relation ≡ true) × (takes_level r w ≡ true) × (whole_of w ≡ n) × ThesRead relation ws (Comma ∷ Word w ∷ []) fs ls
  ReadsAt (ThesName relation ws n) fs ls = (w : Written) × (has_level relation ≡ true) × (takes_level r w ≡ true) × (whole_of w ≡ n) × ThesRead relation ws (Comma ∷ Word w ∷ Comma ∷ []) fs ls
  ReadsAt (ThesClose relation ws n name) fs ls = (tail : ThesTail) × (front : List Lexeme) × IsThesTail r relation tail × (tail_level tail ≡ n) × (tail_name tail ≡ name) × (front ++ Close ∷ [] ≡ thes_tail_spelling tail) × ThesRead relation ws front fs ls
  ReadsAt (After k t) fs ls = (3 ≤ k) × Holds k fs t ls
  ReadsAt (AfterChain ops) fs ls = ChainRead ops fs ls
  ReadsAt AfterTerms fs ls = AfterRead fs ls
  ReadsAt (Factor t) fs ls = (before : List Lexeme) × Holds 6 fs t before × (before ++ Star ∷ [] ≡ ls)
  ReadsAt (Threshold t) fs ls = (before : List Lexeme) × Holds 6 fs t before × (before ++ Greater ∷ [] ≡ ls)
  ReadsAt (SectionName t) fs ls = (before : List Lexeme) × Holds 3 fs t before × (before ++ Within ∷ [] ≡ ls)
  ReadsAt NearWord fs ls = MainFronts (Near ∷ []) fs ls
  ReadsAt NearOpen fs ls = MainFronts (Near ∷ Open ∷ []) fs ls
  ReadsAt (NearEnd ops) fs ls = NearRead ops [] fs ls
  ReadsAt (NearSpan ops) fs ls = NearRead ops (Comma ∷ []) fs ls
  ReadsAt (NearOrder ops n) fs ls = (w : Written) × (takes_whole r 0 100 w ≡ true) × (whole_of w ≡ n) × NearRead ops (Comma ∷ Word w ∷ []) fs ls
  ReadsAt (NearFlag ops n) fs ls = (w : Written) × (takes_whole r 0 100 w ≡ true) × (whole_of w ≡ n) × NearRead ops (Comma ∷ Word w ∷ Comma ∷ []) fs ls
  ReadsAt (NearClose ops n ordered) fs ls = (w : Written) × (v : Written) × (takes_whole r 0 100 w ≡ true) × (is_flag v ≡ true) × (whole_of w ≡ n) × (says (codes "true") v ≡ ordered) × NearRead ops (Comma ∷ Word w ∷ Comma ∷ Word v ∷ []) fs ls
  ReadsAt DefineWord fs ls = MainFronts (Define ∷ []) fs ls
  ReadsAt (SumOperand ps out stack n) fs ls = (may_count r n ≡ true) × SumFrames (DefineFront ps fs) stack out n ls
  ReadsAt (SumAfter ps out stack n) fs ls = (may_count r n ≡ true) × SumHolds (DefineFront ps fs) 3 stack out n ls

  abbrev pub Reads : Option State → List Lexeme → Type 0
  Reads None ls = Unit {0}
  Reads (Some s) ls = ReadsAt s.stage s.frames ls
