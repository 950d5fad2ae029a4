-- Reading a query from left to right, a lexeme at a time.
-- Nothing here has to be believed: the laws `each_query_is_read` and `first_bad` say that this reader reads what the grammar says.
use Rattle.std.specs.Prelude.{ℕ, ◌+◌, nat_le, ◌&&◌, Bool, true, false, List, [], ◌∷◌, ◌++◌, length, Option, Some, None, ◌≡◌, refl}
use Rattle.std.specs.Bool.{if◌then◌else◌}
use Rattle.std.specs.Prelude.{codes}
use Rattle.q_tree.specs.declared.queries.Relation.{Relation}
use Rattle.q_tree.specs.declared.queries.Word.{Word as TreeWord}
use Rattle.q_tree.specs.declared.flats.SumStep.{SumStep}
use Rattle.q_lex.specs.declared.lexemes.Written.{Written}
use Rattle.q_tree.specs.declared.queries.Op.TheVariants.{Or as OrOp, And as AndOp}
use Rattle.q_lex.specs.declared.lexemes.Infix.{Infix}
use Rattle.q_lex.specs.declared.lexemes.Infix.TheVariants.{Or, And}
use Rattle.q_lex.specs.declared.lexemes.Lexeme.{Lexeme}
use Rattle.q_lex.specs.declared.lexemes.Lexeme.TheVariants.{Word, Operator, Equiv, Near, Within, Star, Greater, Open, Close, Comma, Define, Thes}
use Rattle.q_tree.specs.Limits.{has_wildcard}
use Rattle.q_lex.specs.Words.{GrammarRules, takes_tenths, takes_whole, takes_level, takes_atom, may_add, may_count, tenths_of, whole_of, atom_of, is_name, name_of, is_flag, says}
use Rattle.q_tree.specs.declared.queries.Leaf.{Leaf}
use Rattle.q_tree.specs.declared.queries.Leaf.TheVariants.{Phrase, Thes as Terms_of}
use Rattle.q_parse.specs.declared.stages.Kind.{Kind}
use Rattle.q_parse.specs.declared.stages.Kind.TheVariants.{InGroup, InNear, InDefine}
use Rattle.q_parse.specs.declared.stages.SumFrame.{SumFrame}
use Rattle.q_parse.specs.declared.stages.SumFrame.TheVariants.{SumLeft, SumOpen}
use Rattle.q_tree.specs.Trees.{Tree, Single, Both, Weight, Above, Near as NearTree, Within as WithinTree, Define as DefineTree}
use Rattle.q_parse.specs.Grammar.{op_of, tightness, put_last, has_level, default_thesaurus, is_sum_sign, sign_step, step_tightness}

-- What stands open around the stage: a left side with its operator, a parenthesis, a chain that goes on with a term, or terms with the phrases so far.
pub data Frame : Type 0 where
  Left : Infix → Tree → Frame
  Group : Frame
  Chain : List (List Leaf) → Frame
  TermsOf : Kind → List Leaf → Frame

-- where in the grammar the reader is, within the frames
pub data Stage : Type 0 where
  Operand : Stage
  InPhrase AfterEquiv : List (List TreeWord) → Stage
  ThesOpen ThesFirst : Relation → Stage
  ThesWords ThesArgument : Relation → List TreeWord → Stage
  ThesLevel ThesName : Relation → List TreeWord → ℕ → Stage
  ThesClose : Relation → List TreeWord → ℕ → List ℕ → Stage
  After : ℕ → Tree → Stage
  AfterChain : List (List Leaf) → Stage
  AfterTerms : Stage
  Factor Threshold SectionName : Tree → Stage
  NearWord NearOpen : Stage
  NearEnd NearSpan : List (List Leaf) → Stage
  NearOrder NearFlag : List (List Leaf) → ℕ → Stage
  NearClose : List (List Leaf) → ℕ → Bool → Stage
  DefineWord : Stage
  SumOperand SumAfter : List Leaf → List SumStep → List SumFrame → ℕ → Stage

pub record State : Type 0 where
  pub stage : Stage
  pub frames : List Frame

abbrev pub state_at : Stage → List Frame → State
state_at stage frames = record { stage = stage; frames = frames }

-- whether a query goes on here, and not terms alone
abbrev pub is_main : List Frame → Bool
is_main (Chain ops ∷ fs) = false
is_main (TermsOf kind ps ∷ fs) = false
is_main fs = true

-- joins the operators that bind at least as tight as k
abbrev pub query_joined : ℕ → List Frame → Tree → List Frame × Tree
query_joined k (Left op s ∷ fs) t = if nat_le k (tightness op) then query_joined k fs (Both (op_of op) s t) else (Left op s ∷ fs, t)
query_joined k fs t = (fs, t)

abbrev pub on_close : List Frame × Tree → Option State
on_close (Group ∷ fs, t) = Some (state_at (After 6 t) fs)
on_close (fs, t) = None

abbrev pub on_operator : Tree → List Frame → Infix → Option State
on_operator t fs op = Some (state_at Operand (Left op (query_joined (tightness op) fs t).1 ∷ (query_joined (tightness op) fs t).0))

abbrev pub on_within : Tree → List Frame → Option State
on_within t fs = Some (state_at (SectionName (query_joined 3 fs t).1) (query_joined 3 fs t).0)

-- a tree of phrases and OR alone, and its phrases
abbrev pub is_terms : Tree → Bool
is_terms (Single p) = true
is_terms (Both OrOp s t) = is_terms s && is_terms t
is_terms t = false

abbrev pub phrases_of : Tree → List Leaf
phrases_of (Single p) = p ∷ []
phrases_of (Both op s t) = phrases_of s ++ phrases_of t
phrases_of t = []

abbrev pub on_near : Tree → List Frame → Option State
on_near t fs = if is_terms t then Some (state_at Operand (Chain (phrases_of t ∷ []) ∷ fs)) else None

-- the lexemes that may follow an operand that binds as tight as k
abbrev pub after_operand : ℕ → Tree → List Frame → Lexeme → Option State
after_operand k t fs (Operator op) = if nat_le (tightness op) k then on_operator t fs op else None
after_operand k t fs Close = on_close (query_joined 1 fs t)
after_operand k t fs Star = if nat_le 6 k then Some (state_at (Factor t) fs) else None
after_operand k t fs Greater = if nat_le 6 k then Some (state_at (Threshold t) fs) else None
after_operand k t fs Within = on_within t fs
after_operand k t fs Near = on_near t fs
after_operand k t fs l = None

abbrev pub after_chain : GrammarRules → List (List Leaf) → List Frame → Lexeme → Option State
after_chain r ops fs Near = if may_add r (length ops) then Some (state_at Operand (Chain ops ∷ fs)) else None
after_chain r ops fs l = after_operand 6 (NearTree ops 100 false) fs l

-- terms are ready where a term was wanted
abbrev pub with_terms : List Leaf → List Frame → Option State
with_terms ps (Chain ops ∷ fs) = Some (state_at (AfterChain (ops ++ ps ∷ [])) fs)
with_terms ps (TermsOf kind qs ∷ fs) = Some (state_at AfterTerms (TermsOf kind (qs ++ ps) ∷ fs))
with_terms ps fs = None

abbrev pub with_leaf : Leaf → List Frame → State
with_leaf p (Chain ops ∷ fs) = state_at (AfterChain (ops ++ (p ∷ []) ∷ [])) fs
with_leaf p (TermsOf kind qs ∷ fs) = state_at AfterTerms (TermsOf kind (qs ++ p ∷ []) ∷ fs)
with_leaf p fs = state_at (After 6 (Single p)) fs

abbrev pub near_end : List (List Leaf) → List Leaf → List Frame → Option State
near_end [] ps fs = None
near_end (o ∷ ops) ps fs = Some (state_at (NearEnd (o ∷ (ops ++ ps ∷ []))) fs)

abbrev pub close_terms : Kind → List Leaf → List Frame → Option State
close_terms InGroup ps fs = with_terms ps fs
close_terms (InNear ops) ps fs = near_end ops ps fs
close_terms InDefine ps fs = None

abbrev pub comma_terms : GrammarRules → Kind → List Leaf → List Frame → Option State
comma_terms r InGroup ps fs = None
comma_terms r (InNear ops) ps fs = if may_add r (length (ops ++ ps ∷ [])) then Some (state_at Operand (TermsOf (InNear (ops ++ ps ∷ [])) [] ∷ fs)) else None
comma_terms r InDefine ps fs = Some (state_at (SumOperand ps [] [] 0) fs)

abbrev pub after_terms : GrammarRules → List Frame → Lexeme → Option State
after_terms r (TermsOf kind ps ∷ fs) (Operator Or) = Some (state_at Operand (TermsOf kind ps ∷ fs))
after_terms r (TermsOf kind ps ∷ fs) Close = close_terms kind ps fs
after_terms r (TermsOf kind ps ∷ fs) Comma = comma_terms r kind ps fs
after_terms r fs l = None

abbrev pub after_at : GrammarRules → Stage → List Frame → Lexeme → Option State
after_at r (After k t) fs l = after_operand k t fs l
after_at r (AfterChain ops) fs l = after_chain r ops fs l
after_at r AfterTerms fs l = after_terms r fs l
after_at r stage fs l = None

abbrev pub step_after : GrammarRules → State → Lexeme → Option State
step_after r s l = after_at r s.stage s.frames l

-- joins the operators of a sum
abbrev pub sum_joined : ℕ → List SumFrame → List SumStep → List SumFrame × List SumStep
sum_joined k (SumLeft step ∷ stack) out = if nat_le k (step_tightness step) then sum_joined k stack (out ++ step ∷ []) else (SumLeft step ∷ stack, out)
sum_joined k stack out = (stack, out)

abbrev pub sum_sign : List Leaf → ℕ → SumStep → List SumFrame × List SumStep → List Frame → Option State
sum_sign ps n step j fs = Some (state_at (SumOperand ps j.1 (SumLeft step ∷ j.0) (n + 1)) fs)

-- behind an operator of a sum, where this is on the stack, and these steps are out
abbrev pub sum_goes_on : List Leaf → ℕ → SumStep → List SumFrame → List SumStep → List Frame → Option State
sum_goes_on ps n step stack out fs = sum_sign ps n step (sum_joined (step_tightness step) stack out) fs

abbrev pub sum_close : List Leaf → ℕ → List SumFrame × List SumStep → List Frame → Option State
sum_close ps n ([], out) fs = Some (state_at (After 6 (DefineTree ps out)) fs)
sum_close ps n (SumOpen ∷ stack, out) fs = Some (state_at (SumAfter ps out stack n) fs)
sum_close ps n (SumLeft step ∷ stack, out) fs = None

abbrev pub sum_after : GrammarRules → List Leaf → List SumStep → List SumFrame → ℕ → List Frame → Lexeme → Option State
sum_after r ps out stack n fs Close = sum_close ps n (sum_joined 1 stack out) fs
sum_after r ps out stack n fs l = if is_sum_sign r l && may_count r (n + 1) then sum_sign ps n (sign_step l) (sum_joined (step_tightness (sign_step l)) stack out) fs else None

abbrev pub thes_argument : GrammarRules → Relation → List TreeWord → List Frame → Written → Option State
thes_argument r relation ws fs w =
    if is_name w then Some (state_at (ThesClose relation ws 1 (name_of w)) fs)
    else (if has_level relation && takes_level r w then Some (state_at (ThesLevel relation ws (whole_of w)) fs) else None)

abbrev pub opened : List Frame → List Frame
opened fs = (if is_main fs then Group else TermsOf InGroup []) ∷ fs

abbrev pub step_at : GrammarRules → Stage → List Frame → Lexeme → Option State
step_at r Operand fs (Word w) = Some (state_at (InPhrase ((w.word ∷ []) ∷ [])) fs)
step_at r Operand fs (Thes relation) = Some (state_at (ThesOpen relation) fs)
step_at r Operand fs Open = Some (state_at Operand (opened fs))
step_at r Operand fs Near = if is_main fs then Some (state_at NearWord fs) else None
step_at r Operand fs Define = if is_main fs then Some (state_at DefineWord fs) else None
step_at r Operand fs l = None
step_at r (InPhrase ss) fs (Word w) = Some (state_at (InPhrase (ss ++ (w.word ∷ []) ∷ [])) fs)
step_at r (InPhrase ss) fs Equiv = Some (state_at (AfterEquiv ss) fs)
step_at r (InPhrase ss) fs l = step_after r (with_leaf (Phrase ss) fs) l
step_at r (AfterEquiv ss) fs (Word w) = Some (state_at (InPhrase (put_last ss w.word)) fs)
step_at r (AfterEquiv ss) fs l = None
step_at r (ThesOpen relation) fs Open = Some (state_at (ThesFirst relation) fs)
step_at r (ThesOpen relation) fs l = None
step_at r (ThesFirst relation) fs (Word w) = if has_wildcard w.word.bits then None else Some (state_at (ThesWords relation (w.word ∷ [])) fs)
step_at r (ThesFirst relation) fs l = None
step_at r (ThesWords relation ws) fs (Word w) = if has_wildcard w.word.bits then None else Some (state_at (ThesWords relation (ws ++ w.word ∷ [])) fs)
step_at r (ThesWords relation ws) fs Close = Some (with_leaf (Terms_of relation ws 1 default_thesaurus) fs)
step_at r (ThesWords relation ws) fs Comma = Some (state_at (ThesArgument relation ws) fs)
step_at r (ThesWords relation ws) fs l = None
step_at r (ThesArgument relation ws) fs (Word w) = thes_argument r relation ws fs w
step_at r (ThesArgument relation ws) fs l = None
step_at r (ThesLevel relation ws n) fs Close = Some (with_leaf (Terms_of relation ws n default_thesaurus) fs)
step_at r (ThesLevel relation ws n) fs Comma = Some (state_at (ThesName relation ws n) fs)
step_at r (ThesLevel relation ws n) fs l = None
step_at r (ThesName relation ws n) fs (Word w) = if is_name w then Some (state_at (ThesClose relation ws n (name_of w)) fs) else None
step_at r (ThesName relation ws n) fs l = None
step_at r (ThesClose relation ws n name) fs Close = Some (with_leaf (Terms_of relation ws n name) fs)
step_at r (ThesClose relation ws n name) fs l = None
step_at r (After k t) fs l = after_operand k t fs l
step_at r (AfterChain ops) fs l = after_chain r ops fs l
step_at r AfterTerms fs l = after_terms r fs l
step_at r (Factor t) fs (Word w) = if takes_tenths r w then Some (state_at (After 6 (Weight (tenths_of w) t)) fs) else None
step_at r (Factor t) fs l = None
step_at r (Threshold t) fs (Word w) = if takes_whole r 0 100 w then Some (state_at (After 6 (Above (whole_of w) t)) fs) else None
step_at r (Threshold t) fs l = None
step_at r (SectionName t) fs (Word w) = if is_name w then Some (state_at (After 3 (WithinTree (name_of w) t)) fs) else None
step_at r (SectionName t) fs l = None
step_at r NearWord fs Open = Some (state_at NearOpen fs)
step_at r NearWord fs l = None
step_at r NearOpen fs Open = Some (state_at Operand (TermsOf (InNear []) [] ∷ fs))
step_at r NearOpen fs l = None
step_at r (NearEnd ops) fs Close = Some (state_at (After 6 (NearTree ops 100 false)) fs)
step_at r (NearEnd ops) fs Comma = Some (state_at (NearSpan ops) fs)
step_at r (NearEnd ops) fs l = None
step_at r (NearSpan ops) fs (Word w) = if takes_whole r 0 100 w then Some (state_at (NearOrder ops (whole_of w)) fs) else None
step_at r (NearSpan ops) fs l = None
step_at r (NearOrder ops n) fs Close = Some (state_at (After 6 (NearTree ops n false)) fs)
step_at r (NearOrder ops n) fs Comma = Some (state_at (NearFlag ops n) fs)
step_at r (NearOrder ops n) fs l = None
step_at r (NearFlag ops n) fs (Word w) = if is_flag w then Some (state_at (NearClose ops n (says (codes "true") w)) fs) else None
step_at r (NearFlag ops n) fs l = None
step_at r (NearClose ops n ordered) fs Close = Some (state_at (After 6 (NearTree ops n ordered)) fs)
step_at r (NearClose ops n ordered) fs l = None
step_at r DefineWord fs Open = Some (state_at Operand (TermsOf InDefine [] ∷ fs))
step_at r DefineWord fs l = None
step_at r (SumOperand ps out stack n) fs (Word w) = if takes_atom r w then Some (state_at (SumAfter ps (out ++ atom_of w ∷ []) stack n) fs) else None
step_at r (SumOperand ps out stack n) fs Open = Some (state_at (SumOperand ps out (SumOpen ∷ stack) n) fs)
step_at r (SumOperand ps out stack n) fs l = None
step_at r (SumAfter ps out stack n) fs l = sum_after r ps out stack n fs l

abbrev pub step : GrammarRules → State → Lexeme → Option State
step r s l = step_at r s.stage s.frames l

abbrev pub read_from : GrammarRules → Option State → List Lexeme → Option State
read_from r None ls = None
read_from r (Some s) [] = Some s
read_from r (Some s) (l ∷ ls) = read_from r (step r s l) ls

abbrev pub start_state : State
start_state = state_at Operand []

-- the tree at the end of the text
abbrev pub on_end : List Frame × Tree → Option Tree
on_end ([], t) = Some t
on_end (f ∷ fs, t) = None

abbrev pub finish_after : Stage → List Frame → Option Tree
finish_after (After k t) fs = on_end (query_joined 1 fs t)
finish_after (AfterChain ops) fs = on_end (query_joined 1 fs (NearTree ops 100 false))
finish_after stage fs = None

abbrev pub finish_at : Stage → List Frame → Option Tree
finish_at (InPhrase ss) fs = finish_after (with_leaf (Phrase ss) fs).stage (with_leaf (Phrase ss) fs).frames
finish_at stage fs = finish_after stage fs

abbrev pub finish : State → Option Tree
finish s = finish_at s.stage s.frames

abbrev pub tree_at_end : Option State → Option Tree
tree_at_end None = None
tree_at_end (Some s) = finish s

-- computed examples: an operator that binds as tight as the next one joins its sides first, and one that binds looser waits
as_tight_joins : (s t : Tree) → query_joined 2 (Left And s ∷ []) t ≡ ([], Both AndOp s t)
as_tight_joins s t = refl

looser_waits : (s t : Tree) → query_joined 2 (Left Or s ∷ []) t ≡ (Left Or s ∷ [], t)
looser_waits s t = refl
