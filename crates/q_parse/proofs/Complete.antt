-- What a text of the grammar does to the reader: each text leads to its tree.
use Rattle.std.proofs.Common.{◌≡◌, ℕ, ◌+◌, ◌<◌, ◌≤◌, nat_le, Bool, true, false, cond, not, ◌||◌, ◌&&◌, ◌⊎◌, inl, inr, List, [], ◌∷◌, ◌++◌, length, refl, sym, ap, ◌∙◌, subst, append_assoc, append-nil, arith, Some, None}
use Rattle.std.proofs.lemmas.Bool.{lt-leb, le-leb}
use Rattle.std.proofs.lemmas.Bool.Decides.{leb_tells}
use Rattle.std.specs.Prelude.{codes}
use Rattle.q_tree.specs.declared.queries.Relation.{Relation}
use Rattle.q_tree.specs.declared.queries.Word.{Word as TreeWord}
use Rattle.q_tree.specs.declared.flats.SumStep.{SumStep}
use Rattle.q_lex.specs.declared.lexemes.Written.{Written}
use Rattle.q_lex.specs.declared.lexemes.Infix.{Infix}
use Rattle.q_lex.specs.declared.lexemes.Infix.TheVariants.{Or, And, Not, MinusWord, MinusSign}
use Rattle.q_lex.specs.declared.lexemes.Lexeme.{Lexeme}
use Rattle.q_lex.specs.declared.lexemes.Lexeme.TheVariants.{Word, Operator, Equiv, Near, Within, Star, Greater, Open, Close, Comma, Define}
use Rattle.q_tree.specs.Limits.{has_wildcard}
use Rattle.q_lex.specs.Words.{GrammarRules, takes_tenths, takes_whole, takes_level, takes_atom, may_add, may_count, tenths_of, whole_of, atom_of, is_name, name_of, is_flag, says}
use Rattle.q_tree.specs.declared.queries.Leaf.{Leaf}
use Rattle.q_tree.specs.declared.queries.Leaf.TheVariants.{Thes as Terms_of}
use Rattle.q_parse.specs.declared.stages.Kind.{Kind}
use Rattle.q_parse.specs.declared.stages.Kind.TheVariants.{InGroup, InNear, InDefine}
use Rattle.q_parse.specs.declared.stages.SumFrame.{SumFrame}
use Rattle.q_parse.specs.declared.stages.SumFrame.TheVariants.{SumLeft, SumOpen}
use Rattle.q_tree.specs.Trees.{Tree, Single, Both, Weight, Above, Near as NearTree, Within as WithinTree}
use Rattle.q_parse.specs.Grammar.{op_of, PhraseText, OneWord, NextSlot, SameSlot, phrase_spelling, slots_of_phrase, WordsText, FirstWord, MoreWords, words_spelling, words_of, AreWords, ThesTail, NoTail, NameTail, LevelTail, BothTail, thes_tail_spelling, has_level, IsThesTail, tail_level, tail_name, LeafText, PhraseLeaf, ThesLeaf, leaf_spelling, leaf, IsLeaf, SumText, AtomText, SumGroup, SumBoth, sum_spelling, is_sum_sign, sign_step, step_tightness, postfix_form, operator_count, SumFits, NearTail, NoSpan, Span, Ordered, near_tail_spelling, near_span, near_ordered, IsNearTail, Text, LeafPart, GroupText, BothText, WeightText, AboveText, WithinText, ChainText, ListText, NearText, DefineText, spelling, phrases, operands, meaning, tightness, Terms, IsNearChain, IsList, QueryFits, IsQuery}
use Rattle.q_parse.specs.Machine.{Frame, Left, Group, Chain, TermsOf, Stage, Operand, InPhrase, ThesFirst, ThesWords, ThesLevel, ThesName, ThesClose, After, AfterChain, AfterTerms, Factor, Threshold, SectionName, NearWord, NearEnd, NearSpan, NearOrder, NearFlag, NearClose, DefineWord, SumOperand, SumAfter, State, state_at, is_main, query_joined, on_close, on_operator, on_within, is_terms, phrases_of, after_operand, after_chain, with_leaf, near_end, comma_terms, after_terms, step_after, sum_joined, sum_sign, sum_close, sum_after, thes_argument, step_at, step, read_from, start_state, on_end, finish_after, finish, tree_at_end}

-- the lexemes that go on in no phrase, and those of them that follow an operand
abbrev pub ends_leaf : Lexeme → Bool
ends_leaf (Word w) = false
ends_leaf Equiv = false
ends_leaf l = true

abbrev pub ends_operand : Lexeme → Bool
ends_operand (Word w) = false
ends_operand Equiv = false
ends_operand Near = false
ends_operand l = true

operand-leaf : (l : Lexeme) → ends_operand l ≡ true → ends_leaf l ≡ true
operand-leaf (Word w) e = e
operand-leaf Equiv e = e
operand-leaf Near e = refl
operand-leaf l e = refl

abbrev pub Looser : ℕ → List Frame → Type 0
Looser k (Left op s ∷ fs) = tightness op < k
Looser k fs = Unit {0}

abbrev pub SumLooser : ℕ → List SumFrame → Type 0
SumLooser k (SumLeft step ∷ stack) = step_tightness step < k
SumLooser k stack = Unit {0}

module _ (r : GrammarRules) where
  -- where the reader is after a leaf, after a term of a chain, within terms, and after a text
  abbrev pub read_leaf : List Frame → LeafText → State
  read_leaf fs (PhraseLeaf p) = state_at (InPhrase (slots_of_phrase p)) fs
  read_leaf fs (ThesLeaf relation ws tail) = with_leaf (leaf (ThesLeaf relation ws tail)) fs

  abbrev pub read_term : List (List Leaf) → List Frame → Text → State
  read_term ops fs (LeafPart p) = read_leaf (Chain ops ∷ fs) p
  read_term ops fs t = state_at (AfterChain (ops ++ phrases t ∷ [])) fs

  abbrev pub read_terms : Kind → List Leaf → List Frame → Text → State
  read_terms kind qs fs (LeafPart p) = read_leaf (TermsOf kind qs ∷ fs) p
  read_terms kind qs fs (BothText op s t) = read_terms kind (qs ++ phrases s) fs t
  read_terms kind qs fs t = state_at AfterTerms (TermsOf kind (qs ++ phrases t) ∷ fs)

  abbrev pub read_list : List Frame → Text → State
  read_list fs (ListText s t) = read_terms (InNear (operands s)) [] fs t
  read_list fs t = read_terms (InNear []) [] fs t

  abbrev pub read : List Frame → Text → State
  read fs (LeafPart p) = read_leaf fs p
  read fs (BothText op s t) = read (Left op (meaning s) ∷ fs) t
  read fs (WithinText t w) = state_at (After 3 (meaning (WithinText t w))) fs
  read fs (ChainText s t) = read_term (operands s) fs t
  read fs t = state_at (After 6 (meaning t)) fs

  abbrev pub read_sum : List Leaf → List SumStep → List SumFrame → ℕ → List Frame → SumText → State
  read_sum ps out stack n fs (AtomText w) = state_at (SumAfter ps (out ++ atom_of w ∷ []) stack n) fs
  read_sum ps out stack n fs (SumGroup s) = state_at (SumAfter ps (out ++ postfix_form s) stack (n + operator_count s)) fs
  read_sum ps out stack n fs (SumBoth l s t) = read_sum ps (out ++ postfix_form s) (SumLeft (sign_step l) ∷ stack) (n + operator_count s + 1) fs t

  -- joining
  pub query_joined-looser : (k : ℕ) (fs : List Frame) (t : Tree) → Looser k fs → query_joined k fs t ≡ (fs, t)
  query_joined-looser k [] t looser = refl
  query_joined-looser k (Group ∷ fs) t looser = refl
  query_joined-looser k (Chain ops ∷ fs) t looser = refl
  query_joined-looser k (TermsOf kind ps ∷ fs) t looser = refl
  query_joined-looser k (Left op s ∷ fs) t looser = rw (lt-leb k (tightness op) looser) refl

  pub query_joined-left : (k : ℕ) (op : Infix) (s : Tree) (fs : List Frame) (t : Tree) → k ≤ tightness op → query_joined k (Left op s ∷ fs) t ≡ query_joined k fs (Both (op_of op) s t)
  query_joined-left k op s fs t le = rw (le-leb k (tightness op) le) refl

  Looser-less : (k j : ℕ) (fs : List Frame) → k ≤ j → Looser k fs → Looser j fs
  Looser-less k j [] le looser = tt
  Looser-less k j (Group ∷ fs) le looser = tt
  Looser-less k j (Chain ops ∷ fs) le looser = tt
  Looser-less k j (TermsOf kind ps ∷ fs) le looser = tt
  Looser-less k j (Left op s ∷ fs) le looser = omega arith

  -- leaves
  step-with_leaf : (p : Leaf) (fs : List Frame) (l : Lexeme) → step r (with_leaf p fs) l ≡ step_after r (with_leaf p fs) l
  step-with_leaf p [] l = refl
  step-with_leaf p (Group ∷ fs) l = refl
  step-with_leaf p (Left op s ∷ fs) l = refl
  step-with_leaf p (Chain ops ∷ fs) l = refl
  step-with_leaf p (TermsOf kind qs ∷ fs) l = refl

  pub step-leaf : (p : LeafText) (fs : List Frame) (l : Lexeme) → ends_leaf l ≡ true → step r (read_leaf fs p) l ≡ step_after r (with_leaf (leaf p) fs) l
  step-leaf (PhraseLeaf p) fs (Word w) e = cc
  step-leaf (PhraseLeaf p) fs Equiv e = cc
  step-leaf (PhraseLeaf p) fs l e = refl
  step-leaf (ThesLeaf relation ws tail) fs l e = step-with_leaf (leaf (ThesLeaf relation ws tail)) fs l

  pub with_leaf-main : (p : Leaf) (fs : List Frame) → is_main fs ≡ true → with_leaf p fs ≡ state_at (After 6 (Single p)) fs
  with_leaf-main p [] main = refl
  with_leaf-main p (Group ∷ fs) main = refl
  with_leaf-main p (Left op s ∷ fs) main = refl
  with_leaf-main p (Chain ops ∷ fs) main = cc
  with_leaf-main p (TermsOf kind qs ∷ fs) main = cc

  finish-with_leaf : (p : Leaf) (fs : List Frame) → finish (with_leaf p fs) ≡ finish_after (with_leaf p fs).stage (with_leaf p fs).frames
  finish-with_leaf p [] = refl
  finish-with_leaf p (Group ∷ fs) = refl
  finish-with_leaf p (Left op s ∷ fs) = refl
  finish-with_leaf p (Chain ops ∷ fs) = refl
  finish-with_leaf p (TermsOf kind qs ∷ fs) = refl

  finish-leaf : (p : LeafText) (fs : List Frame) → finish (read_leaf fs p) ≡ finish_after (with_leaf (leaf p) fs).stage (with_leaf (leaf p) fs).frames
  finish-leaf (PhraseLeaf p) fs = refl
  finish-leaf (ThesLeaf relation ws tail) fs = finish-with_leaf (leaf (ThesLeaf relation ws tail)) fs

  -- terms
  pub Terms-many : (t : Text) → Terms r false t → Terms r true t
  Terms-many (LeafPart p) terms = terms
  Terms-many (GroupText t) terms = terms
  Terms-many t terms = absurd terms

  both_true : (a b : Bool) → a ≡ true → b ≡ true → (a && b) ≡ true
  both_true a b p q = rw (p, q) refl

  pub terms-tree : (many : Bool) (t : Text) → Terms r many t → is_terms (meaning t) ≡ true
  terms-tree many (LeafPart p) terms = refl
  terms-tree many (GroupText t) terms = terms-tree true t terms
  terms-tree true (BothText Or s t) terms = both_true _ _ (terms-tree true s terms.0) (terms-tree false t terms.1)
  terms-tree many t terms = absurd terms

  pub terms-phrases : (many : Bool) (t : Text) → Terms r many t → phrases_of (meaning t) ≡ phrases t
  terms-phrases many (LeafPart p) terms = refl
  terms-phrases many (GroupText t) terms = terms-phrases true t terms
  terms-phrases true (BothText Or s t) terms = (λ i. terms-phrases true s terms.0 i ++ terms-phrases false t terms.1 i)
  terms-phrases many t terms = absurd terms

  terms-fit : (many : Bool) (k : ℕ) (t : Text) → (many ≡ true → k ≤ 1) → Terms r many t → QueryFits r k t
  terms-fit many k (LeafPart p) le terms = terms
  terms-fit many k (GroupText t) le terms = terms-fit true 1 t (λ _. omega arith) terms
  terms-fit true k (BothText Or s t) le terms = (le refl, terms-fit true 1 s (λ _. omega arith) terms.0, terms-fit false 2 t (λ e. cc) terms.1)
  terms-fit many k t le terms = absurd terms

  pub step-terms : (kind : Kind) (qs : List Leaf) (fs : List Frame) (t : Text) (l : Lexeme) → Terms r true t → ends_leaf l ≡ true
      → step r (read_terms kind qs fs t) l ≡ after_terms r (TermsOf kind (qs ++ phrases t) ∷ fs) l
  step-terms kind qs fs (LeafPart p) l terms e = step-leaf p (TermsOf kind qs ∷ fs) l e
  step-terms kind qs fs (GroupText t) l terms e = refl
  step-terms kind qs fs (BothText Or s t) l terms e = step-terms kind (qs ++ phrases s) fs t l (Terms-many t terms.1) e ∙ ap (λ x. after_terms r (TermsOf kind x ∷ fs) l) (append_assoc qs (phrases s) (phrases t))
  step-terms kind qs fs t l terms e = absurd terms

  pub step-term : (ops : List (List Leaf)) (fs : List Frame) (t : Text) (l : Lexeme) → Terms r false t → ends_leaf l ≡ true
      → step r (read_term ops fs t) l ≡ after_chain r (ops ++ phrases t ∷ []) fs l
  step-term ops fs (LeafPart p) l terms e = step-leaf p (Chain ops ∷ fs) l e
  step-term ops fs (GroupText t) l terms e = refl
  step-term ops fs t l terms e = absurd terms

  finish-term : (ops : List (List Leaf)) (fs : List Frame) (t : Text) → Terms r false t → finish (read_term ops fs t) ≡ on_end (query_joined 1 fs (NearTree (ops ++ phrases t ∷ []) 100 false))
  finish-term ops fs (LeafPart p) terms = finish-leaf p (Chain ops ∷ fs)
  finish-term ops fs (GroupText t) terms = refl
  finish-term ops fs t terms = absurd terms

  -- what follows a text
  chain-operand : (ops : List (List Leaf)) (fs : List Frame) (l : Lexeme) → ends_operand l ≡ true → after_chain r ops fs l ≡ after_operand 6 (NearTree ops 100 false) fs l
  chain-operand ops fs Near e = cc
  chain-operand ops fs l e = refl

  abbrev pub level : Text → ℕ
  level (WithinText t w) = 3
  level t = 6

  abbrev pub is_both : Text → Bool
  is_both (BothText op s t) = true
  is_both t = false

  pub read-one : (k : ℕ) (t : Text) (fs : List Frame) (l : Lexeme) → QueryFits r k t → is_both t ≡ false → is_main fs ≡ true → ends_operand l ≡ true
      → step r (read fs t) l ≡ after_operand (level t) (meaning t) fs l
  read-one k (LeafPart p) fs l fits one main e = step-leaf p fs l (operand-leaf l e) ∙ ap (λ s. step_after r s l) (with_leaf-main (leaf p) fs main)
  read-one k (GroupText t) fs l fits one main e = refl
  read-one k (BothText op s t) fs l fits one main e = cc
  read-one k (WeightText t w) fs l fits one main e = refl
  read-one k (AboveText t w) fs l fits one main e = refl
  read-one k (WithinText t w) fs l fits one main e = refl
  read-one k (ChainText s t) fs l fits one main e = step-term (operands s) fs t l fits.1 (operand-leaf l e) ∙ chain-operand (operands s ++ phrases t ∷ []) fs l e
  read-one k (ListText s t) fs l fits one main e = absurd fits
  read-one k (NearText t tail) fs l fits one main e = refl
  read-one k (DefineText t s) fs l fits one main e = refl

  after-sign : (k : ℕ) (t : Tree) (fs : List Frame) (op : Infix) → tightness op ≤ k → after_operand k t fs (Operator op) ≡ on_operator t fs op
  after-sign k t fs op le = rw (le-leb (tightness op) k le) refl

  level-less : (k : ℕ) (op : Infix) (t : Text) → QueryFits r k t → tightness op ≤ k → is_both t ≡ false → tightness op ≤ level t
  level-less k Or (WithinText t w) fits le one = omega arith
  level-less k And (WithinText t w) fits le one = omega arith
  level-less k Not (WithinText t w) fits le one = omega (arith, le, fits.0)
  level-less k MinusWord (WithinText t w) fits le one = omega (arith, le, fits.0)
  level-less k MinusSign (WithinText t w) fits le one = omega (arith, le, fits.0)
  level-less k Or t fits le one = grind arith
  level-less k And t fits le one = grind arith
  level-less k Not t fits le one = grind arith
  level-less k MinusWord t fits le one = grind arith
  level-less k MinusSign t fits le one = grind arith

  pub read-sign : (op : Infix) (k : ℕ) (t : Text) (fs : List Frame) → QueryFits r k t → tightness op ≤ k → is_main fs ≡ true → step r (read fs t) (Operator op) ≡ on_operator (meaning t) fs op
  read-sign op k (BothText o s t) fs fits le main =
      let le' : tightness op ≤ tightness o = omega (arith, fits.0) in
      let more : tightness op ≤ tightness o + 1 = omega arith in
      read-sign op (tightness o + 1) t (Left o (meaning s) ∷ fs) fits.2 more refl ∙ ap (λ j. Some (state_at Operand (Left op j.1 ∷ j.0))) (query_joined-left (tightness op) o (meaning s) fs (meaning t) le')
  read-sign op k t fs fits le main = read-one k t fs (Operator op) fits refl main refl ∙ after-sign (level t) (meaning t) fs op (level-less k op t fits le refl)

  pub read-close : (k : ℕ) (t : Text) (fs : List Frame) → QueryFits r k t → 1 ≤ k → is_main fs ≡ true → step r (read fs t) Close ≡ on_close (query_joined 1 fs (meaning t))
  read-close k (BothText o s t) fs fits le main =
      let le' : 1 ≤ tightness o = omega (arith, fits.0) in
      let more : 1 ≤ tightness o + 1 = omega arith in
      read-close (tightness o + 1) t (Left o (meaning s) ∷ fs) fits.2 more refl ∙ ap on_close (query_joined-left 1 o (meaning s) fs (meaning t) le')
  read-close k t fs fits le main = read-one k t fs Close fits refl main refl

  pub read-within : (k : ℕ) (t : Text) (fs : List Frame) → QueryFits r k t → 3 ≤ k → is_main fs ≡ true → step r (read fs t) Within ≡ on_within (meaning t) fs
  read-within k (BothText o s t) fs fits le main =
      let le' : 3 ≤ tightness o = omega (arith, fits.0) in
      let more : 3 ≤ tightness o + 1 = omega arith in
      read-within (tightness o + 1) t (Left o (meaning s) ∷ fs) fits.2 more refl ∙ ap (λ j. Some (state_at (SectionName j.1) j.0)) (query_joined-left 3 o (meaning s) fs (meaning t) le')
  read-within k t fs fits le main = read-one k t fs Within fits refl main refl

  tight_less : (op : Infix) → 6 ≤ tightness op → ⊥
  tight_less Or le = omega arith
  tight_less And le = omega arith
  tight_less Not le = omega arith
  tight_less MinusWord le = omega arith
  tight_less MinusSign le = omega arith

  pub read-star : (t : Text) (fs : List Frame) → QueryFits r 6 t → is_main fs ≡ true → step r (read fs t) Star ≡ Some (state_at (Factor (meaning t)) fs)
  read-star (BothText o s t) fs fits main = absurd (tight_less o fits.0)
  read-star (WithinText t w) fs fits main = absurd (omega (arith, fits.0))
  read-star t fs fits main = read-one 6 t fs Star fits refl main refl

  pub read-greater : (t : Text) (fs : List Frame) → QueryFits r 6 t → is_main fs ≡ true → step r (read fs t) Greater ≡ Some (state_at (Threshold (meaning t)) fs)
  read-greater (BothText o s t) fs fits main = absurd (tight_less o fits.0)
  read-greater (WithinText t w) fs fits main = absurd (omega (arith, fits.0))
  read-greater t fs fits main = read-one 6 t fs Greater fits refl main refl

  finish_main : (p : Leaf) (fs : List Frame) → is_main fs ≡ true → finish_after (with_leaf p fs).stage (with_leaf p fs).frames ≡ on_end (query_joined 1 fs (Single p))
  finish_main p fs main = ap (λ s. finish_after s.stage s.frames) (with_leaf-main p fs main)

  pub read-end : (k : ℕ) (t : Text) (fs : List Frame) → QueryFits r k t → 1 ≤ k → is_main fs ≡ true → finish (read fs t) ≡ on_end (query_joined 1 fs (meaning t))
  read-end k (LeafPart p) fs fits le main = finish-leaf p fs ∙ finish_main (leaf p) fs main
  read-end k (BothText o s t) fs fits le main =
      let le' : 1 ≤ tightness o = omega (arith, fits.0) in
      let more : 1 ≤ tightness o + 1 = omega arith in
      read-end (tightness o + 1) t (Left o (meaning s) ∷ fs) fits.2 more refl ∙ ap on_end (query_joined-left 1 o (meaning s) fs (meaning t) le')
  read-end k (ChainText s t) fs fits le main = finish-term (operands s) fs t fits.1
  read-end k (ListText s t) fs fits le main = absurd fits
  read-end k t fs fits le main = refl

  -- runs
  read_from-phrase : (p : PhraseText) (fs : List Frame) (rest : List Lexeme) → read_from r (Some (state_at Operand fs)) (phrase_spelling p ++ rest) ≡ read_from r (Some (state_at (InPhrase (slots_of_phrase p)) fs)) rest
  read_from-phrase (OneWord w) fs rest = refl
  read_from-phrase (NextSlot p w) fs rest = rw (append_assoc (phrase_spelling p) (Word w ∷ []) rest) (read_from-phrase p fs (Word w ∷ rest))
  read_from-phrase (SameSlot p w) fs rest = rw (append_assoc (phrase_spelling p) (Equiv ∷ Word w ∷ []) rest) (read_from-phrase p fs (Equiv ∷ Word w ∷ rest))

  first-word : (relation : Relation) (w : Written) (fs : List Frame) → has_wildcard w.word.bits ≡ false → step_at r (ThesFirst relation) fs (Word w) ≡ Some (state_at (ThesWords relation (w.word ∷ [])) fs)
  first-word relation w fs are = rw are refl

  more-words : (relation : Relation) (ws : List TreeWord) (w : Written) (fs : List Frame) → has_wildcard w.word.bits ≡ false → step_at r (ThesWords relation ws) fs (Word w) ≡ Some (state_at (ThesWords relation (ws ++ w.word ∷ [])) fs)
  more-words relation ws w fs are = rw are refl

  read_from-words : (relation : Relation) (ws : WordsText) (fs : List Frame) (rest : List Lexeme) → AreWords ws
      → read_from r (Some (state_at (ThesFirst relation) fs)) (words_spelling ws ++ rest) ≡ read_from r (Some (state_at (ThesWords relation (words_of ws)) fs)) rest
  read_from-words relation (FirstWord w) fs rest are = ap (λ s. read_from r s rest) (first-word relation w fs are)
  read_from-words relation (MoreWords ws w) fs rest are = rw (append_assoc (words_spelling ws) (Word w ∷ []) rest) (read_from-words relation ws fs (Word w ∷ rest) are.0 ∙ ap (λ s. read_from r s rest) (more-words relation (words_of ws) w fs are.1))

  level-not_name : (a b : Bool) → (not a && b) ≡ true → a ≡ false
  level-not_name true b e = cc
  level-not_name false b e = refl

  argument-name : (relation : Relation) (ws : List TreeWord) (fs : List Frame) (w : Written) → is_name w ≡ true → thes_argument r relation ws fs w ≡ Some (state_at (ThesClose relation ws 1 (name_of w)) fs)
  argument-name relation ws fs w is = rw is refl

  argument-level : (relation : Relation) (ws : List TreeWord) (fs : List Frame) (w : Written) → has_level relation ≡ true → takes_level r w ≡ true
      → thes_argument r relation ws fs w ≡ Some (state_at (ThesLevel relation ws (whole_of w)) fs)
  argument-level relation ws fs w has takes = levels (is_name w) (has_level relation) (takes_level r w) (level-not_name (is_name w) (takes_whole r 1 99 w) takes) has takes
    where
      levels : (a b c : Bool) → a ≡ false → b ≡ true → c ≡ true → cond a (Some (state_at (ThesClose relation ws 1 (name_of w)) fs)) (cond (b && c) (Some (state_at (ThesLevel relation ws (whole_of w)) fs)) None) ≡ Some (state_at (ThesLevel relation ws (whole_of w)) fs)
      levels a b c p q s = rw (p, q, s) refl

  name-step : (relation : Relation) (ws : List TreeWord) (n : ℕ) (fs : List Frame) (w : Written) → is_name w ≡ true → step_at r (ThesName relation ws n) fs (Word w) ≡ Some (state_at (ThesClose relation ws n (name_of w)) fs)
  name-step relation ws n fs w is = rw is refl

  read_from-tail : (relation : Relation) (ws : List TreeWord) (tail : ThesTail) (fs : List Frame) (rest : List Lexeme) → IsThesTail r relation tail
      → read_from r (Some (state_at (ThesWords relation ws) fs)) (thes_tail_spelling tail ++ rest) ≡ read_from r (Some (with_leaf (Terms_of relation ws (tail_level tail) (tail_name tail)) fs)) rest
  read_from-tail relation ws NoTail fs rest its = refl
  read_from-tail relation ws (NameTail w) fs rest its = ap (λ s. read_from r s (Close ∷ rest)) (argument-name relation ws fs w its)
  read_from-tail relation ws (LevelTail w) fs rest its = ap (λ s. read_from r s (Close ∷ rest)) (argument-level relation ws fs w its.0 its.1)
  read_from-tail relation ws (BothTail w v) fs rest its =
      ap (λ s. read_from r s (Comma ∷ Word v ∷ Close ∷ rest)) (argument-level relation ws fs w its.0 its.1) ∙ ap (λ s. read_from r s (Close ∷ rest)) (name-step relation ws (whole_of w) fs v its.2)

  pub read_from-leaf : (p : LeafText) (fs : List Frame) (rest : List Lexeme) → IsLeaf r p → read_from r (Some (state_at Operand fs)) (leaf_spelling p ++ rest) ≡ read_from r (Some (read_leaf fs p)) rest
  read_from-leaf (PhraseLeaf p) fs rest is = read_from-phrase p fs rest
  read_from-leaf (ThesLeaf relation ws tail) fs rest is =
      rw (append_assoc (words_spelling ws) (thes_tail_spelling tail) rest)
      (read_from-words relation ws fs (thes_tail_spelling tail ++ rest) is.0 ∙ read_from-tail relation (words_of ws) tail fs rest is.1)

  pub read_from-terms : (kind : Kind) (qs : List Leaf) (fs : List Frame) (t : Text) (rest : List Lexeme) → Terms r true t
      → read_from r (Some (state_at Operand (TermsOf kind qs ∷ fs))) (spelling t ++ rest) ≡ read_from r (Some (read_terms kind qs fs t)) rest
  read_from-terms kind qs fs (LeafPart p) rest terms = read_from-leaf p (TermsOf kind qs ∷ fs) rest terms
  read_from-terms kind qs fs (GroupText t) rest terms =
      rw (append_assoc (spelling t) (Close ∷ []) rest)
      (read_from-terms InGroup [] (TermsOf kind qs ∷ fs) t (Close ∷ rest) terms ∙ ap (λ s. read_from r s rest) (step-terms InGroup [] (TermsOf kind qs ∷ fs) t Close terms refl))
  read_from-terms kind qs fs (BothText Or s t) rest terms =
      rw (append_assoc (spelling s) (Operator Or ∷ spelling t) rest)
      (read_from-terms kind qs fs s (Operator Or ∷ (spelling t ++ rest)) terms.0 ∙ ap (λ x. read_from r x (spelling t ++ rest)) (step-terms kind qs fs s (Operator Or) terms.0 refl)
      ∙ read_from-terms kind (qs ++ phrases s) fs t rest (Terms-many t terms.1))
  read_from-terms kind qs fs t rest terms = absurd terms

  pub read_from-term : (ops : List (List Leaf)) (fs : List Frame) (t : Text) (rest : List Lexeme) → Terms r false t
      → read_from r (Some (state_at Operand (Chain ops ∷ fs))) (spelling t ++ rest) ≡ read_from r (Some (read_term ops fs t)) rest
  read_from-term ops fs (LeafPart p) rest terms = read_from-leaf p (Chain ops ∷ fs) rest terms
  read_from-term ops fs (GroupText t) rest terms =
      rw (append_assoc (spelling t) (Close ∷ []) rest)
      (read_from-terms InGroup [] (Chain ops ∷ fs) t (Close ∷ rest) terms ∙ ap (λ s. read_from r s rest) (step-terms InGroup [] (Chain ops ∷ fs) t Close terms refl))
  read_from-term ops fs t rest terms = absurd terms

  -- lists of operands
  terms-operands : (t : Text) → Terms r true t → operands t ≡ phrases t ∷ []
  terms-operands (LeafPart p) terms = refl
  terms-operands (GroupText t) terms = refl
  terms-operands (BothText op s t) terms = refl
  terms-operands t terms = absurd terms

  comma-near : (ops : List (List Leaf)) (ps : List Leaf) (fs : List Frame) → may_add r (length (ops ++ ps ∷ [])) ≡ true → comma_terms r (InNear ops) ps fs ≡ Some (state_at Operand (TermsOf (InNear (ops ++ ps ∷ [])) [] ∷ fs))
  comma-near ops ps fs may = rw may refl

  list-comma : (t : Text) (fs : List Frame) → IsList r t → may_add r (length (operands t)) ≡ true → step r (read_list fs t) Comma ≡ Some (state_at Operand (TermsOf (InNear (operands t)) [] ∷ fs))
  list-comma (ListText s t) fs is may = step-terms (InNear (operands s)) [] fs t Comma is.1 refl ∙ comma-near (operands s) (phrases t) fs may
  list-comma (LeafPart p) fs is may = step-terms (InNear []) [] fs (LeafPart p) Comma is refl ∙ comma-near [] (phrases (LeafPart p)) fs may
  list-comma (GroupText t) fs is may = step-terms (InNear []) [] fs (GroupText t) Comma is refl ∙ comma-near [] (phrases (GroupText t)) fs may
  list-comma (BothText op s t) fs is may = step-terms (InNear []) [] fs (BothText op s t) Comma is refl ∙ comma-near [] (phrases (BothText op s t)) fs may
  list-comma t fs is may = absurd is

  near_end-some : (ops : List (List Leaf)) (ps : List Leaf) (fs : List Frame) → 2 ≤ length (ops ++ ps ∷ []) → near_end ops ps fs ≡ Some (state_at (NearEnd (ops ++ ps ∷ [])) fs)
  near_end-some [] ps fs le = absurd (omega arith)
  near_end-some (o ∷ ops) ps fs le = refl

  list-close : (t : Text) (fs : List Frame) → IsList r t → 2 ≤ length (operands t) → step r (read_list fs t) Close ≡ Some (state_at (NearEnd (operands t)) fs)
  list-close (ListText s t) fs is le = step-terms (InNear (operands s)) [] fs t Close is.1 refl ∙ near_end-some (operands s) (phrases t) fs le
  list-close (LeafPart p) fs is le = absurd (omega arith)
  list-close (GroupText t) fs is le = absurd (omega arith)
  list-close (BothText op s t) fs is le = absurd (omega arith)
  list-close t fs is le = absurd is

  read_from-list : (t : Text) (fs : List Frame) (rest : List Lexeme) → IsList r t → read_from r (Some (state_at Operand (TermsOf (InNear []) [] ∷ fs))) (spelling t ++ rest) ≡ read_from r (Some (read_list fs t)) rest
  read_from-list (ListText s t) fs rest is =
      rw (append_assoc (spelling s) (Comma ∷ spelling t) rest)
      (read_from-list s fs (Comma ∷ (spelling t ++ rest)) is.0 ∙ ap (λ x. read_from r x (spelling t ++ rest)) (list-comma s fs is.0 is.2) ∙ read_from-terms (InNear (operands s)) [] fs t rest is.1)
  read_from-list (LeafPart p) fs rest is = read_from-terms (InNear []) [] fs (LeafPart p) rest is
  read_from-list (GroupText t) fs rest is = read_from-terms (InNear []) [] fs (GroupText t) rest is
  read_from-list (BothText op s t) fs rest is = read_from-terms (InNear []) [] fs (BothText op s t) rest is
  read_from-list t fs rest is = absurd is

  whole-step : (stage next : Stage) (fs : List Frame) (w : Written) (b : Bool) → b ≡ true → step_at r stage fs (Word w) ≡ cond b (Some (state_at next fs)) None → step_at r stage fs (Word w) ≡ Some (state_at next fs)
  whole-step stage next fs w b its e = e ∙ rw its refl

  read_from-near_tail : (ops : List (List Leaf)) (tail : NearTail) (fs : List Frame) (rest : List Lexeme) → IsNearTail r tail
      → read_from r (Some (state_at (NearEnd ops) fs)) (near_tail_spelling tail ++ rest) ≡ read_from r (Some (state_at (After 6 (NearTree ops (near_span tail) (near_ordered tail))) fs)) rest
  read_from-near_tail ops NoSpan fs rest its = refl
  read_from-near_tail ops (Span w) fs rest its = ap (λ s. read_from r s (Close ∷ rest)) (whole-step (NearSpan ops) (NearOrder ops (whole_of w)) fs w (takes_whole r 0 100 w) its refl)
  read_from-near_tail ops (Ordered w v) fs rest its =
      ap (λ s. read_from r s (Comma ∷ Word v ∷ Close ∷ rest)) (whole-step (NearSpan ops) (NearOrder ops (whole_of w)) fs w (takes_whole r 0 100 w) its.0 refl)
      ∙ ap (λ s. read_from r s (Close ∷ rest)) (whole-step (NearFlag ops (whole_of w)) (NearClose ops (whole_of w) (says (codes "true") v)) fs v (is_flag v) its.1 refl)

  -- sums
  sum-looser : (k : ℕ) (stack : List SumFrame) (out : List SumStep) → SumLooser k stack → sum_joined k stack out ≡ (stack, out)
  sum-looser k [] out looser = refl
  sum-looser k (SumOpen ∷ stack) out looser = refl
  sum-looser k (SumLeft step ∷ stack) out looser = rw (lt-leb k (step_tightness step) looser) refl

  sum-left : (k : ℕ) (step : SumStep) (stack : List SumFrame) (out : List SumStep) → k ≤ step_tightness step → sum_joined k (SumLeft step ∷ stack) out ≡ sum_joined k stack (out ++ step ∷ [])
  sum-left k step stack out le = rw (le-leb k (step_tightness step) le) refl

  SumLooser-less : (k j : ℕ) (stack : List SumFrame) → k ≤ j → SumLooser k stack → SumLooser j stack
  SumLooser-less k j [] le looser = tt
  SumLooser-less k j (SumOpen ∷ stack) le looser = tt
  SumLooser-less k j (SumLeft step ∷ stack) le looser = omega arith

  or_cases : (a b : Bool) → (a || b) ≡ true → (a ≡ false) → b ≡ true
  or_cases a b e f = rw f at e

  pub may_count-less : (m n : ℕ) → m ≤ n → may_count r n ≡ true → may_count r m ≡ true
  may_count-less m n le may = less (leb_tells m 8) (leb_tells n 8)
    where
      less : ((nat_le m 8 ≡ true) × (m ≤ 8)) ⊎ ((nat_le m 8 ≡ false) × (8 < m)) → ((nat_le n 8 ≡ true) × (n ≤ 8)) ⊎ ((nat_le n 8 ≡ false) × (8 < n)) → may_count r m ≡ true
      less (inl p) q = rw p.0 refl
      less (inr p) (inl q) = absurd (omega (arith, p.1, q.1, le))
      less (inr p) (inr q) = rw (p.0) (or_cases (nat_le n 8) (not r.counts) may q.0)

  sum-goes : (ps : List Leaf) (out : List SumStep) (stack : List SumFrame) (n : ℕ) (fs : List Frame) (l : Lexeme) → is_sum_sign r l ≡ true → may_count r (n + 1) ≡ true
      → sum_after r ps out stack n fs l ≡ sum_sign ps n (sign_step l) (sum_joined (step_tightness (sign_step l)) stack out) fs
  sum-goes ps out stack n fs (Word w) is may = rw (is, may) refl
  sum-goes ps out stack n fs (Operator MinusSign) is may = rw may refl
  sum-goes ps out stack n fs Star is may = rw may refl
  sum-goes ps out stack n fs l is may = cc

  shuffle : (a b c : List SumStep) (x : SumStep) → ((a ++ b) ++ c) ++ x ∷ [] ≡ a ++ ((b ++ c) ++ x ∷ [])
  shuffle a b c x = simp append_assoc

  sum-state : (ps : List Leaf) (n m : ℕ) (j j' : List SumFrame × List SumStep) (fs : List Frame) (step : SumStep) → n ≡ m → j ≡ j' → sum_sign ps n step j fs ≡ sum_sign ps m step j' fs
  sum-state ps n m j j' fs step e f = (λ i. sum_sign ps (e i) step (f i) fs)

  -- an operator after a sum
  sum-sign : (k n : ℕ) (ps : List Leaf) (out : List SumStep) (stack : List SumFrame) (fs : List Frame) (s : SumText) (l : Lexeme) → SumFits r k s → step_tightness (sign_step l) ≤ k → is_sum_sign r l ≡ true → may_count r (n + operator_count s + 1) ≡ true
      → step r (read_sum ps out stack n fs s) l ≡ sum_sign ps (n + operator_count s) (sign_step l) (sum_joined (step_tightness (sign_step l)) stack (out ++ postfix_form s)) fs
  sum-sign k n ps out stack fs (AtomText w) l fits le is may = sum-goes ps (out ++ atom_of w ∷ []) stack n fs l is (subst (λ x. may_count r (x + 1) ≡ true) (omega arith) may) ∙ sum-state ps n (n + 0) _ _ fs (sign_step l) (omega arith) refl
  sum-sign k n ps out stack fs (SumGroup s) l fits le is may = sum-goes ps (out ++ postfix_form s) stack (n + operator_count s) fs l is may
  sum-sign k n ps out stack fs (SumBoth o s t) l fits le is may =
      let le' : step_tightness (sign_step l) ≤ step_tightness (sign_step o) = omega (arith, fits.1) in
      let more : step_tightness (sign_step l) ≤ step_tightness (sign_step o) + 1 = omega arith in
      let same : n + (operator_count s + 1 + operator_count t) ≡ n + operator_count s + 1 + operator_count t = omega arith in
      sum-sign (step_tightness (sign_step o) + 1) (n + operator_count s + 1) ps (out ++ postfix_form s) (SumLeft (sign_step o) ∷ stack) fs t l fits.3 more is (subst (λ x. may_count r (x + 1) ≡ true) same may)
      ∙ sum-state ps _ _ _ _ fs (sign_step l) (sym same) (sum-left (step_tightness (sign_step l)) (sign_step o) stack ((out ++ postfix_form s) ++ postfix_form t) le' ∙ ap (λ x. sum_joined (step_tightness (sign_step l)) stack x) (shuffle out (postfix_form s) (postfix_form t) (sign_step o)))

  sum_close-same : (ps : List Leaf) (n m : ℕ) (j j' : List SumFrame × List SumStep) (fs : List Frame) → n ≡ m → j ≡ j' → sum_close ps n j fs ≡ sum_close ps m j' fs
  sum_close-same ps n m j j' fs e f = (λ i. sum_close ps (e i) (f i) fs)

  -- a parenthesis after a sum
  sum-close : (k n : ℕ) (ps : List Leaf) (out : List SumStep) (stack : List SumFrame) (fs : List Frame) (s : SumText) → SumFits r k s → 1 ≤ k
      → step r (read_sum ps out stack n fs s) Close ≡ sum_close ps (n + operator_count s) (sum_joined 1 stack (out ++ postfix_form s)) fs
  sum-close k n ps out stack fs (AtomText w) fits le = sum_close-same ps n (n + 0) _ _ fs (omega arith) refl
  sum-close k n ps out stack fs (SumGroup s) fits le = refl
  sum-close k n ps out stack fs (SumBoth o s t) fits le =
      let le' : 1 ≤ step_tightness (sign_step o) = omega (arith, fits.1) in
      let more : 1 ≤ step_tightness (sign_step o) + 1 = omega arith in
      let same : n + operator_count s + 1 + operator_count t ≡ n + (operator_count s + 1 + operator_count t) = omega arith in
      sum-close (step_tightness (sign_step o) + 1) (n + operator_count s + 1) ps (out ++ postfix_form s) (SumLeft (sign_step o) ∷ stack) fs t fits.3 more
      ∙ sum_close-same ps _ _ _ _ fs same (sum-left 1 (sign_step o) stack ((out ++ postfix_form s) ++ postfix_form t) le' ∙ ap (λ x. sum_joined 1 stack x) (shuffle out (postfix_form s) (postfix_form t) (sign_step o)))

  atom-step : (ps : List Leaf) (out : List SumStep) (stack : List SumFrame) (n : ℕ) (fs : List Frame) (w : Written) → takes_atom r w ≡ true → step_at r (SumOperand ps out stack n) fs (Word w) ≡ Some (state_at (SumAfter ps (out ++ atom_of w ∷ []) stack n) fs)
  atom-step ps out stack n fs w takes = rw takes refl

  read_from-sum : (k n : ℕ) (ps : List Leaf) (out : List SumStep) (stack : List SumFrame) (fs : List Frame) (s : SumText) (rest : List Lexeme) → SumFits r k s → SumLooser k stack → 1 ≤ k → may_count r (n + operator_count s) ≡ true
      → read_from r (Some (state_at (SumOperand ps out stack n) fs)) (sum_spelling s ++ rest) ≡ read_from r (Some (read_sum ps out stack n fs s)) rest
  read_from-sum k n ps out stack fs (AtomText w) rest fits looser le may = ap (λ s. read_from r s rest) (atom-step ps out stack n fs w fits)
  read_from-sum k n ps out stack fs (SumGroup s) rest fits looser le may =
      rw (append_assoc (sum_spelling s) (Close ∷ []) rest)
      (read_from-sum 1 n ps out (SumOpen ∷ stack) fs s (Close ∷ rest) fits tt (omega arith) may ∙ ap (λ s. read_from r s rest) (sum-close 1 n ps out (SumOpen ∷ stack) fs s fits (omega arith)))
  read_from-sum k n ps out stack fs (SumBoth l s t) rest fits looser le may =
      let j = step_tightness (sign_step l) in
      let looser' = SumLooser-less k j stack fits.1 looser in
      let le' : 1 ≤ j = omega (arith, fits.1) in
      let more : 1 ≤ j + 1 = omega arith in
      let less : step_tightness (sign_step l) < j + 1 = omega arith in
      let may-s : may_count r (n + operator_count s) ≡ true = may_count-less (n + operator_count s) (n + (operator_count s + 1 + operator_count t)) (omega arith) may in
      let may-l : may_count r (n + operator_count s + 1) ≡ true = may_count-less (n + operator_count s + 1) (n + (operator_count s + 1 + operator_count t)) (omega arith) may in
      let may-t : may_count r (n + operator_count s + 1 + operator_count t) ≡ true = may_count-less (n + operator_count s + 1 + operator_count t) (n + (operator_count s + 1 + operator_count t)) (omega arith) may in
      rw (append_assoc (sum_spelling s) (l ∷ sum_spelling t) rest)
      (read_from-sum j n ps out stack fs s (l ∷ (sum_spelling t ++ rest)) fits.2 looser' le' may-s
      ∙ ap (λ x. read_from r x (sum_spelling t ++ rest)) (sum-sign j n ps out stack fs s l fits.2 (omega arith) fits.0 may-l ∙ ap (λ x. sum_sign ps (n + operator_count s) (sign_step l) x fs) (sum-looser j stack (out ++ postfix_form s) looser'))
      ∙ read_from-sum (j + 1) (n + operator_count s + 1) ps (out ++ postfix_form s) (SumLeft (sign_step l) ∷ stack) fs t rest fits.3 less more may-t)

  -- texts
  near-group : (t : Text) (fs : List Frame) → Terms r true t → step r (state_at (After 6 (meaning t)) fs) Near ≡ Some (state_at Operand (Chain (phrases t ∷ []) ∷ fs))
  near-group t fs terms = rw (terms-tree true t terms, terms-phrases true t terms) refl

  open-main : (fs : List Frame) → is_main fs ≡ true → step r (state_at Operand fs) Open ≡ Some (state_at Operand (Group ∷ fs))
  open-main fs main = rw main refl

  near-main : (fs : List Frame) → is_main fs ≡ true → step r (state_at Operand fs) Near ≡ Some (state_at NearWord fs)
  near-main fs main = rw main refl

  define-main : (fs : List Frame) → is_main fs ≡ true → step r (state_at Operand fs) Define ≡ Some (state_at DefineWord fs)
  define-main fs main = rw main refl

  chain-near : (ops : List (List Leaf)) (fs : List Frame) → may_add r (length ops) ≡ true → after_chain r ops fs Near ≡ Some (state_at Operand (Chain ops ∷ fs))
  chain-near ops fs may = rw may refl

  leaf-near : (p : LeafText) (fs : List Frame) → is_main fs ≡ true → step r (read_leaf fs p) Near ≡ Some (state_at Operand (Chain ((leaf p ∷ []) ∷ []) ∷ fs))
  leaf-near p fs main = step-leaf p fs Near refl ∙ ap (λ s. step_after r s Near) (with_leaf-main (leaf p) fs main)

  number-step : (stage next : Stage) (fs : List Frame) (w : Written) (b : Bool) → b ≡ true → step_at r stage fs (Word w) ≡ cond b (Some (state_at next fs)) None → step_at r stage fs (Word w) ≡ Some (state_at next fs)
  number-step stage next fs w b its e = e ∙ rw its refl

  mutual
    pub read_from-text : (k : ℕ) (t : Text) (fs : List Frame) (rest : List Lexeme) → QueryFits r k t → Looser k fs → 1 ≤ k → is_main fs ≡ true → read_from r (Some (state_at Operand fs)) (spelling t ++ rest) ≡ read_from r (Some (read fs t)) rest
    read_from-text k (LeafPart p) fs rest fits looser le main = read_from-leaf p fs rest fits
    read_from-text k (GroupText t) fs rest fits looser le main =
        rw (append_assoc (spelling t) (Close ∷ []) rest)
        (ap (λ s. read_from r s (spelling t ++ Close ∷ rest)) (open-main fs main) ∙ read_from-text 1 t (Group ∷ fs) (Close ∷ rest) fits tt (omega arith) refl ∙ ap (λ s. read_from r s rest) (read-close 1 t (Group ∷ fs) fits (omega arith) refl))
    read_from-text k (BothText op s t) fs rest fits looser le main =
        let looser' = Looser-less k (tightness op) fs fits.0 looser in
        let le' : 1 ≤ tightness op = omega (arith, fits.0) in
        let more : 1 ≤ tightness op + 1 = omega arith in
        let less : tightness op < tightness op + 1 = omega arith in
        rw (append_assoc (spelling s) (Operator op ∷ spelling t) rest)
        (read_from-text (tightness op) s fs (Operator op ∷ (spelling t ++ rest)) fits.1 looser' le' main
        ∙ ap (λ s. read_from r s (spelling t ++ rest)) (read-sign op (tightness op) s fs fits.1 (omega arith) main ∙ ap (λ j. Some (state_at Operand (Left op j.1 ∷ j.0))) (query_joined-looser (tightness op) fs (meaning s) looser'))
        ∙ read_from-text (tightness op + 1) t (Left op (meaning s) ∷ fs) rest fits.2 less more refl)
    read_from-text k (WeightText t w) fs rest fits looser le main =
        rw (append_assoc (spelling t) (Star ∷ Word w ∷ []) rest)
        (read_from-text 6 t fs (Star ∷ Word w ∷ rest) fits.1 (Looser-less k 6 fs fits.0 looser) (omega arith) main
        ∙ ap (λ s. read_from r s (Word w ∷ rest)) (read-star t fs fits.1 main)
        ∙ ap (λ s. read_from r s rest) (number-step (Factor (meaning t)) (After 6 (Weight (tenths_of w) (meaning t))) fs w (takes_tenths r w) fits.2 refl))
    read_from-text k (AboveText t w) fs rest fits looser le main =
        rw (append_assoc (spelling t) (Greater ∷ Word w ∷ []) rest)
        (read_from-text 6 t fs (Greater ∷ Word w ∷ rest) fits.1 (Looser-less k 6 fs fits.0 looser) (omega arith) main
        ∙ ap (λ s. read_from r s (Word w ∷ rest)) (read-greater t fs fits.1 main)
        ∙ ap (λ s. read_from r s rest) (number-step (Threshold (meaning t)) (After 6 (Above (whole_of w) (meaning t))) fs w (takes_whole r 0 100 w) fits.2 refl))
    read_from-text k (WithinText t w) fs rest fits looser le main =
        let looser' = Looser-less k 3 fs fits.0 looser in
        rw (append_assoc (spelling t) (Within ∷ Word w ∷ []) rest)
        (read_from-text 3 t fs (Within ∷ Word w ∷ rest) fits.1 looser' (omega arith) main
        ∙ ap (λ s. read_from r s (Word w ∷ rest)) (read-within 3 t fs fits.1 (omega arith) main ∙ ap (λ j. Some (state_at (SectionName j.1) j.0)) (query_joined-looser 3 fs (meaning t) looser'))
        ∙ ap (λ s. read_from r s rest) (number-step (SectionName (meaning t)) (After 3 (WithinTree (name_of w) (meaning t))) fs w (is_name w) fits.2 refl))
    read_from-text k (ChainText s t) fs rest fits looser le main =
        rw (append_assoc (spelling s) (Near ∷ spelling t) rest) (read_from-chain s fs (spelling t ++ rest) fits.0 fits.2 main ∙ read_from-term (operands s) fs t rest fits.1)
    read_from-text k (ListText s t) fs rest fits looser le main = absurd fits
    read_from-text k (NearText t tail) fs rest fits looser le main =
        (ap (λ x. read_from r (Some (state_at Operand fs)) (Near ∷ Open ∷ Open ∷ x)) (append_assoc (spelling t) (Close ∷ near_tail_spelling tail) rest)
        ∙ ap (λ s. read_from r s (Open ∷ Open ∷ (spelling t ++ Close ∷ (near_tail_spelling tail ++ rest)))) (near-main fs main)
        ∙ read_from-list t fs (Close ∷ (near_tail_spelling tail ++ rest)) fits.1
        ∙ ap (λ s. read_from r s (near_tail_spelling tail ++ rest)) (list-close t fs fits.1 fits.0)
        ∙ read_from-near_tail (operands t) tail fs rest fits.2)
    read_from-text k (DefineText t s) fs rest fits looser le main =
        (ap (λ x. read_from r (Some (state_at Operand fs)) (Define ∷ Open ∷ x)) (append_assoc (spelling t) (Comma ∷ (sum_spelling s ++ Close ∷ [])) rest ∙ ap (λ x. spelling t ++ Comma ∷ x) (append_assoc (sum_spelling s) (Close ∷ []) rest))
        ∙ ap (λ x. read_from r x (Open ∷ (spelling t ++ Comma ∷ (sum_spelling s ++ Close ∷ rest)))) (define-main fs main)
        ∙ read_from-terms InDefine [] fs t (Comma ∷ (sum_spelling s ++ Close ∷ rest)) fits.0
        ∙ ap (λ x. read_from r x (sum_spelling s ++ Close ∷ rest)) (step-terms InDefine [] fs t Comma fits.0 refl)
        ∙ read_from-sum 1 0 (phrases t) [] [] fs s (Close ∷ rest) fits.1 tt (omega arith) (may_count-less (0 + operator_count s) (operator_count s) (omega arith) fits.2)
        ∙ ap (λ x. read_from r x rest) (sum-close 1 0 (phrases t) [] [] fs s fits.1 (omega arith)))

    pub read_from-chain : (t : Text) (fs : List Frame) (rest : List Lexeme) → IsNearChain r t → may_add r (length (operands t)) ≡ true → is_main fs ≡ true
        → read_from r (Some (state_at Operand fs)) (spelling t ++ Near ∷ rest) ≡ read_from r (Some (state_at Operand (Chain (operands t) ∷ fs))) rest
    read_from-chain (LeafPart p) fs rest chain may main = read_from-leaf p fs (Near ∷ rest) chain ∙ ap (λ s. read_from r s rest) (leaf-near p fs main)
    read_from-chain (GroupText t) fs rest chain may main =
        let fits = terms-fit true 1 t (λ _. omega arith) chain in
        rw (append_assoc (spelling t) (Close ∷ []) (Near ∷ rest))
        (ap (λ s. read_from r s (spelling t ++ Close ∷ Near ∷ rest)) (open-main fs main)
        ∙ read_from-text 1 t (Group ∷ fs) (Close ∷ Near ∷ rest) fits tt (omega arith) refl ∙ ap (λ s. read_from r s (Near ∷ rest)) (read-close 1 t (Group ∷ fs) fits (omega arith) refl)
        ∙ ap (λ s. read_from r s rest) (near-group t fs chain))
    read_from-chain (ChainText s t) fs rest chain may main =
        rw (append_assoc (spelling s) (Near ∷ spelling t) (Near ∷ rest))
        (read_from-chain s fs (spelling t ++ Near ∷ rest) chain.0 chain.2 main ∙ read_from-term (operands s) fs t (Near ∷ rest) chain.1
        ∙ ap (λ s. read_from r s rest) (step-term (operands s) fs t Near chain.1 refl ∙ chain-near (operands s ++ phrases t ∷ []) fs may))
    read_from-chain t fs rest chain may main = absurd chain

  pub query-read : (ls : List Lexeme) (t : Tree) → IsQuery r ls t → tree_at_end (read_from r (Some start_state) ls) ≡ Some t
  query-read ls t q =
      let whole : read_from r (Some start_state) (spelling q.text) ≡ Some (read [] q.text) = ap (λ x. read_from r (Some start_state) x) (sym (append-nil (spelling q.text))) ∙ read_from-text 1 q.text [] [] q.fits tt (omega arith) refl in
      ap (λ x. tree_at_end (read_from r (Some start_state) x)) (sym q.spelt) ∙ ap tree_at_end whole ∙ read-end 1 q.text [] q.fits (omega arith) refl ∙ ap Some q.means
