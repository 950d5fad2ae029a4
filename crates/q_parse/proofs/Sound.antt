-- Where the reader ends in a tree, the lexemes that it has read are a text with this tree.
use Rattle.std.proofs.Common.{◌≡◌, ℕ, ◌+◌, ◌<◌, ◌≤◌, Bool, true, false, cond, ◌&&◌, inl, inr, List, [], ◌∷◌, ◌++◌, length, refl, sym, ap, ◌∙◌, subst, append_assoc, append-nil, arith, Option, Some, None}
use Rattle.std.proofs.lemmas.Bool.Decides.{leb_tells}
use Rattle.std.specs.Prelude.{codes}
use Rattle.q_tree.specs.declared.queries.Relation.{Relation}
use Rattle.q_tree.specs.declared.queries.Word.{Word as TreeWord}
use Rattle.q_tree.specs.declared.flats.SumStep.{SumStep}
use Rattle.q_tree.specs.declared.flats.SumStep.TheVariants.{Times}
use Rattle.q_lex.specs.declared.lexemes.Written.{Written}
use Rattle.q_lex.specs.declared.lexemes.Infix.{Infix}
use Rattle.q_lex.specs.declared.lexemes.Infix.TheVariants.{Or, And, Not, MinusWord, MinusSign}
use Rattle.q_lex.specs.declared.lexemes.Lexeme.{Lexeme}
use Rattle.q_lex.specs.declared.lexemes.Lexeme.TheVariants.{Word, Operator, Equiv, Near, Within, Star, Greater, Open, Close, Comma, Define, Thes}
use Rattle.q_tree.specs.Limits.{has_wildcard}
use Rattle.q_lex.specs.Words.{GrammarRules, takes_tenths, takes_whole, takes_level, takes_atom, may_add, may_count, tenths_of, whole_of, atom_of, is_name, name_of, is_flag, says}
use Rattle.q_tree.specs.declared.queries.Leaf.{Leaf}
use Rattle.q_tree.specs.declared.queries.Leaf.TheVariants.{Phrase, Thes as Terms_of}
use Rattle.q_parse.specs.declared.stages.Kind.{Kind}
use Rattle.q_parse.specs.declared.stages.Kind.TheVariants.{InGroup, InNear, InDefine}
use Rattle.q_parse.specs.declared.stages.SumFrame.{SumFrame}
use Rattle.q_parse.specs.declared.stages.SumFrame.TheVariants.{SumLeft, SumOpen}
use Rattle.q_tree.specs.Trees.{Tree, Single, Both, Weight, Above, Near as NearTree, Within as WithinTree, Define as DefineTree}
use Rattle.q_parse.specs.Grammar.{op_of, OneWord, NextSlot, SameSlot, phrase_spelling, put_last, FirstWord, MoreWords, words_spelling, ThesTail, NoTail, NameTail, LevelTail, BothTail, thes_tail_spelling, has_level, IsThesTail, default_thesaurus, tail_level, tail_name, LeafText, PhraseLeaf, ThesLeaf, leaf_spelling, leaf, IsLeaf, SumText, AtomText, SumGroup, SumBoth, sum_spelling, is_sum_sign, sign_step, step_tightness, postfix_form, SumFits, NearTail, NoSpan, Span, Ordered, near_tail_spelling, near_span, near_ordered, IsNearTail, Text, LeafPart, GroupText, BothText, WeightText, AboveText, WithinText, ChainText, ListText, NearText, DefineText, spelling, phrases, operands, meaning, tightness, Terms, IsNearChain, IsList, QueryFits, IsQuery}
use Rattle.q_parse.specs.Machine.{Frame, Left, Group, Chain, TermsOf, Stage, Operand, InPhrase, AfterEquiv, ThesOpen, ThesFirst, ThesWords, ThesArgument, ThesLevel, ThesName, ThesClose, After, AfterChain, AfterTerms, Factor, Threshold, SectionName, NearWord, NearOpen, NearEnd, NearSpan, NearOrder, NearFlag, NearClose, DefineWord, SumOperand, SumAfter, State, state_at, is_main, query_joined, on_close, is_terms, phrases_of, after_operand, after_chain, with_terms, with_leaf, near_end, close_terms, comma_terms, after_terms, after_at, sum_joined, sum_sign, sum_close, sum_after, step_at, step, read_from, on_end, finish_after, finish_at, tree_at_end}
use Rattle.std.proofs.Common.{length-append, ⊎_elim}
use Rattle.q_parse.proofs.Complete.{Looser, SumLooser, Terms-many, terms-phrases}
use Rattle.q_parse.proofs.Readings.{AfterRead, ChainRead, DefineFront, Fronts, Holds, NearRead, Outer, PhraseRead, Reads, ReadsAt, ReadsFrames, SumHolds, TermsFront, TermsRead, ThesRead}

module _ (r : GrammarRules) where
  pub QueryFits-less : (k j : ℕ) (t : Text) → k ≤ j → QueryFits r j t → QueryFits r k t
  QueryFits-less k j (BothText op s t) le fits = (omega (arith, fits.0), fits.1, fits.2)
  QueryFits-less k j (WeightText t w) le fits = (omega (arith, fits.0), fits.1, fits.2)
  QueryFits-less k j (AboveText t w) le fits = (omega (arith, fits.0), fits.1, fits.2)
  QueryFits-less k j (WithinText t w) le fits = (omega (arith, fits.0), fits.1, fits.2)
  QueryFits-less k j t le fits = fits

  pub SumFits-less : (k j : ℕ) (s : SumText) → k ≤ j → SumFits r j s → SumFits r k s
  SumFits-less k j (SumBoth l s t) le fits = (fits.0, omega (arith, fits.1), fits.2, fits.3)
  SumFits-less k j s le fits = fits

  pub tight : (op : Infix) → (1 ≤ tightness op) × (tightness op < 6)
  tight Or = (omega arith, omega arith)
  tight And = (omega arith, omega arith)
  tight Not = (omega arith, omega arith)
  tight MinusWord = (omega arith, omega arith)
  tight MinusSign = (omega arith, omega arith)

  pub step_tight : (step : SumStep) → (1 ≤ step_tightness step) × (step_tightness step < 3)
  step_tight Times = (omega arith, omega arith)
  step_tight step = (omega arith, omega arith)

  pub all_looser : (fs : List Frame) → Looser 6 fs
  all_looser (Left op s ∷ fs) = (tight op).1
  all_looser fs = tt

  pub all_sum_looser : (stack : List SumFrame) → SumLooser 3 stack
  all_sum_looser (SumLeft step ∷ stack) = (step_tight step).1
  all_sum_looser stack = tt

  pub regroup : (a b : List Lexeme) (x : Lexeme) (c : List Lexeme) → a ++ (b ++ x ∷ c) ≡ (a ++ (b ++ x ∷ [])) ++ c
  regroup a b x c = sym (append_assoc a (b ++ x ∷ []) c ∙ ap (λ l. a ++ l) (append_assoc b (x ∷ []) c))

  pub wrap : (a b : List Lexeme) → ((a ++ Open ∷ []) ++ b) ++ Close ∷ [] ≡ a ++ (Open ∷ (b ++ Close ∷ []))
  wrap a b = simp append_assoc

  pub one_more : (a b ls : List Lexeme) (x : Lexeme) → a ++ b ≡ ls → a ++ (b ++ x ∷ []) ≡ ls ++ x ∷ []
  one_more a b ls x e = sym (append_assoc a b (x ∷ [])) ∙ ap (λ l. l ++ x ∷ []) e

  pub grouped : (outer before text ls : List Lexeme) → outer ++ Open ∷ [] ≡ before → before ++ text ≡ ls → outer ++ (Open ∷ (text ++ Close ∷ [])) ≡ ls ++ Close ∷ []
  grouped outer before text ls e f = sym (wrap outer text) ∙ ap (λ l. (l ++ text) ++ Close ∷ []) e ∙ ap (λ l. l ++ Close ∷ []) f

  -- the operand and the open operators are one operand
  pub query_joined-holds : (k j : ℕ) (fs : List Frame) (t : Tree) (ls : List Lexeme) → k ≤ j → Holds r j fs t ls → Holds r k (query_joined k fs t).0 (query_joined k fs t).1 ls
  query_joined-holds k j [] t ls le h = record { before = h.before; text = h.text; frames = h.frames; main = h.main; looser = tt; fits = QueryFits-less k j h.text le h.fits; means = h.means; spelt = h.spelt }
  query_joined-holds k j (Group ∷ fs) t ls le h = record { before = h.before; text = h.text; frames = h.frames; main = h.main; looser = tt; fits = QueryFits-less k j h.text le h.fits; means = h.means; spelt = h.spelt }
  query_joined-holds k j (Chain ops ∷ fs) t ls le h = let e = h.main in cc
  query_joined-holds k j (TermsOf kind ps ∷ fs) t ls le h = let e = h.main in cc
  query_joined-holds k j (Left op s ∷ fs) t ls le h =
      let f = h.frames in
      ⊎_elim {C = Holds r k (query_joined k (Left op s ∷ fs) t).0 (query_joined k (Left op s ∷ fs) t).1 ls}
      (λ a. rw a.0 (query_joined-holds k (tightness op) fs (Both (op_of op) s t) ls a.1 (record {
        before = f.0;
        text = BothText op f.1 h.text;
        frames = f.2;
        main = f.3;
        looser = f.4;
        fits = (omega arith, f.5, QueryFits-less (tightness op + 1) j h.text (omega (arith, h.looser)) h.fits);
        means = (λ i. Both (op_of op) (f.6 i) (h.means i));
        spelt = regroup f.0 (spelling f.1) (Operator op) (spelling h.text) ∙ ap (λ l. l ++ spelling h.text) f.7 ∙ h.spelt;
      })))
      (λ b. rw b.0 (record { before = h.before; text = h.text; frames = h.frames; main = refl; looser = b.1; fits = QueryFits-less k j h.text le h.fits; means = h.means; spelt = h.spelt }))
      (leb_tells k (tightness op))

  pub close-sound : (j : List Frame × Tree) (ls : List Lexeme) → Holds r 1 j.0 j.1 ls → Reads r (on_close j) (ls ++ Close ∷ [])
  close-sound (Group ∷ fs, t) ls h =
      let f = h.frames in
      (omega arith, record { before = f.0; text = GroupText h.text; frames = f.1; main = f.2; looser = all_looser fs; fits = h.fits; means = h.means; spelt = grouped f.0 h.before (spelling h.text) ls f.3 h.spelt })
  close-sound ([], t) ls h = tt
  close-sound (Left op s ∷ fs, t) ls h = tt
  close-sound (Chain ops ∷ fs, t) ls h = tt
  close-sound (TermsOf kind ps ∷ fs, t) ls h = tt

  pub joined-6 : (k : ℕ) (fs : List Frame) (t : Tree) (ls : List Lexeme) → 6 ≤ k → Holds r k fs t ls → Holds r 6 fs t ls
  joined-6 k fs t ls le h = record { before = h.before; text = h.text; frames = h.frames; main = h.main; looser = all_looser fs; fits = QueryFits-less 6 k h.text le h.fits; means = h.means; spelt = h.spelt }

  -- a text whose tree is terms is terms
  pub and_true : (a b : Bool) → (a && b) ≡ true → (a ≡ true) × (b ≡ true)
  and_true true b e = (refl, e)
  and_true false b e = cc

  pub tree-terms : (many : Bool) (k : ℕ) (t : Text) → (many ≡ false → 2 ≤ k) → QueryFits r k t → is_terms (meaning t) ≡ true → Terms r many t
  tree-terms many k (LeafPart p) le fits its = fits
  tree-terms many k (GroupText t) le fits its = tree-terms true 1 t (λ e. cc) fits its
  tree-terms true k (BothText Or s t) le fits its =
      let both = and_true (is_terms (meaning s)) (is_terms (meaning t)) its in
      (tree-terms true 1 s (λ e. cc) fits.1 both.0, tree-terms false 2 t (λ _. omega arith) fits.2 both.1)
  tree-terms false k (BothText Or s t) le fits its = absurd (omega (arith, le refl, fits.0))
  tree-terms many k (BothText And s t) le fits its = cc
  tree-terms many k (BothText Not s t) le fits its = cc
  tree-terms many k (BothText MinusWord s t) le fits its = cc
  tree-terms many k (BothText MinusSign s t) le fits its = cc
  tree-terms many k (ListText s t) le fits its = absurd fits
  tree-terms many k t le fits its = cc

  pub term-chain : (t : Text) → Terms r false t → IsNearChain r t
  term-chain (ChainText s t) terms = absurd terms
  term-chain t terms = terms

  pub term-operands : (t : Text) → Terms r false t → operands t ≡ phrases t ∷ []
  term-operands (LeafPart p) terms = refl
  term-operands (GroupText t) terms = refl
  term-operands t terms = absurd terms

  pub near-sound : (b : Bool) (k : ℕ) (t : Tree) (fs : List Frame) (ls : List Lexeme) → 3 ≤ k → is_terms t ≡ b → Holds r k fs t ls → Reads r (cond b (Some (state_at Operand (Chain (phrases_of t ∷ []) ∷ fs))) None) (ls ++ Near ∷ [])
  near-sound false k t fs ls le its h = tt
  near-sound true k t fs ls le its h =
      let terms = tree-terms false k h.text (λ _. omega arith) h.fits (ap is_terms h.means ∙ its) in
      let same = term-operands h.text terms in (
        h.before,
        h.text,
        h.frames,
        h.main,
        term-chain h.text terms,
        ap (λ x. may_add r (length x)) same,
        same ∙ ap (λ x. x ∷ []) (sym (terms-phrases r false h.text terms) ∙ ap phrases_of h.means),
        one_more h.before (spelling h.text) ls Near h.spelt,
      )

  pub after-sound : (k : ℕ) (t : Tree) (fs : List Frame) (l : Lexeme) (ls : List Lexeme) → 3 ≤ k → Holds r k fs t ls → Reads r (after_operand k t fs l) (ls ++ l ∷ [])
  after-sound k t fs (Operator op) ls le h =
      ⊎_elim {C = Reads r (after_operand k t fs (Operator op)) (ls ++ Operator op ∷ [])}
      (λ a.
      let j = query_joined-holds (tightness op) k fs t ls a.1 h in
      rw a.0 (j.before, j.text, j.frames, j.main, j.looser, j.fits, j.means, one_more j.before (spelling j.text) ls (Operator op) j.spelt))
      (λ b. rw b.0 tt)
      (leb_tells (tightness op) k)
  after-sound k t fs Close ls le h = close-sound (query_joined 1 fs t) ls (query_joined-holds 1 k fs t ls (omega arith) h)
  after-sound k t fs Star ls le h =
      ⊎_elim {C = Reads r (after_operand k t fs Star) (ls ++ Star ∷ [])}
      (λ a. rw a.0 (ls, joined-6 k fs t ls a.1 h, refl))
      (λ b. rw b.0 tt)
      (leb_tells 6 k)
  after-sound k t fs Greater ls le h =
      ⊎_elim {C = Reads r (after_operand k t fs Greater) (ls ++ Greater ∷ [])}
      (λ a. rw a.0 (ls, joined-6 k fs t ls a.1 h, refl))
      (λ b. rw b.0 tt)
      (leb_tells 6 k)
  after-sound k t fs Within ls le h = (ls, query_joined-holds 3 k fs t ls le h, refl)
  after-sound k t fs Near ls le h = near-sound (is_terms t) k t fs ls le refl h
  after-sound k t fs l ls le h = tt

  pub chain-holds : (ops : List (List Leaf)) (fs : List Frame) (ls : List Lexeme) → ChainRead r ops fs ls → Holds r 6 fs (NearTree ops 100 false) ls
  chain-holds ops fs ls c = record { before = c.before; text = ChainText c.text c.last; frames = c.frames; main = c.main; looser = all_looser fs; fits = (c.chain, c.term, c.may); means = ap (λ x. NearTree x 100 false) c.its; spelt = c.spelt }

  pub chain-front : (b : Bool) (ops : List (List Leaf)) (fs : List Frame) (ls : List Lexeme) → may_add r (length ops) ≡ b → ChainRead r ops fs ls → Reads r (cond b (Some (state_at Operand (Chain ops ∷ fs))) None) (ls ++ Near ∷ [])
  chain-front false ops fs ls may c = tt
  chain-front true ops fs ls may c = (c.before, ChainText c.text c.last, c.frames, c.main, (c.chain, c.term, c.may), ap (λ x. may_add r (length x)) c.its ∙ may, c.its, one_more c.before (spelling c.text ++ Near ∷ spelling c.last) ls Near c.spelt)

  pub chain-sound : (ops : List (List Leaf)) (fs : List Frame) (l : Lexeme) (ls : List Lexeme) → ChainRead r ops fs ls → Reads r (after_chain r ops fs l) (ls ++ l ∷ [])
  chain-sound ops fs Near ls c = chain-front (may_add r (length ops)) ops fs ls refl c
  chain-sound ops fs l ls c = after-sound 6 (NearTree ops 100 false) fs l ls (omega arith) (chain-holds ops fs ls c)

  -- a term more
  pub terms-more : (S : List Lexeme → Type 0) (ps : List Leaf) (t : Text) (before ls : List Lexeme) → Terms r false t → TermsFront r S ps before → before ++ spelling t ≡ ls → TermsRead r S (ps ++ phrases t) ls
  terms-more S ps t before ls term front spelt = ⊎_elim {C = TermsRead r S (ps ++ phrases t) ls}
      (λ f. record { before = before; text = t; outer = f.1; terms = Terms-many r t term; its = ap (λ x. x ++ phrases t) (sym f.0); spelt = spelt })
      (λ f. let c = f.1 in record {
        before = c.before;
        text = BothText Or c.text t;
        outer = c.outer;
        terms = (c.terms, term);
        its = ap (λ x. x ++ phrases t) c.its;
        spelt = sym (append_assoc c.before (spelling c.text) (Operator Or ∷ spelling t)) ∙ ap (λ x. x ++ Operator Or ∷ spelling t) c.spelt ∙ sym (append_assoc f.0 (Operator Or ∷ []) (spelling t)) ∙ ap (λ x. x ++ spelling t) f.2 ∙ spelt;
      })
      front

  pub chain-more : (ops : List (List Leaf)) (fs : List Frame) (t : Text) (ls before : List Lexeme) → Terms r false t → ReadsFrames r (Chain ops ∷ fs) before → before ++ spelling t ≡ ls → ChainRead r (ops ++ phrases t ∷ []) fs ls
  chain-more ops fs t ls before term f spelt = record {
    before = f.0;
    text = f.1;
    last = t;
    frames = f.2;
    main = f.3;
    chain = f.4;
    term = term;
    may = f.5;
    its = ap (λ x. x ++ phrases t ∷ []) f.6;
    spelt = regroup f.0 (spelling f.1) Near (spelling t) ∙ ap (λ x. x ++ spelling t) f.7 ∙ spelt;
  }

  -- a leaf is ready
  abbrev pub ReadsState : State → List Lexeme → Type 0
  ReadsState s ls = ReadsAt r s.stage s.frames ls

  pub main-leaf : (p : LeafText) (fs : List Frame) (before ls : List Lexeme) → IsLeaf r p → ReadsFrames r fs before → is_main fs ≡ true → before ++ leaf_spelling p ≡ ls → (3 ≤ 6) × Holds r 6 fs (Single (leaf p)) ls
  main-leaf p fs before ls is frames main spelt = (omega arith, record { before = before; text = LeafPart p; frames = frames; main = main; looser = all_looser fs; fits = is; means = refl; spelt = spelt })

  pub leaf-sound : (p : LeafText) (fs : List Frame) (before ls : List Lexeme) → IsLeaf r p → ReadsFrames r fs before → before ++ leaf_spelling p ≡ ls → ReadsState (with_leaf (leaf p) fs) ls
  leaf-sound p [] before ls is frames spelt = main-leaf p [] before ls is frames refl spelt
  leaf-sound p (Group ∷ fs) before ls is frames spelt = main-leaf p (Group ∷ fs) before ls is frames refl spelt
  leaf-sound p (Left op s ∷ fs) before ls is frames spelt = main-leaf p (Left op s ∷ fs) before ls is frames refl spelt
  leaf-sound p (Chain ops ∷ fs) before ls is frames spelt = chain-more ops fs (LeafPart p) ls before is frames spelt
  leaf-sound p (TermsOf kind qs ∷ fs) before ls is frames spelt = terms-more (Outer r (ReadsFrames r fs) (is_main fs) kind) qs (LeafPart p) before ls is frames spelt

  pub leaf-sound-as : (q : Leaf) (p : LeafText) (fs : List Frame) (before ls : List Lexeme) → leaf p ≡ q → IsLeaf r p → ReadsFrames r fs before → before ++ leaf_spelling p ≡ ls → ReadsState (with_leaf q fs) ls
  leaf-sound-as q p fs before ls e is frames spelt = subst (λ x. ReadsState (with_leaf x fs) ls) e (leaf-sound p fs before ls is frames spelt)

  pub phrase-leaf : (ss : List (List TreeWord)) (fs : List Frame) (ls : List Lexeme) → PhraseRead r ss [] fs ls → ReadsState (with_leaf (Phrase ss) fs) ls
  phrase-leaf ss fs ls p = leaf-sound-as (Phrase ss) (PhraseLeaf p.1) fs p.0 ls (ap Phrase p.3) tt p.2 (ap (λ x. p.0 ++ x) (sym (append-nil (phrase_spelling p.1))) ∙ p.4)

  pub thes-leaf : (relation : Relation) (ws : List TreeWord) (n : ℕ) (name : List ℕ) (tail : ThesTail) (front : List Lexeme) (fs : List Frame) (ls : List Lexeme)
      → IsThesTail r relation tail → tail_level tail ≡ n → tail_name tail ≡ name → front ++ Close ∷ [] ≡ thes_tail_spelling tail → ThesRead r relation ws front fs ls
      → ReadsState (with_leaf (Terms_of relation ws n name) fs) (ls ++ Close ∷ [])
  thes-leaf relation ws n name tail front fs ls is level named spelt t = leaf-sound-as (Terms_of relation ws n name) (ThesLeaf relation t.text tail) fs t.before (ls ++ Close ∷ []) (λ i. Terms_of relation (t.its i) (level i) (named i)) (t.are, is) t.frames
      (ap (λ x. t.before ++ Thes relation ∷ Open ∷ (words_spelling t.text ++ x)) (sym spelt) ∙ thes-shape t.before (words_spelling t.text) front (Thes relation) ∙ ap (λ x. x ++ Close ∷ []) t.spelt)
    where
      thes-shape : (a b c : List Lexeme) (x : Lexeme) → a ++ x ∷ Open ∷ (b ++ (c ++ Close ∷ [])) ≡ (a ++ x ∷ Open ∷ (b ++ c)) ++ Close ∷ []
      thes-shape a b c x = simp append_assoc

  -- terms
  pub with_terms-sound : (t : Text) (fs : List Frame) (before ls : List Lexeme) → Terms r false t → ReadsFrames r fs before → before ++ spelling t ≡ ls → Reads r (with_terms (phrases t) fs) ls
  with_terms-sound t [] before ls term frames spelt = tt
  with_terms-sound t (Group ∷ fs) before ls term frames spelt = tt
  with_terms-sound t (Left op s ∷ fs) before ls term frames spelt = tt
  with_terms-sound t (Chain ops ∷ fs) before ls term frames spelt = chain-more ops fs t ls before term frames spelt
  with_terms-sound t (TermsOf kind qs ∷ fs) before ls term frames spelt = terms-more (Outer r (ReadsFrames r fs) (is_main fs) kind) qs t before ls term frames spelt

  -- the operands so far, and one more
  pub list-shape : (a b c : List Lexeme) (ls before : List Lexeme) → a ++ Near ∷ Open ∷ Open ∷ (b ++ Comma ∷ []) ≡ before → before ++ c ≡ ls → a ++ Near ∷ Open ∷ Open ∷ (b ++ Comma ∷ c) ≡ ls
  list-shape a b c ls before e f = shape ∙ ap (λ x. x ++ c) e ∙ f
    where
      shape : a ++ Near ∷ Open ∷ Open ∷ (b ++ Comma ∷ c) ≡ (a ++ Near ∷ Open ∷ Open ∷ (b ++ Comma ∷ [])) ++ c
      shape = simp append_assoc

  pub term-list : (t : Text) → Terms r true t → IsList r t
  term-list (ListText s t) terms = absurd terms
  term-list t terms = terms

  pub terms-operands' : (t : Text) → Terms r true t → operands t ≡ phrases t ∷ []
  terms-operands' (LeafPart p) terms = refl
  terms-operands' (GroupText t) terms = refl
  terms-operands' (BothText op s t) terms = refl
  terms-operands' t terms = absurd terms

  pub record ListRead (ops : List (List Leaf)) (fs : List Frame) (ls : List Lexeme) : Type 0 where
    pub before : List Lexeme
    pub text : Text
    pub frames : ReadsFrames r fs before
    pub main : is_main fs ≡ true
    pub list : IsList r text
    pub its : operands text ≡ ops
    pub spelt : before ++ Near ∷ Open ∷ Open ∷ spelling text ≡ ls

  pub list-read : (ops : List (List Leaf)) (ps : List Leaf) (fs : List Frame) (ls : List Lexeme) → TermsRead r (Outer r (ReadsFrames r fs) (is_main fs) (InNear ops)) ps ls → ListRead (ops ++ ps ∷ []) fs ls
  list-read [] ps fs ls t = let o = t.outer in record {
    before = o.0;
    text = t.text;
    frames = o.1;
    main = o.2;
    list = term-list t.text t.terms;
    its = terms-operands' t.text t.terms ∙ ap (λ x. x ∷ []) t.its;
    spelt = sym (append_assoc o.0 (Near ∷ Open ∷ Open ∷ []) (spelling t.text)) ∙ ap (λ x. x ++ spelling t.text) o.3 ∙ t.spelt;
  }
  list-read (q ∷ ops) ps fs ls t = let o = t.outer in record {
    before = o.0;
    text = ListText o.3.0 t.text;
    frames = o.1;
    main = o.2;
    list = (o.3.1, t.terms, o.3.3);
    its = (λ i. o.3.2 i ++ t.its i ∷ []);
    spelt = list-shape o.0 (spelling o.3.0) (spelling t.text) ls t.before o.3.4 t.spelt;
  }

  pub near-shape : (a b ls tail : List Lexeme) (x : Lexeme) → a ++ Near ∷ Open ∷ Open ∷ b ≡ ls → a ++ Near ∷ Open ∷ Open ∷ (b ++ x ∷ tail) ≡ ls ++ x ∷ tail
  near-shape a b ls tail x e = sym (append_assoc a (Near ∷ Open ∷ Open ∷ b) (x ∷ tail)) ∙ ap (λ l. l ++ x ∷ tail) e

  pub near_end-sound : (ops : List (List Leaf)) (ps : List Leaf) (fs : List Frame) (ls : List Lexeme) → TermsRead r (Outer r (ReadsFrames r fs) (is_main fs) (InNear ops)) ps ls → Reads r (near_end ops ps fs) (ls ++ Close ∷ [])
  near_end-sound [] ps fs ls t = tt
  near_end-sound (q ∷ ops) ps fs ls t = let l = list-read (q ∷ ops) ps fs ls t in record {
    before = l.before;
    text = l.text;
    frames = l.frames;
    main = l.main;
    list = l.list;
    many = omega (arith, ap length l.its, length-append ops (ps ∷ []));
    its = l.its;
    spelt = near-shape l.before (spelling l.text) ls [] Close l.spelt;
  }

  pub comma-front : (qs : List (List Leaf)) (fs : List Frame) (ls : List Lexeme) (o : List Leaf) (ops : List (List Leaf)) → qs ≡ o ∷ ops → may_add r (length qs) ≡ true → ListRead qs fs ls → Outer r (ReadsFrames r fs) (is_main fs) (InNear (o ∷ ops)) (ls ++ Comma ∷ [])
  comma-front qs fs ls o ops e may l = (l.before, l.frames, l.main, (l.text, l.list, l.its ∙ e, ap (λ x. may_add r (length x)) l.its ∙ may, near-shape l.before (spelling l.text) ls [] Comma l.spelt))

  pub near-comma : (b : Bool) (ops : List (List Leaf)) (ps : List Leaf) (fs : List Frame) (ls : List Lexeme) → may_add r (length (ops ++ ps ∷ [])) ≡ b → ListRead (ops ++ ps ∷ []) fs ls → Reads r (cond b (Some (state_at Operand (TermsOf (InNear (ops ++ ps ∷ [])) [] ∷ fs))) None) (ls ++ Comma ∷ [])
  near-comma false ops ps fs ls may l = tt
  near-comma true [] ps fs ls may l = inl (refl, comma-front (ps ∷ []) fs ls ps [] refl may l)
  near-comma true (o ∷ ops) ps fs ls may l = inl (refl, comma-front (o ∷ (ops ++ ps ∷ [])) fs ls o (ops ++ ps ∷ []) refl may l)

  pub define-shape : (a b ls before : List Lexeme) → a ++ Define ∷ Open ∷ [] ≡ before → before ++ b ≡ ls → a ++ Define ∷ Open ∷ (b ++ Comma ∷ []) ≡ ls ++ Comma ∷ []
  define-shape a b ls before e f = shape ∙ ap (λ x. (x ++ b) ++ Comma ∷ []) e ∙ ap (λ x. x ++ Comma ∷ []) f
    where
      shape : a ++ Define ∷ Open ∷ (b ++ Comma ∷ []) ≡ ((a ++ Define ∷ Open ∷ []) ++ b) ++ Comma ∷ []
      shape = simp append_assoc

  pub comma-sound : (kind : Kind) (ps : List Leaf) (fs : List Frame) (ls : List Lexeme) → TermsRead r (Outer r (ReadsFrames r fs) (is_main fs) kind) ps ls → Reads r (comma_terms r kind ps fs) (ls ++ Comma ∷ [])
  comma-sound InGroup ps fs ls t = tt
  comma-sound (InNear ops) ps fs ls t = near-comma (may_add r (length (ops ++ ps ∷ []))) ops ps fs ls refl (list-read ops ps fs ls t)
  comma-sound InDefine ps fs ls t = let o = t.outer in (refl, (refl, refl, (o.0, t.text, o.1, o.2, t.terms, t.its, define-shape o.0 (spelling t.text) ls t.before o.3 t.spelt)))

  pub close_terms-sound : (kind : Kind) (ps : List Leaf) (fs : List Frame) (ls : List Lexeme) → TermsRead r (Outer r (ReadsFrames r fs) (is_main fs) kind) ps ls → Reads r (close_terms kind ps fs) (ls ++ Close ∷ [])
  close_terms-sound InGroup ps fs ls t =
      let o = t.outer in
      subst (λ x. Reads r (with_terms x fs) (ls ++ Close ∷ [])) t.its (with_terms-sound (GroupText t.text) fs o.0 (ls ++ Close ∷ []) t.terms o.1 (grouped o.0 t.before (spelling t.text) ls o.3 t.spelt))
  close_terms-sound (InNear ops) ps fs ls t = near_end-sound ops ps fs ls t
  close_terms-sound InDefine ps fs ls t = tt

  pub terms-sound : (fs : List Frame) (l : Lexeme) (ls : List Lexeme) → AfterRead r fs ls → Reads r (after_terms r fs l) (ls ++ l ∷ [])
  terms-sound (TermsOf kind ps ∷ fs) (Operator Or) ls t = inr (ls, t, refl)
  terms-sound (TermsOf kind ps ∷ fs) Close ls t = close_terms-sound kind ps fs ls t
  terms-sound (TermsOf kind ps ∷ fs) Comma ls t = comma-sound kind ps fs ls t
  terms-sound (TermsOf kind ps ∷ fs) l ls t = tt
  terms-sound fs l ls t = absurd t

  pub after_at-sound : (stage : Stage) (fs : List Frame) (l : Lexeme) (ls : List Lexeme) → ReadsAt r stage fs ls → Reads r (after_at r stage fs l) (ls ++ l ∷ [])
  after_at-sound (After k t) fs l ls a = after-sound k t fs l ls a.0 a.1
  after_at-sound (AfterChain ops) fs l ls a = chain-sound ops fs l ls a
  after_at-sound AfterTerms fs l ls a = terms-sound fs l ls a
  after_at-sound stage fs l ls a = tt

  -- sums
  pub sum-joined-holds : (S : List Lexeme → Type 0) (k j : ℕ) (stack : List SumFrame) (out : List SumStep) (n : ℕ) (ls : List Lexeme) → k ≤ j → SumHolds r S j stack out n ls → SumHolds r S k (sum_joined k stack out).0 (sum_joined k stack out).1 n ls
  sum-joined-holds S k j [] out n ls le h = record { before = h.before; out0 = h.out0; n0 = h.n0; text = h.text; frames = h.frames; looser = tt; fits = SumFits-less k j h.text le h.fits; its = h.its; count = h.count; spelt = h.spelt }
  sum-joined-holds S k j (SumOpen ∷ stack) out n ls le h = record { before = h.before; out0 = h.out0; n0 = h.n0; text = h.text; frames = h.frames; looser = tt; fits = SumFits-less k j h.text le h.fits; its = h.its; count = h.count; spelt = h.spelt }
  sum-joined-holds S k j (SumLeft step ∷ stack) out n ls le h =
      let f = h.frames in
      ⊎_elim {C = SumHolds r S k (sum_joined k (SumLeft step ∷ stack) out).0 (sum_joined k (SumLeft step ∷ stack) out).1 n ls}
      (λ a. rw a.0 (sum-joined-holds S k (step_tightness step) stack (out ++ step ∷ []) n ls a.1 (record {
        before = f.0;
        out0 = f.1;
        n0 = f.2;
        text = SumBoth f.4 f.3 h.text;
        frames = f.5;
        looser = f.6;
        fits = sum-fits step f.4 f.3 h.text (sym f.9) f.8 f.7 (SumFits-less (step_tightness step + 1) j h.text (omega (arith, h.looser)) h.fits);
        its = sum-out f.1 h.out0 (postfix_form f.3) (postfix_form h.text) out (sign_step f.4) step f.9 f.10 h.its;
        count = omega (arith, f.11, h.count);
        spelt = regroup f.0 (sum_spelling f.3) f.4 (sum_spelling h.text) ∙ ap (λ l. l ++ sum_spelling h.text) f.12 ∙ h.spelt;
      })))
      (λ b. rw b.0 (record { before = h.before; out0 = h.out0; n0 = h.n0; text = h.text; frames = h.frames; looser = b.1; fits = SumFits-less k j h.text le h.fits; its = h.its; count = h.count; spelt = h.spelt }))
      (leb_tells k (step_tightness step))
    where
      sum-fits : (step : SumStep) (l : Lexeme) (s t : SumText) → step ≡ sign_step l → is_sum_sign r l ≡ true → SumFits r (step_tightness step) s → SumFits r (step_tightness step + 1) t → SumFits r (step_tightness step) (SumBoth l s t)
      sum-fits step l s t e is a b = subst (λ x. SumFits r (step_tightness x) (SumBoth l s t)) (sym e) (is, omega arith, subst (λ x. SumFits r (step_tightness x) s) e a, subst (λ x. SumFits r (step_tightness x + 1) t) e b)

      sum-out : (a b s t out : List SumStep) (x y : SumStep) → x ≡ y → a ++ s ≡ b → b ++ t ≡ out → a ++ ((s ++ t) ++ x ∷ []) ≡ out ++ y ∷ []
      sum-out a b s t out x y e f g = shape ∙ ap (λ l. (l ++ t) ++ x ∷ []) f ∙ (λ i. g i ++ e i ∷ [])
        where
          shape : a ++ ((s ++ t) ++ x ∷ []) ≡ ((a ++ s) ++ t) ++ x ∷ []
          shape = simp append_assoc

  pub sum_close-sound : (ps : List Leaf) (n : ℕ) (j : List SumFrame × List SumStep) (fs : List Frame) (ls : List Lexeme) → may_count r n ≡ true → SumHolds r (DefineFront r ps fs) 1 j.0 j.1 n ls → Reads r (sum_close ps n j fs) (ls ++ Close ∷ [])
  sum_close-sound ps n ([], out) fs ls may h =
      let f = h.frames in
      let d = f.2 in (
        omega arith,
        record {
          before = d.0;
          text = DefineText d.1 h.text;
          frames = d.2;
          main = d.3;
          looser = all_looser fs;
          fits = (d.4, h.fits, subst (λ x. may_count r x ≡ true) (omega (arith, f.1, h.count)) may);
          means = (λ i. DefineTree (d.5 i) ((ap (λ x. x ++ postfix_form h.text) (sym f.0) ∙ h.its) i));
          spelt = sum-shape d.0 (spelling d.1) (sum_spelling h.text) ls h.before d.6 h.spelt;
        },
      )
    where
      sum-shape : (a b c ls before : List Lexeme) → a ++ Define ∷ Open ∷ (b ++ Comma ∷ []) ≡ before → before ++ c ≡ ls → a ++ Define ∷ Open ∷ (b ++ Comma ∷ (c ++ Close ∷ [])) ≡ ls ++ Close ∷ []
      sum-shape a b c ls before e f = shape ∙ ap (λ x. (x ++ c) ++ Close ∷ []) e ∙ ap (λ x. x ++ Close ∷ []) f
        where
          shape : a ++ Define ∷ Open ∷ (b ++ Comma ∷ (c ++ Close ∷ [])) ≡ ((a ++ Define ∷ Open ∷ (b ++ Comma ∷ [])) ++ c) ++ Close ∷ []
          shape = simp append_assoc
  sum_close-sound ps n (SumOpen ∷ stack, out) fs ls may h =
      let f = h.frames in
      (may, record { before = f.0; out0 = h.out0; n0 = h.n0; text = SumGroup h.text; frames = f.1; looser = all_sum_looser stack; fits = h.fits; its = h.its; count = h.count; spelt = grouped f.0 h.before (sum_spelling h.text) ls f.2 h.spelt })
  sum_close-sound ps n (SumLeft step ∷ stack, out) fs ls may h = tt

  pub sum-goes-sound : (b : Bool) (ps : List Leaf) (out : List SumStep) (stack : List SumFrame) (n : ℕ) (fs : List Frame) (l : Lexeme) (ls : List Lexeme) → (is_sum_sign r l && may_count r (n + 1)) ≡ b → SumHolds r (DefineFront r ps fs) 3 stack out n ls
      → Reads r (cond b (sum_sign ps n (sign_step l) (sum_joined (step_tightness (sign_step l)) stack out) fs) None) (ls ++ l ∷ [])
  sum-goes-sound false ps out stack n fs l ls e h = tt
  sum-goes-sound true ps out stack n fs l ls e h =
      let both = and_true (is_sum_sign r l) (may_count r (n + 1)) e in
      let tight = (step_tight (sign_step l)).1 in
      let j = sum-joined-holds (DefineFront r ps fs) (step_tightness (sign_step l)) 3 stack out n ls (omega arith) h in
      (both.1, (j.before, j.out0, j.n0, j.text, l, j.frames, j.looser, j.fits, both.0, refl, j.its, ap (λ x. x + 1) j.count, one_more j.before (sum_spelling j.text) ls l j.spelt))

  pub sum-sound : (ps : List Leaf) (out : List SumStep) (stack : List SumFrame) (n : ℕ) (fs : List Frame) (l : Lexeme) (ls : List Lexeme) → may_count r n ≡ true → SumHolds r (DefineFront r ps fs) 3 stack out n ls → Reads r (sum_after r ps out stack n fs l) (ls ++ l ∷ [])
  sum-sound ps out stack n fs Close ls may h = sum_close-sound ps n (sum_joined 1 stack out) fs ls may (sum-joined-holds (DefineFront r ps fs) 1 3 stack out n ls (omega arith) h)
  sum-sound ps out stack n fs l ls may h = sum-goes-sound (is_sum_sign r l && may_count r (n + 1)) ps out stack n fs l ls refl h

  -- steps
  pub sound-if : (b : Bool) (s : State) (ls : List Lexeme) → (b ≡ true → ReadsState s ls) → Reads r (cond b (Some s) None) ls
  sound-if true s ls f = f refl
  sound-if false s ls f = tt

  pub open-sound : (b : Bool) (fs : List Frame) (ls : List Lexeme) → is_main fs ≡ b → ReadsFrames r fs ls → ReadsFrames r (cond b Group (TermsOf InGroup []) ∷ fs) (ls ++ Open ∷ [])
  open-sound true fs ls e a = (ls, a, e, refl)
  open-sound false fs ls e a = inl (refl, (ls, a, e, refl))

  pub next-shape : (a b : List Lexeme) (x : Lexeme) → a ++ ((b ++ x ∷ []) ++ []) ≡ (a ++ (b ++ [])) ++ x ∷ []
  next-shape a b x = simp (append_assoc, append-nil)

  pub same-shape : (a b : List Lexeme) (x y : Lexeme) → a ++ ((b ++ x ∷ y ∷ []) ++ []) ≡ (a ++ (b ++ x ∷ [])) ++ y ∷ []
  same-shape a b x y = simp (append_assoc, append-nil)

  pub mark-shape : (a b : List Lexeme) (x : Lexeme) → a ++ (b ++ x ∷ []) ≡ (a ++ (b ++ [])) ++ x ∷ []
  mark-shape a b x = simp (append_assoc, append-nil)

  pub more-shape : (a b : List Lexeme) (x y : Lexeme) → a ++ x ∷ Open ∷ ((b ++ y ∷ []) ++ []) ≡ (a ++ x ∷ Open ∷ (b ++ [])) ++ y ∷ []
  more-shape a b x y = simp (append_assoc, append-nil)

  pub tail-shape : (a b tail : List Lexeme) (x y : Lexeme) → a ++ x ∷ Open ∷ (b ++ (tail ++ y ∷ [])) ≡ (a ++ x ∷ Open ∷ (b ++ tail)) ++ y ∷ []
  tail-shape a b tail x y = simp append_assoc

  pub end-shape : (a b tail : List Lexeme) (y : Lexeme) → a ++ Near ∷ Open ∷ Open ∷ (b ++ Close ∷ (tail ++ y ∷ [])) ≡ (a ++ Near ∷ Open ∷ Open ∷ (b ++ Close ∷ tail)) ++ y ∷ []
  end-shape a b tail y = simp append_assoc

  pub first-sound : (b : Bool) (relation : Relation) (w : Written) (fs : List Frame) (ls : List Lexeme) → has_wildcard w.word.bits ≡ b → Fronts r (Thes relation ∷ Open ∷ []) fs ls
      → Reads r (cond b None (Some (state_at (ThesWords relation (w.word ∷ [])) fs))) (ls ++ Word w ∷ [])
  first-sound true relation w fs ls e f = tt
  first-sound false relation w fs ls e f = record { before = f.0; text = FirstWord w; frames = f.1; are = e; its = refl; spelt = one_more f.0 (Thes relation ∷ Open ∷ []) ls (Word w) f.2 }

  pub more-sound : (b : Bool) (relation : Relation) (ws : List TreeWord) (w : Written) (fs : List Frame) (ls : List Lexeme) → has_wildcard w.word.bits ≡ b → ThesRead r relation ws [] fs ls
      → Reads r (cond b None (Some (state_at (ThesWords relation (ws ++ w.word ∷ [])) fs))) (ls ++ Word w ∷ [])
  more-sound true relation ws w fs ls e t = tt
  more-sound false relation ws w fs ls e t = record { before = t.before; text = MoreWords t.text w; frames = t.frames; are = (t.are, e); its = ap (λ x. x ++ w.word ∷ []) t.its; spelt = more-shape t.before (words_spelling t.text) (Thes relation) (Word w) ∙ ap (λ x. x ++ Word w ∷ []) t.spelt }

  pub thes-grow : (relation : Relation) (ws : List TreeWord) (tail : List Lexeme) (fs : List Frame) (ls : List Lexeme) (x : Lexeme) → ThesRead r relation ws tail fs ls → ThesRead r relation ws (tail ++ x ∷ []) fs (ls ++ x ∷ [])
  thes-grow relation ws tail fs ls x t = record { before = t.before; text = t.text; frames = t.frames; are = t.are; its = t.its; spelt = tail-shape t.before (words_spelling t.text) tail (Thes relation) x ∙ ap (λ l. l ++ x ∷ []) t.spelt }

  pub near-grow : (ops : List (List Leaf)) (tail : List Lexeme) (fs : List Frame) (ls : List Lexeme) (x : Lexeme) → NearRead r ops tail fs ls → NearRead r ops (tail ++ x ∷ []) fs (ls ++ x ∷ [])
  near-grow ops tail fs ls x t = record { before = t.before; text = t.text; frames = t.frames; main = t.main; list = t.list; many = t.many; its = t.its; spelt = end-shape t.before (spelling t.text) tail x ∙ ap (λ l. l ++ x ∷ []) t.spelt }

  pub near-tree : (ops : List (List Leaf)) (n : ℕ) (ordered : Bool) (tail : NearTail) (front : List Lexeme) (fs : List Frame) (ls : List Lexeme)
      → IsNearTail r tail → near_span tail ≡ n → near_ordered tail ≡ ordered → front ++ Close ∷ [] ≡ near_tail_spelling tail → NearRead r ops front fs ls
      → (3 ≤ 6) × Holds r 6 fs (NearTree ops n ordered) (ls ++ Close ∷ [])
  near-tree ops n ordered tail front fs ls is span order spelt t = (
    omega arith,
    record {
      before = t.before;
      text = NearText t.text tail;
      frames = t.frames;
      main = t.main;
      looser = all_looser fs;
      fits = (t.many, t.list, is);
      means = (λ i. NearTree (t.its i) (span i) (order i));
      spelt = ap (λ x. t.before ++ Near ∷ Open ∷ Open ∷ (spelling t.text ++ Close ∷ x)) (sym spelt) ∙ end-shape t.before (spelling t.text) front Close ∙ ap (λ x. x ++ Close ∷ []) t.spelt;
    },
  )

  pub argument-sound : (b : Bool) (relation : Relation) (ws : List TreeWord) (w : Written) (fs : List Frame) (ls : List Lexeme) → is_name w ≡ b → ThesRead r relation ws (Comma ∷ []) fs ls
      → Reads r (cond b (Some (state_at (ThesClose relation ws 1 (name_of w)) fs)) (cond (has_level relation && takes_level r w) (Some (state_at (ThesLevel relation ws (whole_of w)) fs)) None)) (ls ++ Word w ∷ [])
  argument-sound true relation ws w fs ls e t = (NameTail w, Comma ∷ Word w ∷ [], e, refl, refl, refl, thes-grow relation ws (Comma ∷ []) fs ls (Word w) t)
  argument-sound false relation ws w fs ls e t =
      sound-if (has_level relation && takes_level r w) (state_at (ThesLevel relation ws (whole_of w)) fs) (ls ++ Word w ∷ [])
      (λ both. let p = and_true (has_level relation) (takes_level r w) both in (w, p.0, p.1, refl, thes-grow relation ws (Comma ∷ []) fs ls (Word w) t))

  -- each step reads one lexeme more
  pub sound : (stage : Stage) (fs : List Frame) (l : Lexeme) (ls : List Lexeme) → ReadsAt r stage fs ls → Reads r (step_at r stage fs l) (ls ++ l ∷ [])
  sound Operand fs (Word w) ls a = (ls, OneWord w, a, refl, refl)
  sound Operand fs (Thes relation) ls a = (ls, a, refl)
  sound Operand fs Open ls a = open-sound (is_main fs) fs ls refl a
  sound Operand fs Near ls a = sound-if (is_main fs) (state_at NearWord fs) (ls ++ Near ∷ []) (λ e. (ls, a, e, refl))
  sound Operand fs Define ls a = sound-if (is_main fs) (state_at DefineWord fs) (ls ++ Define ∷ []) (λ e. (ls, a, e, refl))
  sound Operand fs l ls a = tt
  sound (InPhrase ss) fs (Word w) ls a = (a.0, NextSlot a.1 w, a.2, ap (λ x. x ++ (w.word ∷ []) ∷ []) a.3, next-shape a.0 (phrase_spelling a.1) (Word w) ∙ ap (λ x. x ++ Word w ∷ []) a.4)
  sound (InPhrase ss) fs Equiv ls a = (a.0, a.1, a.2, a.3, mark-shape a.0 (phrase_spelling a.1) Equiv ∙ ap (λ x. x ++ Equiv ∷ []) a.4)
  sound (InPhrase ss) fs l ls a = after_at-sound (with_leaf (Phrase ss) fs).stage (with_leaf (Phrase ss) fs).frames l ls (phrase-leaf ss fs ls a)
  sound (AfterEquiv ss) fs (Word w) ls a = (a.0, SameSlot a.1 w, a.2, ap (λ x. put_last x w.word) a.3, same-shape a.0 (phrase_spelling a.1) Equiv (Word w) ∙ ap (λ x. x ++ Word w ∷ []) a.4)
  sound (AfterEquiv ss) fs l ls a = tt
  sound (ThesOpen relation) fs Open ls a = (a.0, a.1, one_more a.0 (Thes relation ∷ []) ls Open a.2)
  sound (ThesOpen relation) fs l ls a = tt
  sound (ThesFirst relation) fs (Word w) ls a = first-sound (has_wildcard w.word.bits) relation w fs ls refl a
  sound (ThesFirst relation) fs l ls a = tt
  sound (ThesWords relation ws) fs (Word w) ls a = more-sound (has_wildcard w.word.bits) relation ws w fs ls refl a
  sound (ThesWords relation ws) fs Close ls a = thes-leaf relation ws 1 default_thesaurus NoTail [] fs ls tt refl refl refl a
  sound (ThesWords relation ws) fs Comma ls a = thes-grow relation ws [] fs ls Comma a
  sound (ThesWords relation ws) fs l ls a = tt
  sound (ThesArgument relation ws) fs (Word w) ls a = argument-sound (is_name w) relation ws w fs ls refl a
  sound (ThesArgument relation ws) fs l ls a = tt
  sound (ThesLevel relation ws n) fs Close ls a = thes-leaf relation ws n default_thesaurus (LevelTail a.0) (Comma ∷ Word a.0 ∷ []) fs ls (a.1, a.2) a.3 refl refl a.4
  sound (ThesLevel relation ws n) fs Comma ls a = (a.0, a.1, a.2, a.3, thes-grow relation ws (Comma ∷ Word a.0 ∷ []) fs ls Comma a.4)
  sound (ThesLevel relation ws n) fs l ls a = tt
  sound (ThesName relation ws n) fs (Word v) ls a =
      sound-if (is_name v) (state_at (ThesClose relation ws n (name_of v)) fs) (ls ++ Word v ∷ [])
      (λ e. (BothTail a.0 v, Comma ∷ Word a.0 ∷ Comma ∷ Word v ∷ [], (a.1, a.2, e), a.3, refl, refl, thes-grow relation ws (Comma ∷ Word a.0 ∷ Comma ∷ []) fs ls (Word v) a.4))
  sound (ThesName relation ws n) fs l ls a = tt
  sound (ThesClose relation ws n name) fs Close ls a = thes-leaf relation ws n name a.0 a.1 fs ls a.2 a.3 a.4 a.5 a.6
  sound (ThesClose relation ws n name) fs l ls a = tt
  sound (After k t) fs l ls a = after-sound k t fs l ls a.0 a.1
  sound (AfterChain ops) fs l ls a = chain-sound ops fs l ls a
  sound AfterTerms fs l ls a = terms-sound fs l ls a
  sound (Factor t) fs (Word w) ls a =
      let h = a.1 in
      sound-if (takes_tenths r w) (state_at (After 6 (Weight (tenths_of w) t)) fs) (ls ++ Word w ∷ [])
      (λ e. (
        omega arith,
        record {
          before = h.before;
          text = WeightText h.text w;
          frames = h.frames;
          main = h.main;
          looser = all_looser fs;
          fits = (omega arith, h.fits, e);
          means = ap (λ x. Weight (tenths_of w) x) h.means;
          spelt = number-shape h.before (spelling h.text) a.0 ls Star (Word w) h.spelt a.2;
        },
      ))
    where
      number-shape : (a b c ls : List Lexeme) (x y : Lexeme) → a ++ b ≡ c → c ++ x ∷ [] ≡ ls → a ++ (b ++ x ∷ y ∷ []) ≡ ls ++ y ∷ []
      number-shape a b c ls x y e f = regroup a b x (y ∷ []) ∙ ap (λ l. l ++ y ∷ []) (one_more a b c x e ∙ f)
  sound (Factor t) fs l ls a = tt
  sound (Threshold t) fs (Word w) ls a =
      let h = a.1 in
      sound-if (takes_whole r 0 100 w) (state_at (After 6 (Above (whole_of w) t)) fs) (ls ++ Word w ∷ [])
      (λ e. (
        omega arith,
        record {
          before = h.before;
          text = AboveText h.text w;
          frames = h.frames;
          main = h.main;
          looser = all_looser fs;
          fits = (omega arith, h.fits, e);
          means = ap (λ x. Above (whole_of w) x) h.means;
          spelt = regroup h.before (spelling h.text) Greater (Word w ∷ []) ∙ ap (λ l. l ++ Word w ∷ []) (one_more h.before (spelling h.text) a.0 Greater h.spelt ∙ a.2);
        },
      ))
  sound (Threshold t) fs l ls a = tt
  sound (SectionName t) fs (Word w) ls a =
      let h = a.1 in
      sound-if (is_name w) (state_at (After 3 (WithinTree (name_of w) t)) fs) (ls ++ Word w ∷ [])
      (λ e. (
        omega arith,
        record {
          before = h.before;
          text = WithinText h.text w;
          frames = h.frames;
          main = h.main;
          looser = h.looser;
          fits = (omega arith, h.fits, e);
          means = ap (λ x. WithinTree (name_of w) x) h.means;
          spelt = regroup h.before (spelling h.text) Within (Word w ∷ []) ∙ ap (λ l. l ++ Word w ∷ []) (one_more h.before (spelling h.text) a.0 Within h.spelt ∙ a.2);
        },
      ))
  sound (SectionName t) fs l ls a = tt
  sound NearWord fs Open ls a = (a.0, a.1, a.2, one_more a.0 (Near ∷ []) ls Open a.3)
  sound NearWord fs l ls a = tt
  sound NearOpen fs Open ls a = inl (refl, (a.0, a.1, a.2, one_more a.0 (Near ∷ Open ∷ []) ls Open a.3))
  sound NearOpen fs l ls a = tt
  sound (NearEnd ops) fs Close ls a = near-tree ops 100 false NoSpan [] fs ls tt refl refl refl a
  sound (NearEnd ops) fs Comma ls a = near-grow ops [] fs ls Comma a
  sound (NearEnd ops) fs l ls a = tt
  sound (NearSpan ops) fs (Word w) ls a = sound-if (takes_whole r 0 100 w) (state_at (NearOrder ops (whole_of w)) fs) (ls ++ Word w ∷ []) (λ e. (w, e, refl, near-grow ops (Comma ∷ []) fs ls (Word w) a))
  sound (NearSpan ops) fs l ls a = tt
  sound (NearOrder ops n) fs Close ls a = near-tree ops n false (Span a.0) (Comma ∷ Word a.0 ∷ []) fs ls a.1 a.2 refl refl a.3
  sound (NearOrder ops n) fs Comma ls a = (a.0, a.1, a.2, near-grow ops (Comma ∷ Word a.0 ∷ []) fs ls Comma a.3)
  sound (NearOrder ops n) fs l ls a = tt
  sound (NearFlag ops n) fs (Word v) ls a = sound-if (is_flag v) (state_at (NearClose ops n (says (codes "true") v)) fs) (ls ++ Word v ∷ []) (λ e. (a.0, v, a.1, e, a.2, refl, near-grow ops (Comma ∷ Word a.0 ∷ Comma ∷ []) fs ls (Word v) a.3))
  sound (NearFlag ops n) fs l ls a = tt
  sound (NearClose ops n ordered) fs Close ls a = near-tree ops n ordered (Ordered a.0 a.1) (Comma ∷ Word a.0 ∷ Comma ∷ Word a.1 ∷ []) fs ls (a.2, a.3) a.4 a.5 refl a.6
  sound (NearClose ops n ordered) fs l ls a = tt
  sound DefineWord fs Open ls a = inl (refl, (a.0, a.1, a.2, one_more a.0 (Define ∷ []) ls Open a.3))
  sound DefineWord fs l ls a = tt
  sound (SumOperand ps out stack n) fs (Word w) ls a =
      sound-if (takes_atom r w) (state_at (SumAfter ps (out ++ atom_of w ∷ []) stack n) fs) (ls ++ Word w ∷ [])
      (λ e. (a.0, record { before = ls; out0 = out; n0 = n; text = AtomText w; frames = a.1; looser = all_sum_looser stack; fits = e; its = refl; count = omega arith; spelt = refl }))
  sound (SumOperand ps out stack n) fs Open ls a = (a.0, (ls, a.1, refl))
  sound (SumOperand ps out stack n) fs l ls a = tt
  sound (SumAfter ps out stack n) fs l ls a = sum-sound ps out stack n fs l ls a.0 a.1

  pub read_from-sound : (s : Option State) (ms ls : List Lexeme) → Reads r s ls → Reads r (read_from r s ms) (ls ++ ms)
  read_from-sound None ms ls a = tt
  read_from-sound (Some s) [] ls a = subst (ReadsAt r s.stage s.frames) (sym (append-nil ls)) a
  read_from-sound (Some s) (m ∷ ms) ls a = subst (Reads r (read_from r (step r s m) ms)) (append_assoc ls (m ∷ []) ms) (read_from-sound (step r s m) ms (ls ++ m ∷ []) (sound s.stage s.frames m ls a))

  abbrev pub Means : Option Tree → List Lexeme → Type 0
  Means None ls = Unit {0}
  Means (Some t) ls = IsQuery r ls t

  pub end-sound : (j : List Frame × Tree) (ls : List Lexeme) → Holds r 1 j.0 j.1 ls → Means (on_end j) ls
  end-sound ([], t) ls h = record { text = h.text; fits = h.fits; spelt = ap (λ x. x ++ spelling h.text) (sym h.frames) ∙ h.spelt; means = h.means }
  end-sound (f ∷ fs, t) ls h = tt

  pub finish_after-sound : (stage : Stage) (fs : List Frame) (ls : List Lexeme) → ReadsAt r stage fs ls → Means (finish_after stage fs) ls
  finish_after-sound (After k t) fs ls a = end-sound (query_joined 1 fs t) ls (query_joined-holds 1 k fs t ls (omega (arith, a.0)) a.1)
  finish_after-sound (AfterChain ops) fs ls a = let t = NearTree ops 100 false in end-sound (query_joined 1 fs t) ls (query_joined-holds 1 6 fs t ls (omega arith) (chain-holds ops fs ls a))
  finish_after-sound stage fs ls a = tt

  pub finish-sound : (stage : Stage) (fs : List Frame) (ls : List Lexeme) → ReadsAt r stage fs ls → Means (finish_at stage fs) ls
  finish-sound (InPhrase ss) fs ls a = finish_after-sound (with_leaf (Phrase ss) fs).stage (with_leaf (Phrase ss) fs).frames ls (phrase-leaf ss fs ls a)
  finish-sound stage fs ls a = finish_after-sound stage fs ls a

  pub tree_at_end-sound : (s : Option State) (ls : List Lexeme) → Reads r s ls → Means (tree_at_end s) ls
  tree_at_end-sound None ls a = tt
  tree_at_end-sound (Some s) ls a = finish-sound s.stage s.frames ls a
