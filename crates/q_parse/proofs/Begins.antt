-- All that the reader has read begins a query.
use Rattle.std.specs.Prelude.{codes}
use Rattle.std.proofs.Common.{Some, ◌≡◌, ℕ, ◌+◌, ◌≤◌, Bool, true, false, List, [], ◌∷◌, ◌++◌, length, refl, sym, ap, ◌∙◌, subst, append_assoc, append-nil, arith}
use Rattle.q_tree.specs.declared.queries.Relation.{Relation}
use Rattle.q_tree.specs.declared.queries.Word.{Word as TreeWord}
use Rattle.q_tree.specs.declared.flats.SumStep.{SumStep}
use Rattle.q_lex.specs.declared.lexemes.Written.{Written}
use Rattle.q_lex.specs.declared.lexemes.Lexeme.{Lexeme}
use Rattle.q_lex.specs.declared.lexemes.Lexeme.TheVariants.{Word, Operator, Open, Close, Comma}
use Rattle.q_lex.specs.Words.{GrammarRules, may_add, may_count, tenths_of, whole_of, atom_of, name_of}
use Rattle.q_tree.specs.declared.queries.Leaf.{Leaf}
use Rattle.q_tree.specs.declared.queries.Leaf.TheVariants.{Phrase, Thes as Terms_of}
use Rattle.q_parse.specs.declared.stages.Kind.{Kind}
use Rattle.q_parse.specs.declared.stages.Kind.TheVariants.{InGroup, InNear, InDefine}
use Rattle.q_parse.specs.declared.stages.SumFrame.{SumFrame}
use Rattle.q_parse.specs.declared.stages.SumFrame.TheVariants.{SumLeft, SumOpen}
use Rattle.q_tree.specs.Trees.{Tree, Single, Weight, Above, Near, Within, Define}
use Rattle.q_parse.specs.Grammar.{OneWord, put_last, default_thesaurus, PhraseLeaf, SumText, SumGroup, SumBoth, sum_spelling, is_sum_sign, sign_step, step_tightness, postfix_form, operator_count, SumFits, NoSpan, Text, LeafPart, GroupText, BothText, ChainText, ListText, spelling, phrases, operands, meaning, tightness, IsList, QueryFits, IsQuery}
use Rattle.q_parse.specs.Machine.{Frame, Left, Group, Chain, TermsOf, Stage, Operand, InPhrase, AfterEquiv, ThesOpen, ThesFirst, ThesWords, ThesArgument, ThesLevel, ThesName, ThesClose, After, AfterChain, AfterTerms, Factor, Threshold, SectionName, NearWord, NearOpen, NearEnd, NearSpan, NearOrder, NearFlag, NearClose, DefineWord, SumOperand, SumAfter, is_main, with_leaf, step}
use Rattle.std.proofs.Common.{length-append}
use Rattle.q_parse.specs.Grammar.{BeginsQuery}
use Rattle.q_parse.proofs.Complete.{Looser, SumLooser}
use Rattle.q_parse.proofs.Readings.{AfterRead, ChainRead, DefineFront, Holds, NearRead, Outer, PhraseRead, ReadsAt, ReadsFrames, SumFrames, SumHolds, TermsRead, ThesRead}
use Rattle.q_parse.proofs.Sound.{QueryFits-less, ListRead, ReadsState, SumFits-less, all_looser, all_sum_looser, chain-holds, close_terms-sound, comma-sound, grouped, list-read, near-shape, near-tree, near_end-sound, phrase-leaf, regroup, sound, step_tight, sum_close-sound, tight}

-- words that complete texts
abbrev word_a : Written
word_a = record { word = record { place = 1; bits = [] }; plain = Some (codes "a") }

abbrev word_1 : Written
word_1 = record { word = record { place = 1; bits = [] }; plain = Some (codes "1") }

abbrev word_true : Written
word_true = record { word = record { place = 1; bits = [] }; plain = Some (codes "true") }

module _ (r : GrammarRules) where
  -- what was read is completed
  pub begins-more : (ls ms : List Lexeme) → BeginsQuery r (ls ++ ms) → BeginsQuery r ls
  begins-more ls ms b = record { rest = ms ++ b.rest; tree = b.tree; whole = subst (λ x. IsQuery r x b.tree) (append_assoc ls ms b.rest) b.whole }

  close_main : (fs : List Frame) (k : ℕ) (t : Text) (before ls : List Lexeme) → 1 ≤ k → ReadsFrames r fs before → is_main fs ≡ true → Looser k fs → QueryFits r k t → before ++ spelling t ≡ ls → BeginsQuery r ls
  close_main [] k t before ls le frames main looser fits spelt = record {
    rest = [];
    tree = meaning t;
    whole = record { text = t; fits = QueryFits-less r 1 k t le fits; spelt = ap (λ x. x ++ spelling t) (sym frames) ∙ spelt ∙ sym (append-nil ls); means = refl };
  }
  close_main (Group ∷ fs) k t before ls le f main looser fits spelt =
      begins-more ls (Close ∷ []) (close_main fs 6 (GroupText t) f.0 (ls ++ Close ∷ []) (omega arith) f.1 f.2 (all_looser r fs) (QueryFits-less r 1 k t le fits) (grouped r f.0 before (spelling t) ls f.3 spelt))
  close_main (Left op s ∷ fs) k t before ls le f main looser fits spelt =
      close_main fs (tightness op) (BothText op f.1 t) f.0 ls (tight r op).0 f.2 f.3 f.4 (omega arith, f.5, QueryFits-less r (tightness op + 1) k t (omega (arith, looser)) fits)
      (regroup r f.0 (spelling f.1) (Operator op) (spelling t) ∙ ap (λ l. l ++ spelling t) f.7 ∙ spelt)
  close_main (Chain ops ∷ fs) k t before ls le f main looser fits spelt = cc
  close_main (TermsOf kind ps ∷ fs) k t before ls le f main looser fits spelt = cc

  begins-after : (k : ℕ) (t : Tree) (fs : List Frame) (ls : List Lexeme) → 1 ≤ k → Holds r k fs t ls → BeginsQuery r ls
  begins-after k t fs ls le h = close_main fs k h.text h.before ls le h.frames h.main h.looser h.fits h.spelt

  begins-chain : (ops : List (List Leaf)) (fs : List Frame) (ls : List Lexeme) → ChainRead r ops fs ls → BeginsQuery r ls
  begins-chain ops fs ls c = begins-after 6 (Near ops 100 false) fs ls (omega arith) (chain-holds r ops fs ls c)

  begins-end : (ops : List (List Leaf)) (fs : List Frame) (ls : List Lexeme) → NearRead r ops [] fs ls → BeginsQuery r ls
  begins-end ops fs ls a = let h = near-tree r ops 100 false NoSpan [] fs ls tt refl refl refl a in begins-more ls (Close ∷ []) (begins-after 6 (Near ops 100 false) fs (ls ++ Close ∷ []) (omega arith) h.1)

  -- a list of operands with one more
  list-many : (t : Text) → IsList r t → 1 ≤ length (operands t)
  list-many (ListText s t) is = omega (arith, length-append (operands s) (phrases t ∷ []))
  list-many (ChainText s t) is = absurd is
  list-many (LeafPart p) is = omega arith
  list-many (GroupText t) is = omega arith
  list-many (BothText op s t) is = omega arith
  list-many t is = absurd is

  abbrev leaf_a : Text
  leaf_a = LeafPart (PhraseLeaf (OneWord word_a))

  begins-first : (ps : List Leaf) (fs : List Frame) (ls : List Lexeme) → ListRead r (ps ∷ []) fs ls → BeginsQuery r ls
  begins-first ps fs ls l =
      let more = ls ++ Comma ∷ Word word_a ∷ [] in
      let closed = more ++ Close ∷ [] in
      begins-more ls (Comma ∷ Word word_a ∷ []) (begins-more more (Close ∷ []) (begins-end (ps ∷ phrases leaf_a ∷ []) fs closed (record {
        before = l.before;
        text = ListText l.text leaf_a;
        frames = l.frames;
        main = l.main;
        list = (l.list, tt, ap (λ x. may_add r (length x)) l.its);
        many = omega (arith, length-append (operands l.text) (phrases leaf_a ∷ []), list-many l.text l.list);
        its = ap (λ x. x ++ phrases leaf_a ∷ []) l.its;
        spelt = near-shape r l.before (spelling l.text ++ Comma ∷ Word word_a ∷ []) more [] Close (near-shape r l.before (spelling l.text) ls (Word word_a ∷ []) Comma l.spelt);
      })))

  begins-list : (ops : List (List Leaf)) (ps : List Leaf) (fs : List Frame) (ls : List Lexeme) → TermsRead r (Outer r (ReadsFrames r fs) (is_main fs) (InNear ops)) ps ls → BeginsQuery r ls
  begins-list [] ps fs ls t = begins-first ps fs ls (list-read r [] ps fs ls t)
  begins-list (o ∷ ops) ps fs ls t = begins-more ls (Close ∷ []) (begins-end (o ∷ (ops ++ ps ∷ [])) fs (ls ++ Close ∷ []) (near_end-sound r (o ∷ ops) ps fs ls t))

  -- sums
  close_sum : (ps : List Leaf) (fs : List Frame) (stack : List SumFrame) (k : ℕ) (s : SumText) (out : List SumStep) (n0 n : ℕ) (before ls : List Lexeme) → 1 ≤ k → may_count r n ≡ true → n0 + operator_count s ≡ n
      → SumFrames r (DefineFront r ps fs) stack out n0 before → SumLooser k stack → SumFits r k s → before ++ sum_spelling s ≡ ls → BeginsQuery r ls
  close_sum ps fs [] k s out n0 n before ls le may count frames looser fits spelt =
      let h : SumHolds r (DefineFront r ps fs) 1 [] (out ++ postfix_form s) n ls = record { before = before; out0 = out; n0 = n0; text = s; frames = frames; looser = tt; fits = SumFits-less r 1 k s le fits; its = refl; count = count; spelt = spelt } in
      let a = sum_close-sound r ps n ([], out ++ postfix_form s) fs ls may h in
      begins-more ls (Close ∷ []) (begins-after 6 (Define ps (out ++ postfix_form s)) fs (ls ++ Close ∷ []) (omega arith) a.1)
  close_sum ps fs (SumOpen ∷ stack) k s out n0 n before ls le may count f looser fits spelt =
      begins-more ls (Close ∷ [])
      (close_sum ps fs stack 3 (SumGroup s) out n0 n f.0 (ls ++ Close ∷ []) (omega arith) may count f.1 (all_sum_looser r stack) (SumFits-less r 1 k s le fits) (grouped r f.0 before (sum_spelling s) ls f.2 spelt))
  close_sum ps fs (SumLeft step ∷ stack) k s out n0 n before ls le may count f looser fits spelt =
      close_sum ps fs stack (step_tightness step) (SumBoth f.4 f.3 s) f.1 f.2 n f.0 ls (step_tight r step).0 may (omega (arith, f.11, count)) f.5 f.6
      (both-fits step f.4 f.3 s (sym f.9) f.8 f.7 (SumFits-less r (step_tightness step + 1) k s (omega (arith, looser)) fits))
      (regroup r f.0 (sum_spelling f.3) f.4 (sum_spelling s) ∙ ap (λ l. l ++ sum_spelling s) f.12 ∙ spelt)
    where
      both-fits : (step : SumStep) (l : Lexeme) (s t : SumText) → step ≡ sign_step l → is_sum_sign r l ≡ true → SumFits r (step_tightness step) s → SumFits r (step_tightness step + 1) t → SumFits r (step_tightness step) (SumBoth l s t)
      both-fits step l s t e is a b = subst (λ x. SumFits r (step_tightness x) (SumBoth l s t)) (sym e) (is, omega arith, subst (λ x. SumFits r (step_tightness x) s) e a, subst (λ x. SumFits r (step_tightness x + 1) t) e b)

  begins-sum : (ps : List Leaf) (out : List SumStep) (stack : List SumFrame) (n : ℕ) (fs : List Frame) (ls : List Lexeme) → ReadsAt r (SumAfter ps out stack n) fs ls → BeginsQuery r ls
  begins-sum ps out stack n fs ls a = let h = a.1 in close_sum ps fs stack 3 h.text h.out0 h.n0 n h.before ls (omega arith) a.0 h.count h.frames h.looser h.fits h.spelt

  begins-atom : (ps : List Leaf) (out : List SumStep) (stack : List SumFrame) (n : ℕ) (fs : List Frame) (ls : List Lexeme) → ReadsAt r (SumOperand ps out stack n) fs ls → BeginsQuery r ls
  begins-atom ps out stack n fs ls a = begins-more ls (Word word_1 ∷ []) (begins-sum ps (out ++ atom_of word_1 ∷ []) stack n fs (ls ++ Word word_1 ∷ []) (sound r (SumOperand ps out stack n) fs (Word word_1) ls a))

  -- terms
  begins-terms : (fs : List Frame) (kind : Kind) (ps : List Leaf) (ls : List Lexeme) → TermsRead r (Outer r (ReadsFrames r fs) (is_main fs) kind) ps ls → BeginsQuery r ls
  begins-terms fs (InNear ops) ps ls t = begins-list ops ps fs ls t
  begins-terms fs InDefine ps ls t = begins-more ls (Comma ∷ []) (begins-atom ps [] [] 0 fs (ls ++ Comma ∷ []) (comma-sound r InDefine ps fs ls t))
  begins-terms [] InGroup ps ls t = let e = t.outer.2 in cc
  begins-terms (Group ∷ fs) InGroup ps ls t = let e = t.outer.2 in cc
  begins-terms (Left op s ∷ fs) InGroup ps ls t = let e = t.outer.2 in cc
  begins-terms (Chain ops ∷ fs) InGroup ps ls t = begins-more ls (Close ∷ []) (begins-chain (ops ++ ps ∷ []) fs (ls ++ Close ∷ []) (close_terms-sound r InGroup ps (Chain ops ∷ fs) ls t))
  begins-terms (TermsOf kind qs ∷ fs) InGroup ps ls t = begins-more ls (Close ∷ []) (begins-terms fs kind (qs ++ ps) (ls ++ Close ∷ []) (close_terms-sound r InGroup ps (TermsOf kind qs ∷ fs) ls t))

  begins-ready : (fs : List Frame) (ls : List Lexeme) → AfterRead r fs ls → BeginsQuery r ls
  begins-ready (TermsOf kind ps ∷ fs) ls a = begins-terms fs kind ps ls a
  begins-ready fs ls a = absurd a

  begins-leaf : (q : Leaf) (fs : List Frame) (ls : List Lexeme) → ReadsState r (with_leaf q fs) ls → BeginsQuery r ls
  begins-leaf q [] ls a = begins-after 6 (Single q) [] ls (omega arith) a.1
  begins-leaf q (Group ∷ fs) ls a = begins-after 6 (Single q) (Group ∷ fs) ls (omega arith) a.1
  begins-leaf q (Left op s ∷ fs) ls a = begins-after 6 (Single q) (Left op s ∷ fs) ls (omega arith) a.1
  begins-leaf q (Chain ops ∷ fs) ls a = begins-chain (ops ++ (q ∷ []) ∷ []) fs ls a
  begins-leaf q (TermsOf kind ps ∷ fs) ls a = begins-terms fs kind (ps ++ q ∷ []) ls a

  begins-phrase : (ss : List (List TreeWord)) (fs : List Frame) (ls : List Lexeme) → PhraseRead r ss [] fs ls → BeginsQuery r ls
  begins-phrase ss fs ls a = begins-leaf (Phrase ss) fs ls (phrase-leaf r ss fs ls a)

  begins-operand : (fs : List Frame) (ls : List Lexeme) → ReadsFrames r fs ls → BeginsQuery r ls
  begins-operand fs ls a = begins-more ls (Word word_a ∷ []) (begins-phrase ((word_a.word ∷ []) ∷ []) fs (ls ++ Word word_a ∷ []) (sound r Operand fs (Word word_a) ls a))

  begins-words : (relation : Relation) (ws : List TreeWord) (fs : List Frame) (ls : List Lexeme) → ThesRead r relation ws [] fs ls → BeginsQuery r ls
  begins-words relation ws fs ls a = begins-more ls (Close ∷ []) (begins-leaf (Terms_of relation ws 1 default_thesaurus) fs (ls ++ Close ∷ []) (sound r (ThesWords relation ws) fs Close ls a))

  begins-first_word : (relation : Relation) (fs : List Frame) (ls : List Lexeme) → ReadsAt r (ThesFirst relation) fs ls → BeginsQuery r ls
  begins-first_word relation fs ls a = begins-more ls (Word word_a ∷ []) (begins-words relation (word_a.word ∷ []) fs (ls ++ Word word_a ∷ []) (sound r (ThesFirst relation) fs (Word word_a) ls a))

  begins-close : (relation : Relation) (ws : List TreeWord) (n : ℕ) (name : List ℕ) (fs : List Frame) (ls : List Lexeme) → ReadsAt r (ThesClose relation ws n name) fs ls → BeginsQuery r ls
  begins-close relation ws n name fs ls a = begins-more ls (Close ∷ []) (begins-leaf (Terms_of relation ws n name) fs (ls ++ Close ∷ []) (sound r (ThesClose relation ws n name) fs Close ls a))

  begins-order : (ops : List (List Leaf)) (n : ℕ) (fs : List Frame) (ls : List Lexeme) → ReadsAt r (NearOrder ops n) fs ls → BeginsQuery r ls
  begins-order ops n fs ls a = let h = sound r (NearOrder ops n) fs Close ls a in begins-more ls (Close ∷ []) (begins-after 6 (Near ops n false) fs (ls ++ Close ∷ []) (omega arith) h.1)

  begins-flag : (ops : List (List Leaf)) (n : ℕ) (ordered : Bool) (fs : List Frame) (ls : List Lexeme) → ReadsAt r (NearClose ops n ordered) fs ls → BeginsQuery r ls
  begins-flag ops n ordered fs ls a = let h = sound r (NearClose ops n ordered) fs Close ls a in begins-more ls (Close ∷ []) (begins-after 6 (Near ops n ordered) fs (ls ++ Close ∷ []) (omega arith) h.1)

  begins-near_open : (fs : List Frame) (ls : List Lexeme) → ReadsAt r NearOpen fs ls → BeginsQuery r ls
  begins-near_open fs ls a = begins-more ls (Open ∷ []) (begins-operand (TermsOf (InNear []) [] ∷ fs) (ls ++ Open ∷ []) (sound r NearOpen fs Open ls a))

  -- What the reader has read begins a query.
  pub begins : (stage : Stage) (fs : List Frame) (ls : List Lexeme) → ReadsAt r stage fs ls → BeginsQuery r ls
  begins Operand fs ls a = begins-operand fs ls a
  begins (InPhrase ss) fs ls a = begins-phrase ss fs ls a
  begins (AfterEquiv ss) fs ls a = begins-more ls (Word word_a ∷ []) (begins-phrase (put_last ss word_a.word) fs (ls ++ Word word_a ∷ []) (sound r (AfterEquiv ss) fs (Word word_a) ls a))
  begins (ThesOpen relation) fs ls a = begins-more ls (Open ∷ []) (begins-first_word relation fs (ls ++ Open ∷ []) (sound r (ThesOpen relation) fs Open ls a))
  begins (ThesFirst relation) fs ls a = begins-first_word relation fs ls a
  begins (ThesWords relation ws) fs ls a = begins-words relation ws fs ls a
  begins (ThesArgument relation ws) fs ls a = begins-more ls (Word word_a ∷ []) (begins-close relation ws 1 (name_of word_a) fs (ls ++ Word word_a ∷ []) (sound r (ThesArgument relation ws) fs (Word word_a) ls a))
  begins (ThesLevel relation ws n) fs ls a = begins-more ls (Close ∷ []) (begins-leaf (Terms_of relation ws n default_thesaurus) fs (ls ++ Close ∷ []) (sound r (ThesLevel relation ws n) fs Close ls a))
  begins (ThesName relation ws n) fs ls a = begins-more ls (Word word_a ∷ []) (begins-close relation ws n (name_of word_a) fs (ls ++ Word word_a ∷ []) (sound r (ThesName relation ws n) fs (Word word_a) ls a))
  begins (ThesClose relation ws n name) fs ls a = begins-close relation ws n name fs ls a
  begins (After k t) fs ls a = begins-after k t fs ls (omega (arith, a.0)) a.1
  begins (AfterChain ops) fs ls a = begins-chain ops fs ls a
  begins AfterTerms fs ls a = begins-ready fs ls a
  begins (Factor t) fs ls a = let h = sound r (Factor t) fs (Word word_1) ls a in begins-more ls (Word word_1 ∷ []) (begins-after 6 (Weight (tenths_of word_1) t) fs (ls ++ Word word_1 ∷ []) (omega arith) h.1)
  begins (Threshold t) fs ls a = let h = sound r (Threshold t) fs (Word word_1) ls a in begins-more ls (Word word_1 ∷ []) (begins-after 6 (Above (whole_of word_1) t) fs (ls ++ Word word_1 ∷ []) (omega arith) h.1)
  begins (SectionName t) fs ls a = let h = sound r (SectionName t) fs (Word word_a) ls a in begins-more ls (Word word_a ∷ []) (begins-after 3 (Within (name_of word_a) t) fs (ls ++ Word word_a ∷ []) (omega arith) h.1)
  begins NearWord fs ls a = begins-more ls (Open ∷ []) (begins-near_open fs (ls ++ Open ∷ []) (sound r NearWord fs Open ls a))
  begins NearOpen fs ls a = begins-near_open fs ls a
  begins (NearEnd ops) fs ls a = begins-end ops fs ls a
  begins (NearSpan ops) fs ls a = begins-more ls (Word word_1 ∷ []) (begins-order ops (whole_of word_1) fs (ls ++ Word word_1 ∷ []) (sound r (NearSpan ops) fs (Word word_1) ls a))
  begins (NearOrder ops n) fs ls a = begins-order ops n fs ls a
  begins (NearFlag ops n) fs ls a = begins-more ls (Word word_true ∷ []) (begins-flag ops n true fs (ls ++ Word word_true ∷ []) (sound r (NearFlag ops n) fs (Word word_true) ls a))
  begins (NearClose ops n ordered) fs ls a = begins-flag ops n ordered fs ls a
  begins DefineWord fs ls a = begins-more ls (Open ∷ []) (begins-operand (TermsOf InDefine [] ∷ fs) (ls ++ Open ∷ []) (sound r DefineWord fs Open ls a))
  begins (SumOperand ps out stack n) fs ls a = begins-atom ps out stack n fs ls a
  begins (SumAfter ps out stack n) fs ls a = begins-sum ps out stack n fs ls a
