-- The first bad place and its cause.
use Rattle.std.proofs.Common.{◌≡◌, ℕ, ◌+◌, ◌<◌, ◌≤◌, nat_le, zero, suc, ⊎_elim, Bool, true, false, cond, not, ◌||◌, ◌&&◌, ◌⊎◌, inl, inr, List, [], ◌∷◌, ◌++◌, length, refl, sym, ap, ◌∙◌, subst, arith, Option, Some, None}
use Rattle.std.specs.Prelude.{codes}
use Rattle.q_tree.specs.declared.flats.SumStep.{SumStep}
use Rattle.q_lex.specs.declared.lexemes.Written.{Written}
use Rattle.q_lex.specs.declared.lexemes.Infix.TheVariants.{MinusSign}
use Rattle.q_lex.specs.declared.lexemes.Lexeme.{Lexeme}
use Rattle.q_lex.specs.declared.lexemes.Lexeme.TheVariants.{Word, Operator, Equiv, Near, Star, Close, Comma, Refused}
use Rattle.q_lex.specs.Words.{GrammarRules, strict, takes_tenths, takes_whole, takes_level, takes_atom, takes_plus, may_add, may_count, tenths_of, whole_of, atom_of, is_name, name_of, says}
use Rattle.q_tree.specs.declared.queries.Leaf.{Leaf}
use Rattle.q_tree.specs.declared.queries.Leaf.TheVariants.{Phrase}
use Rattle.q_parse.specs.declared.stages.Kind.{Kind}
use Rattle.q_parse.specs.declared.stages.Kind.TheVariants.{InGroup, InNear, InDefine}
use Rattle.q_parse.specs.declared.stages.SumFrame.{SumFrame}
use Rattle.q_parse.specs.declared.stages.SumFrame.TheVariants.{SumLeft}
use Rattle.q_tree.specs.Trees.{Tree, Weight, Above}
use Rattle.q_parse.specs.Grammar.{has_level, is_sum_sign, sign_step, step_tightness, IsQuery}
use Rattle.q_parse.specs.Machine.{Frame, Chain, TermsOf, Stage, Operand, InPhrase, ThesArgument, ThesLevel, ThesClose, After, AfterChain, AfterTerms, Factor, Threshold, NearSpan, NearOrder, SumOperand, SumAfter, State, state_at, after_chain, with_leaf, comma_terms, after_terms, after_at, sum_joined, sum_sign, sum_after, step_at, step, read_from, start_state, finish, tree_at_end}
use Rattle.std.proofs.Common.{take, drop, take-append-drop, take_all, get_or, is_some}
use Rattle.std.proofs.lemmas.Bool.{or_parts}
use Rattle.std.proofs.lemmas.List.{take_more}
use Rattle.std.proofs.Math.Seq.{take-length}
use Rattle.ct_base.specs.laws.Bools.{and_weaker}
use Rattle.q_parse.specs.declared.faults.Cause.TheVariants.{OutOfRange, NotInProfile, Syntax}
use Rattle.q_lex.specs.Words.{is_foreign, is_plain, plain_is, in_range, whole, tenths}
use Rattle.q_parse.specs.Grammar.{BeginsQuery, IsFirstBad, GoesOn}
use Rattle.q_parse.specs.Faults.{any_count, any_score, any_number, is_refused, IsCause}
use Rattle.q_parse.specs.Verdicts.{wants_count, wants_score, wants_number, is_mark, cause}
use Rattle.q_parse.proofs.Complete.{query-read}
use Rattle.q_parse.proofs.Readings.{Reads}
use Rattle.q_parse.proofs.Sound.{Means, read_from-sound, tree_at_end-sound}
use Rattle.q_parse.proofs.Begins.{begins}

module _ (r : GrammarRules) where
  pub read_from-append : (s : Option State) (ls ms : List Lexeme) → read_from r s (ls ++ ms) ≡ read_from r (read_from r s ls) ms
  read_from-append None ls ms = refl
  read_from-append (Some s) [] ms = refl
  read_from-append (Some s) (l ∷ ls) ms = read_from-append (step r s l) ls ms

  pub read_from-reads : (ls : List Lexeme) → Reads r (read_from r (Some start_state) ls) ls
  read_from-reads ls = read_from-sound r (Some start_state) ls [] refl

  pub read_from-one : (s : Option State) → read_from r s [] ≡ s
  read_from-one None = refl
  read_from-one (Some s) = refl

  -- where the reader ends in a tree, the lexemes are a query with it
  pub tree_at_end-query : (ls : List Lexeme) (t : Tree) → tree_at_end (read_from r (Some start_state) ls) ≡ Some t → IsQuery r ls t
  tree_at_end-query ls t e = subst (λ x. Means r x ls) e (tree_at_end-sound r (read_from r (Some start_state) ls) ls (read_from-reads ls))

  -- what was read begins a query
  pub read-begins : (ls : List Lexeme) (s : State) → read_from r (Some start_state) ls ≡ Some s → BeginsQuery r ls
  read-begins ls s e = begins r s.stage s.frames ls (subst (λ x. Reads r x ls) e (read_from-reads ls))

  -- what the reader refuses begins no query
  pub refused-begins_none : (ls : List Lexeme) → read_from r (Some start_state) ls ≡ None → BeginsQuery r ls → ⊥
  refused-begins_none ls e b =
      let read : tree_at_end (read_from r (Some start_state) (ls ++ b.rest)) ≡ Some b.tree = query-read r (ls ++ b.rest) b.tree b.whole in
      let refused : tree_at_end (read_from r (Some start_state) (ls ++ b.rest)) ≡ None = ap tree_at_end (read_from-append (Some start_state) ls b.rest ∙ ap (λ x. read_from r x b.rest) e) in
      let no : None ≡ Some b.tree = sym refused ∙ read in cc

  -- one lexeme more
  pub read_from-more : (ls : List Lexeme) (i : ℕ) (d : Lexeme) (s : State) (next : Option State) → i < length ls
      → read_from r (Some start_state) (take i ls) ≡ Some s → step r s (get_or ls i d) ≡ next → read_from r (Some start_state) (take (i + 1) ls) ≡ next
  read_from-more ls i d s next within before goes =
      ap (λ x. read_from r (Some start_state) x) (take_more ls i d within) ∙ read_from-append (Some start_state) (take i ls) (get_or ls i d ∷ []) ∙ ap (λ x. read_from r x (get_or ls i d ∷ [])) before ∙ read_from-one (step r s (get_or ls i d)) ∙ goes

  pub read_from-all : (ls : List Lexeme) (i : ℕ) (s : State) → length ls ≤ i → read_from r (Some start_state) (take i ls) ≡ Some s → read_from r (Some start_state) ls ≡ Some s
  read_from-all ls i s le e = ap (λ x. read_from r (Some start_state) x) (sym (take_all i ls le)) ∙ e

-- a refusal at a lexeme, and one at the end
pub bad-at_lexeme : (ls : List Lexeme) (place : ℕ) (s : State) → place < length ls → read_from strict (Some start_state) (take place ls) ≡ Some s → read_from strict (Some start_state) (take (place + 1) ls) ≡ None → IsFirstBad ls place
bad-at_lexeme ls place s within before refused = record {
  before = read-begins strict (take place ls) s before;
  within = omega arith;
  lexeme = λ _. refused-begins_none strict (take (place + 1) ls) refused;
  no_query = λ tree q. refused-begins_none strict (take (place + 1) ls) refused (record { rest = drop (place + 1) ls; tree = tree; whole = subst (λ x. IsQuery strict x tree) (sym (take-append-drop (place + 1) ls)) q });
}

pub bad-at_end : (ls : List Lexeme) (s : State) → read_from strict (Some start_state) ls ≡ Some s → finish s ≡ None → IsFirstBad ls (length ls)
bad-at_end ls s read unfinished = record {
  before = subst (BeginsQuery strict) (sym (take-length ls)) (read-begins strict ls s read);
  within = omega arith;
  lexeme = λ less _. absurd (omega arith);
  no_query = λ tree q. (let no : None ≡ Some tree = sym unfinished ∙ sym (ap tree_at_end read) ∙ query-read strict ls tree q in cc);
}

-- what the strict reader reads, others do too
or-lift : (x p q : Bool) → (x || (not true && p)) ≡ true → (x || q) ≡ true
or-lift true p q e = refl
or-lift false p q e = cc

or-more : (x y z : Bool) → (y ≡ true → z ≡ true) → (x || y) ≡ true → (x || z) ≡ true
or-more true y z f e = refl
or-more false y z f e = f e

and-both : (x y z u : Bool) → (x ≡ true → z ≡ true) → (y ≡ true → u ≡ true) → (x && y) ≡ true → (z && u) ≡ true
and-both true y z u f g e = rw (f refl, g e) refl
and-both false y z u f g e = cc

count-lift : (x q : Bool) → (x || not true) ≡ true → (x || q) ≡ true
count-lift true q e = refl
count-lift false q e = cc

module _ (r : GrammarRules) where
  tenths-lift : (w : Written) → takes_tenths strict w ≡ true → takes_tenths r w ≡ true
  tenths-lift w e = or-lift (plain_is (λ cs. in_range 1 100 (tenths cs)) w.plain) (is_plain w) (not r.numbers && is_plain w) e

  whole-lift : (lo hi : ℕ) (w : Written) → takes_whole strict lo hi w ≡ true → takes_whole r lo hi w ≡ true
  whole-lift lo hi w e = or-lift (plain_is (λ cs. in_range lo hi (whole cs)) w.plain) (is_plain w) (not r.numbers && is_plain w) e

  level-lift : (w : Written) → takes_level strict w ≡ true → takes_level r w ≡ true
  level-lift w e = and_weaker (not (is_name w)) (takes_whole strict 1 99 w) (takes_whole r 1 99 w) (whole-lift 1 99 w) e

  atom-lift : (w : Written) → takes_atom strict w ≡ true → takes_atom r w ≡ true
  atom-lift w e = or-more (says (codes "discrete") w) _ _
      (or-more (says (codes "occurrence") w) _ _ (λ f. atoms (takes_whole strict 0 1000 w) (takes_whole r 0 1000 w) (is_foreign w) (not r.scores && is_foreign w) (whole-lift 0 1000 w) f)) e
    where
      atoms : (x y p q : Bool) → (x ≡ true → y ≡ true) → (x || (not true && p)) ≡ true → (y || q) ≡ true
      atoms true y p q f e = rw (f refl) refl
      atoms false y p q f e = cc

  plus-lift : (w : Written) → takes_plus strict w ≡ true → takes_plus r w ≡ true
  plus-lift w e = or-lift (says (codes "+") w) (is_foreign w) (not r.scores && is_foreign w) e

  sign-lift : (l : Lexeme) → is_sum_sign strict l ≡ true → is_sum_sign r l ≡ true
  sign-lift (Word w) e = plus-lift w e
  sign-lift (Operator MinusSign) e = refl
  sign-lift Star e = refl
  sign-lift l e = cc

  add-lift : (n : ℕ) → may_add strict n ≡ true → may_add r n ≡ true
  add-lift n e = count-lift (nat_le n 15) (not r.counts) e

  may_count-lift : (n : ℕ) → may_count strict n ≡ true → may_count r n ≡ true
  may_count-lift n e = count-lift (nat_le n 8) (not r.counts) e

  if-lift : (b c : Bool) (o : Option State) (s : State) → (b ≡ true → c ≡ true) → cond b o None ≡ Some s → cond c o None ≡ Some s
  if-lift true c o s f e = rw (f refl) e
  if-lift false c o s f e = cc

  chain-lift : (ops : List (List Leaf)) (fs : List Frame) (l : Lexeme) (s : State) → after_chain strict ops fs l ≡ Some s → after_chain r ops fs l ≡ Some s
  chain-lift ops fs Near s e = if-lift (may_add strict (length ops)) (may_add r (length ops)) (Some (state_at Operand (Chain ops ∷ fs))) s (add-lift (length ops)) e
  chain-lift ops fs l s e = e

  comma-lift : (kind : Kind) (ps : List Leaf) (fs : List Frame) (s : State) → comma_terms strict kind ps fs ≡ Some s → comma_terms r kind ps fs ≡ Some s
  comma-lift (InNear ops) ps fs s e = if-lift (may_add strict (length (ops ++ ps ∷ []))) (may_add r (length (ops ++ ps ∷ []))) (Some (state_at Operand (TermsOf (InNear (ops ++ ps ∷ [])) [] ∷ fs))) s (add-lift (length (ops ++ ps ∷ []))) e
  comma-lift kind ps fs s e = e

  terms-lift : (fs : List Frame) (l : Lexeme) (s : State) → after_terms strict fs l ≡ Some s → after_terms r fs l ≡ Some s
  terms-lift (TermsOf kind ps ∷ fs) Comma s e = comma-lift kind ps fs s e
  terms-lift fs l s e = e

  after-lift : (stage : Stage) (fs : List Frame) (l : Lexeme) (s : State) → after_at strict stage fs l ≡ Some s → after_at r stage fs l ≡ Some s
  after-lift (AfterChain ops) fs l s e = chain-lift ops fs l s e
  after-lift AfterTerms fs l s e = terms-lift fs l s e
  after-lift stage fs l s e = e

  argument-lift : (b : Bool) (x y : Option State) (c d : Bool) (s : State) → (c ≡ true → d ≡ true) → cond b x (cond c y None) ≡ Some s → cond b x (cond d y None) ≡ Some s
  argument-lift true x y c d s f e = e
  argument-lift false x y c d s f e = if-lift c d y s f e

  sum-lift : (ps : List Leaf) (out : List SumStep) (stack : List SumFrame) (n : ℕ) (fs : List Frame) (l : Lexeme) (s : State) → sum_after strict ps out stack n fs l ≡ Some s → sum_after r ps out stack n fs l ≡ Some s
  sum-lift ps out stack n fs Close s e = e
  sum-lift ps out stack n fs l s e =
      if-lift (is_sum_sign strict l && may_count strict (n + 1)) (is_sum_sign r l && may_count r (n + 1)) (sum_sign ps n (sign_step l) (sum_joined (step_tightness (sign_step l)) stack out) fs) s
      (and-both (is_sum_sign strict l) (may_count strict (n + 1)) (is_sum_sign r l) (may_count r (n + 1)) (sign-lift l) (may_count-lift (n + 1))) e

  lift : (stage : Stage) (fs : List Frame) (l : Lexeme) (s : State) → step_at strict stage fs l ≡ Some s → step_at r stage fs l ≡ Some s
  lift (InPhrase ss) fs (Word w) s e = e
  lift (InPhrase ss) fs Equiv s e = e
  lift (InPhrase ss) fs l s e = after-lift (with_leaf (Phrase ss) fs).stage (with_leaf (Phrase ss) fs).frames l s e
  lift (ThesArgument relation ws) fs (Word w) s e =
      argument-lift (is_name w) _ _ (has_level relation && takes_level strict w) (has_level relation && takes_level r w) s (and_weaker (has_level relation) (takes_level strict w) (takes_level r w) (level-lift w)) e
  lift (AfterChain ops) fs l s e = chain-lift ops fs l s e
  lift AfterTerms fs l s e = terms-lift fs l s e
  lift (Factor t) fs (Word w) s e = if-lift (takes_tenths strict w) (takes_tenths r w) _ s (tenths-lift w) e
  lift (Threshold t) fs (Word w) s e = if-lift (takes_whole strict 0 100 w) (takes_whole r 0 100 w) _ s (whole-lift 0 100 w) e
  lift (NearSpan ops) fs (Word w) s e = if-lift (takes_whole strict 0 100 w) (takes_whole r 0 100 w) _ s (whole-lift 0 100 w) e
  lift (SumOperand ps out stack n) fs (Word w) s e = if-lift (takes_atom strict w) (takes_atom r w) _ s (atom-lift w) e
  lift (SumAfter ps out stack n) fs l s e = sum-lift ps out stack n fs l s e
  lift stage fs l s e = e

  lift-on : (p q : Option State) (t : State) (ls : List Lexeme) → ((s : State) → p ≡ Some s → q ≡ Some s) → ((s : State) → read_from strict (Some s) ls ≡ Some t → read_from r (Some s) ls ≡ Some t)
      → read_from strict p ls ≡ Some t → read_from r q ls ≡ Some t
  lift-on None q t ls goes more e = cc
  lift-on (Some s) q t ls goes more e = ap (λ x. read_from r x ls) (goes s refl) ∙ more s e

  pub read_from-lift : (ls : List Lexeme) (s t : State) → read_from strict (Some s) ls ≡ Some t → read_from r (Some s) ls ≡ Some t
  read_from-lift [] s t e = e
  read_from-lift (l ∷ ls) s t e = lift-on (step strict s l) (step r s l) t ls (lift s.stage s.frames l) (λ u. read_from-lift ls u t) e

  some_of : {X : Type 0} (o : Option X) → is_some o ≡ true → (x : X) × (o ≡ Some x)
  some_of None e = cc
  some_of (Some x) e = (x, refl)

  none_of : {X : Type 0} (o : Option X) → is_some o ≡ false → o ≡ None
  none_of None e = refl
  none_of (Some x) e = cc

  -- whether the other grammar goes on where this one doesn't
  pub goes-on : (ls : List Lexeme) (place : ℕ) (s : State) (d : Lexeme) → place < length ls → read_from strict (Some start_state) (take place ls) ≡ Some s → is_some (step r s (get_or ls place d)) ≡ true → GoesOn r ls place
  goes-on ls place s d within read goes =
      let next = some_of (step r s (get_or ls place d)) goes in
      (within, read-begins r (take (place + 1) ls) next.0 (read_from-more r ls place d s (Some next.0) within (read_from-lift (take place ls) start_state s read) next.1))

  pub goes-not_on : (ls : List Lexeme) (place : ℕ) (s : State) (d : Lexeme) → place < length ls → read_from strict (Some start_state) (take place ls) ≡ Some s → is_some (step r s (get_or ls place d)) ≡ false → GoesOn r ls place → ⊥
  goes-not_on ls place s d within read goes g =
      let none = none_of (step r s (get_or ls place d)) goes in
      refused-begins_none r (take (place + 1) ls) (read_from-more r ls place d s None within (read_from-lift (take place ls) start_state s read) none) g.1

-- of what the strict reader refuses, which other reader goes on
refused-if : (b c : Bool) (s t : State) → cond b (Some s) None ≡ None → is_some (cond c (Some t) None) ≡ c
refused-if b true s t e = refl
refused-if b false s t e = refl

not-if : (b : Bool) (s : State) → cond b (Some s) None ≡ None → b ≡ false
not-if true s e = cc
not-if false s e = refl

if-some : (c : Bool) (t : State) → is_some (cond c (Some t) None) ≡ c
if-some true t = refl
if-some false t = refl

or-true : (b : Bool) → (b || true) ≡ true
or-true true = refl
or-true false = refl

or-false : (b c : Bool) → b ≡ false → (b || c) ≡ c
or-false b c e = rw e refl

-- any count
count-near : (ops : List (List Leaf)) (fs : List Frame) → is_some (after_chain any_count ops fs Near) ≡ true
count-near ops fs = if-some (may_add any_count (length ops)) (state_at Operand (Chain ops ∷ fs)) ∙ or-true (nat_le (length ops) 15)

count-comma : (ops : List (List Leaf)) (ps : List Leaf) (fs : List Frame) → is_some (comma_terms any_count (InNear ops) ps fs) ≡ true
count-comma ops ps fs = if-some (may_add any_count (length (ops ++ ps ∷ []))) (state_at Operand (TermsOf (InNear (ops ++ ps ∷ [])) [] ∷ fs)) ∙ or-true (nat_le (length (ops ++ ps ∷ [])) 15)

and-right : (a b : Bool) → b ≡ true → (a && b) ≡ a
and-right true b e = e
and-right false b e = refl

count-sum : (ps : List Leaf) (out : List SumStep) (stack : List SumFrame) (n : ℕ) (fs : List Frame) (l : Lexeme) → sum_after strict ps out stack n fs l ≡ None → is_some (sum_after any_count ps out stack n fs l) ≡ is_sum_sign strict l
count-sum ps out stack n fs Close e = ap is_some e
count-sum ps out stack n fs l e =
    if-some (is_sum_sign any_count l && may_count any_count (n + 1)) (state_at (SumOperand ps (sum_joined (step_tightness (sign_step l)) stack out).1 (SumLeft (sign_step l) ∷ (sum_joined (step_tightness (sign_step l)) stack out).0) (n + 1)) fs)
    ∙ and-right (is_sum_sign any_count l) (may_count any_count (n + 1)) (or-true (nat_le (n + 1) 8)) ∙ sign-same l
  where
    sign-same : (l : Lexeme) → is_sum_sign any_count l ≡ is_sum_sign strict l
    sign-same (Word w) = refl
    sign-same (Operator MinusSign) = refl
    sign-same Star = refl
    sign-same l = refl

count-after_terms : (fs : List Frame) (l : Lexeme) → after_terms strict fs l ≡ None → is_some (after_terms any_count fs l) ≡ wants_count AfterTerms fs l
count-after_terms (TermsOf (InNear ops) ps ∷ fs) Comma e = count-comma ops ps fs
count-after_terms (TermsOf InGroup ps ∷ fs) Comma e = refl
count-after_terms (TermsOf InDefine ps ∷ fs) Comma e = cc
count-after_terms fs l e = ap is_some e

pub refused-count : (stage : Stage) (fs : List Frame) (l : Lexeme) → step_at strict stage fs l ≡ None → is_some (step_at any_count stage fs l) ≡ wants_count stage fs l
refused-count (InPhrase ss) (Chain ops ∷ fs) Near e = count-near (ops ++ (Phrase ss ∷ []) ∷ []) fs
refused-count (InPhrase ss) (TermsOf (InNear ops) ps ∷ fs) Comma e = count-comma ops (ps ++ Phrase ss ∷ []) fs
refused-count (AfterChain ops) fs Near e = count-near ops fs
refused-count AfterTerms fs l e = count-after_terms fs l e
refused-count (SumAfter ps out stack n) fs l e = count-sum ps out stack n fs l e
refused-count (AfterChain ops) fs l e = ap is_some e
refused-count stage fs l e = ap is_some e

-- any score
atom-score : (d o t f : Bool) → (d || (o || (t || (not true && f)))) ≡ false → (d || (o || (t || (not false && f)))) ≡ f
atom-score true o t f e = cc
atom-score false true t f e = cc
atom-score false false true f e = cc
atom-score false false false f e = refl

plus-score : (d f : Bool) → (d || (not true && f)) ≡ false → (d || (not false && f)) ≡ f
plus-score true f e = cc
plus-score false f e = refl

score-sum : (ps : List Leaf) (out : List SumStep) (stack : List SumFrame) (n : ℕ) (fs : List Frame) (l : Lexeme) → sum_after strict ps out stack n fs l ≡ None → is_sum_sign strict l ≡ false
    → is_some (sum_after any_score ps out stack n fs l) ≡ wants_score (SumAfter ps out stack n) l
score-sum ps out stack n fs Close e no_sign = ap is_some e
score-sum ps out stack n fs l e no_sign =
    if-some (is_sum_sign any_score l && may_count any_score (n + 1)) (state_at (SumOperand ps (sum_joined (step_tightness (sign_step l)) stack out).1 (SumLeft (sign_step l) ∷ (sum_joined (step_tightness (sign_step l)) stack out).0) (n + 1)) fs)
    ∙ and-right (is_sum_sign any_score l) (may_count any_score (n + 1)) (or-true (nat_le (n + 1) 8)) ∙ sign-score l no_sign
  where
    sign-score : (l : Lexeme) → is_sum_sign strict l ≡ false → is_sum_sign any_score l ≡ wants_score (SumAfter ps out stack n) l
    sign-score (Word w) e = plus-score (says (codes "+") w) (is_foreign w) e
    sign-score (Operator MinusSign) e = cc
    sign-score Star e = cc
    sign-score l e = refl

pub refused-score : (stage : Stage) (fs : List Frame) (l : Lexeme) → step_at strict stage fs l ≡ None → wants_count stage fs l ≡ false → is_some (step_at any_score stage fs l) ≡ wants_score stage l
refused-score (InPhrase ss) (Chain ops ∷ fs) Near e few = cc
refused-score (InPhrase ss) (TermsOf (InNear ops) ps ∷ fs) Comma e few = cc
refused-score (AfterChain ops) fs Near e few = cc
refused-score AfterTerms (TermsOf (InNear ops) ps ∷ fs) Comma e few = cc
refused-score (SumOperand ps out stack n) fs (Word w) e few =
    if-some (takes_atom any_score w) (state_at (SumAfter ps (out ++ atom_of w ∷ []) stack n) fs)
    ∙ atom-score (says (codes "discrete") w) (says (codes "occurrence") w) (takes_whole strict 0 1000 w) (is_foreign w) (not-if (takes_atom strict w) (state_at (SumAfter ps (out ++ atom_of w ∷ []) stack n) fs) e)
refused-score (SumAfter ps out stack n) fs l e few = score-sum ps out stack n fs l e few
refused-score stage fs l e few = ap is_some e

-- any number
whole-number : (x p : Bool) → (x || (not true && p)) ≡ false → (x || (not false && p)) ≡ p
whole-number true p e = cc
whole-number false p e = refl

atom-number : (d o x p f : Bool) → (d || (o || ((x || (not true && p)) || (not true && f)))) ≡ false → (d || (o || ((x || (not false && p)) || (not true && f)))) ≡ p
atom-number true o x p f e = cc
atom-number false true x p f e = cc
atom-number false false true p f e = cc
atom-number false false false true f e = refl
atom-number false false false false f e = refl

argument-number : (named has x p : Bool) (s t u : State) → cond named (Some s) (cond (has && (not named && (x || (not true && p)))) (Some t) None) ≡ None
    → is_some (cond named (Some s) (cond (has && (not named && (x || (not false && p)))) (Some u) None)) ≡ (has && p)
argument-number true has x p s t u e = cc
argument-number false true true p s t u e = cc
argument-number false true false true s t u e = refl
argument-number false true false false s t u e = refl
argument-number false false x p s t u e = refl

pub refused-number : (stage : Stage) (fs : List Frame) (l : Lexeme) → step_at strict stage fs l ≡ None → is_some (step_at any_number stage fs l) ≡ wants_number stage l
refused-number (Factor t) fs (Word w) e =
    if-some (takes_tenths any_number w) (state_at (After 6 (Weight (tenths_of w) t)) fs) ∙ whole-number (plain_is (λ cs. in_range 1 100 (tenths cs)) w.plain) (is_plain w) (not-if (takes_tenths strict w) (state_at (After 6 (Weight (tenths_of w) t)) fs) e)
refused-number (Threshold t) fs (Word w) e =
    if-some (takes_whole any_number 0 100 w) (state_at (After 6 (Above (whole_of w) t)) fs) ∙ whole-number (plain_is (λ cs. in_range 0 100 (whole cs)) w.plain) (is_plain w) (not-if (takes_whole strict 0 100 w) (state_at (After 6 (Above (whole_of w) t)) fs) e)
refused-number (NearSpan ops) fs (Word w) e =
    if-some (takes_whole any_number 0 100 w) (state_at (NearOrder ops (whole_of w)) fs) ∙ whole-number (plain_is (λ cs. in_range 0 100 (whole cs)) w.plain) (is_plain w) (not-if (takes_whole strict 0 100 w) (state_at (NearOrder ops (whole_of w)) fs) e)
refused-number (ThesArgument relation ws) fs (Word w) e =
    argument-number (is_name w) (has_level relation) (plain_is (λ cs. in_range 1 99 (whole cs)) w.plain) (is_plain w) (state_at (ThesClose relation ws 1 (name_of w)) fs) (state_at (ThesLevel relation ws (whole_of w)) fs) (state_at (ThesLevel relation ws (whole_of w)) fs) e
refused-number (SumOperand ps out stack n) fs (Word w) e =
    if-some (takes_atom any_number w) (state_at (SumAfter ps (out ++ atom_of w ∷ []) stack n) fs)
    ∙ atom-number (says (codes "discrete") w) (says (codes "occurrence") w) (plain_is (λ cs. in_range 0 1000 (whole cs)) w.plain) (is_plain w) (is_foreign w) (not-if (takes_atom strict w) (state_at (SumAfter ps (out ++ atom_of w ∷ []) stack n) fs) e)
refused-number stage fs l e = ap is_some e

-- the cause
mark-at : (ls : List Lexeme) (place : ℕ) (d : Lexeme) → place < length ls → is_refused (drop place ls) ≡ is_mark (get_or ls place d)
mark-at [] place d within = absurd (omega arith)
mark-at (l ∷ ls) zero d within = mark-one l
  where
    mark-one : (l : Lexeme) → is_refused (l ∷ ls) ≡ is_mark l
    mark-one Refused = refl
    mark-one Comma = refl
    mark-one l = refl
mark-at (l ∷ ls) (suc place) d within = mark-at ls place d (omega arith)

or-either : (a b : Bool) → (a || b) ≡ true → (a ≡ true) ⊎ (b ≡ true)
or-either true b e = inl refl
or-either false b e = inr e

pub cause-at : (ls : List Lexeme) (place : ℕ) (s : State) (d : Lexeme) → place < length ls → read_from strict (Some start_state) (take place ls) ≡ Some s → step strict s (get_or ls place d) ≡ None → IsCause ls place (cause s.stage s.frames (get_or ls place d))
cause-at ls place s d within read refused = by-count (wants_count s.stage s.frames l) refl
  where
    l : Lexeme
    l = get_or ls place d

    counts : is_some (step any_count s l) ≡ wants_count s.stage s.frames l
    counts = refused-count s.stage s.frames l refused

    numbers : is_some (step any_number s l) ≡ wants_number s.stage l
    numbers = refused-number s.stage s.frames l refused

    marks : is_refused (drop place ls) ≡ is_mark l
    marks = mark-at ls place d within

    by-number : (c : Bool) → wants_number s.stage l ≡ c → (GoesOn any_count ls place → ⊥) → is_refused (drop place ls) ≡ false → (GoesOn any_score ls place → ⊥) → IsCause ls place (cond c OutOfRange Syntax)
    by-number true e few mark score = inr (mark, score, goes-on any_number ls place s d within read (numbers ∙ e))
    by-number false e few mark score = (few, mark, score, goes-not_on any_number ls place s d within read (numbers ∙ e))

    by-mark : (m : Bool) → (is_mark l || wants_score s.stage l) ≡ m → wants_count s.stage s.frames l ≡ false → (GoesOn any_count ls place → ⊥) → IsCause ls place (cond m NotInProfile (cond (wants_number s.stage l) OutOfRange Syntax))
    by-mark true e none few = (
      few,
      ⊎_elim {C = (is_refused (drop place ls) ≡ true) ⊎ GoesOn any_score ls place}
          (λ a. inl (marks ∙ a))
          (λ b. inr (goes-on any_score ls place s d within read (refused-score s.stage s.frames l refused none ∙ b)))
          (or-either (is_mark l) (wants_score s.stage l) e),
    )
    by-mark false e none few =
        let parts = or_parts (is_mark l) (wants_score s.stage l) e in
        by-number (wants_number s.stage l) refl few (marks ∙ parts.0) (goes-not_on any_score ls place s d within read (refused-score s.stage s.frames l refused none ∙ parts.1))

    by-count : (a : Bool) → wants_count s.stage s.frames l ≡ a → IsCause ls place (cond a OutOfRange (cond (is_mark l || wants_score s.stage l) NotInProfile (cond (wants_number s.stage l) OutOfRange Syntax)))
    by-count true e = inl (goes-on any_count ls place s d within read (counts ∙ e))
    by-count false e = by-mark (is_mark l || wants_score s.stage l) refl e (goes-not_on any_count ls place s d within read (counts ∙ e))

drop-end : (ls : List Lexeme) → is_refused (drop (length ls) ls) ≡ false
drop-end [] = refl
drop-end (l ∷ ls) = drop-end ls

pub cause-at_end : (ls : List Lexeme) → IsCause ls (length ls) Syntax
cause-at_end ls = ((λ g. absurd (omega (arith, g.0))), drop-end ls, (λ g. absurd (omega (arith, g.0))), (λ g. absurd (omega (arith, g.0))))
