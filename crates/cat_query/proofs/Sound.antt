-- What was read is what some query begins with, and a whole query where it may end.
use Rattle.std.specs.Prelude.{ℕ, ◌≡◌, Bool, true, false, cond, List, [], ◌∷◌, ◌++◌, Option, Some, None, refl}
use Rattle.std.proofs.Common.{arith, sym, ap, subst, ◌∙◌, append_assoc, append-nil}
use Rattle.q_tree.specs.declared.queries.Op.TheVariants.{Or, And, Not}
use Rattle.q_tree.specs.Trees.{Tree, Both}
use Rattle.cat_query.specs.declared.lexemes.Lexeme.{Lexeme}
use Rattle.cat_query.specs.declared.lexemes.Lexeme.TheVariants.{Item, Minus, Bar, Open, Close, Bad}
use Rattle.cat_query.specs.Grammar.{Adjacent, Without, Either, Text, One, Group, Two, spelling, meaning, phrase_of, Fits, IsQuery, BeginsQuery}
use Rattle.cat_query.specs.Lexing.{word}
use Rattle.cat_query.specs.Machine.{Level, new_level, with_operand, put, with_alternatives, chain_of, State, start, put_in, after_bar, after_minus, after_close, step, tree_at_end, finish}

-- ---- texts

-- what binds tighter binds as tight
looser : (t : Text) → Fits 3 t → Fits 2 t
looser (One w) fits = tt
looser (Group t) fits = fits
looser (Two j t u) fits = (omega (arith, fits.0), fits.1, fits.2)

loosest : (t : Text) → Fits 2 t → Fits 1 t
loosest (One w) fits = tt
loosest (Group t) fits = fits
loosest (Two j t u) fits = (omega (arith, fits.0), fits.1, fits.2)

-- a text with this tree
pub record TextOf (k : ℕ) (t : Tree) (ls : List Lexeme) : Type 0 where
  pub text : Text
  pub fits : Fits k text
  pub means : meaning text ≡ t
  pub spelt : spelling text ≡ ls

-- the lexemes of a tree that may be missing, with others after them
pub IsPart : ℕ → List Lexeme → Option Tree → List Lexeme → Type 0
IsPart k next None ls = ls ≡ []
IsPart k next (Some t) ls = (own : List Lexeme) × TextOf k t own × (ls ≡ own ++ next)

pub dash : Bool → List Lexeme
dash true = Minus ∷ []
dash false = []

-- ---- states

pub record LevelSpelt (l : Level) (ls : List Lexeme) : Type 0 where
  pub first : List Lexeme
  pub second : List Lexeme
  pub alternatives : IsPart 1 (Bar ∷ []) l.alternatives first
  pub chain : IsPart 2 (dash l.without) l.chain second
  pub spelt : ls ≡ first ++ second

pub OuterSpelt : List Level → List Lexeme → Type 0
OuterSpelt [] ls = ls ≡ []
OuterSpelt (l ∷ os) ls = (a : List Lexeme) × (b : List Lexeme) × OuterSpelt os a × LevelSpelt l b × (ls ≡ a ++ (b ++ Open ∷ []))

-- The lexemes are what was read to come to this state.
pub record StateSpelt (s : State) (ls : List Lexeme) : Type 0 where
  pub before : List Lexeme
  pub own : List Lexeme
  pub outer : OuterSpelt s.outer before
  pub inner : LevelSpelt s.inner own
  pub spelt : ls ≡ before ++ own

new_spelt : LevelSpelt new_level []
unfolding IsPart
new_spelt = record { first = []; second = []; alternatives = refl; chain = refl; spelt = refl }

pub start_spelt : StateSpelt start []
unfolding OuterSpelt
start_spelt = record { before = []; own = []; outer = refl; inner = new_spelt; spelt = refl }

-- ---- an operand more

-- after a chain that may be missing
chain_grows : (o : Option Tree) (b : Bool) (second : List Lexeme) (t : Tree) (ls : List Lexeme) → IsPart 2 (dash b) o second → TextOf 3 t ls → IsPart 2 (dash false) (Some (with_operand o b t)) (second ++ ls)
unfolding IsPart dash
chain_grows None b second t ls was operand = (
  ls,
  record { text = operand.text; fits = looser operand.text operand.fits; means = operand.means; spelt = operand.spelt },
  ap (λ (l : List Lexeme). l ++ ls) was ∙ sym (append-nil ls),
)
chain_grows (Some s) true second t ls (own, text, spelt) operand = (
  second ++ ls,
  record {
    text = Two Without text.text operand.text;
    fits = (omega arith, text.fits, operand.fits);
    means = λ i. Both Not (text.means i) (operand.means i);
    spelt =
        (λ i. text.spelt i ++ (Minus ∷ operand.spelt i))
        ∙ sym (append_assoc own (Minus ∷ []) ls)
        ∙ ap (λ (l : List Lexeme). l ++ ls) (sym spelt);
  },
  sym (append-nil (second ++ ls)),
)
chain_grows (Some s) false second t ls (own, text, spelt) operand = (
  second ++ ls,
  record {
    text = Two Adjacent text.text operand.text;
    fits = (omega arith, text.fits, operand.fits);
    means = λ i. Both And (text.means i) (operand.means i);
    spelt =
        (λ i. text.spelt i ++ operand.spelt i)
        ∙ ap (λ (l : List Lexeme). l ++ ls) (sym (append-nil own) ∙ sym spelt);
  },
  sym (append-nil (second ++ ls)),
)

level_grows : (l : Level) (own : List Lexeme) (t : Tree) (ls : List Lexeme) → LevelSpelt l own → TextOf 3 t ls → LevelSpelt (put t l) (own ++ ls)
level_grows l own t ls was operand = record {
  first = was.first;
  second = was.second ++ ls;
  alternatives = was.alternatives;
  chain = chain_grows l.chain l.without was.second t ls was.chain operand;
  spelt = ap (λ (x : List Lexeme). x ++ ls) was.spelt ∙ append_assoc was.first was.second ls;
}

-- ---- a whole level

chain_there : (l : Level) (t : Tree) → chain_of l ≡ Some t → (l.without ≡ false) × (l.chain ≡ Some t)
chain_there l t is = go l.without refl is
  where
    go : (b : Bool) → l.without ≡ b → cond b None l.chain ≡ Some t → (l.without ≡ false) × (l.chain ≡ Some t)
    go true h e = cc
    go false h e = (h, e)

-- the chain alone
chain_text : (l : Level) (own : List Lexeme) (t : Tree) → (was : LevelSpelt l own) → chain_of l ≡ Some t → TextOf 2 t was.second
unfolding IsPart dash
chain_text l own t was is =
    let there = chain_there l t is in
    let part : IsPart 2 [] (Some t) was.second = subst (λ (b : Bool). IsPart 2 (dash b) (Some t) was.second) there.0 (subst (λ (o : Option Tree). IsPart 2 (dash l.without) o was.second) there.1 was.chain) in
    record { text = part.1.text; fits = part.1.fits; means = part.1.means; spelt = part.1.spelt ∙ sym (append-nil part.0) ∙ sym part.2 }

join_spelt : (o : Option Tree) (first second : List Lexeme) (t : Tree) → IsPart 1 (Bar ∷ []) o first → TextOf 2 t second → TextOf 1 (with_alternatives o t) (first ++ second)
unfolding IsPart
join_spelt None first second t was chain = record {
  text = chain.text;
  fits = loosest chain.text chain.fits;
  means = chain.means;
  spelt = chain.spelt ∙ ap (λ (x : List Lexeme). x ++ second) (sym was);
}
join_spelt (Some s) first second t (own, text, spelt) chain = record {
  text = Two Either text.text chain.text;
  fits = (omega arith, text.fits, chain.fits);
  means = λ i. Both Or (text.means i) (chain.means i);
  spelt =
      (λ i. text.spelt i ++ (Bar ∷ chain.spelt i))
      ∙ sym (append_assoc own (Bar ∷ []) second)
      ∙ ap (λ (x : List Lexeme). x ++ second) (sym spelt);
}

level_text : (l : Level) (own : List Lexeme) (t : Tree) → LevelSpelt l own → chain_of l ≡ Some t → TextOf 1 (with_alternatives l.alternatives t) own
level_text l own t was is =
    let whole = join_spelt l.alternatives was.first was.second t was.alternatives (chain_text l own t was is) in
    record { text = whole.text; fits = whole.fits; means = whole.means; spelt = whole.spelt ∙ sym was.spelt }

-- ---- steps

pub item_spelt : (s : State) (ls : List Lexeme) (t : Tree) (more : List Lexeme) → StateSpelt s ls → TextOf 3 t more → StateSpelt (put_in t s) (ls ++ more)
item_spelt s ls t more was operand = record {
  before = was.before;
  own = was.own ++ more;
  outer = was.outer;
  inner = level_grows s.inner was.own t more was.inner operand;
  spelt = ap (λ (x : List Lexeme). x ++ more) was.spelt ∙ append_assoc was.before was.own more;
}

open_spelt : (s : State) (ls : List Lexeme) → StateSpelt s ls → StateSpelt (record { inner = new_level; outer = s.inner ∷ s.outer }) (ls ++ Open ∷ [])
unfolding OuterSpelt
open_spelt s ls was = record {
  before = was.before ++ (was.own ++ Open ∷ []);
  own = [];
  outer = (was.before, was.own, was.outer, was.inner, refl);
  inner = new_spelt;
  spelt = ap (λ (x : List Lexeme). x ++ Open ∷ []) was.spelt ∙ append_assoc was.before was.own (Open ∷ []) ∙ sym (append-nil (was.before ++ (was.own ++ Open ∷ [])));
}

pub close_spelt : (inner l : Level) (os : List Level) (ls : List Lexeme) (t : Tree) → chain_of inner ≡ Some t → StateSpelt (record { inner = inner; outer = l ∷ os }) ls
    → StateSpelt (record { inner = put (with_alternatives inner.alternatives t) l; outer = os }) (ls ++ Close ∷ [])
unfolding OuterSpelt
close_spelt inner l os ls t is was =
    let whole = level_text inner was.own t was.inner is in
    let a = was.outer.0 in
    let b = was.outer.1 in
    let group : TextOf 3 (with_alternatives inner.alternatives t) (Open ∷ (was.own ++ Close ∷ [])) = record { text = Group whole.text; fits = whole.fits; means = whole.means; spelt = λ i. Open ∷ (whole.spelt i ++ Close ∷ []) } in
    record {
      before = a;
      own = b ++ (Open ∷ (was.own ++ Close ∷ []));
      outer = was.outer.2;
      inner = level_grows l b (with_alternatives inner.alternatives t) (Open ∷ (was.own ++ Close ∷ [])) was.outer.3 group;
      spelt =
          ap (λ (x : List Lexeme). x ++ Close ∷ []) was.spelt
          ∙ ap (λ (x : List Lexeme). (x ++ was.own) ++ Close ∷ []) was.outer.4
          ∙ append_assoc (a ++ (b ++ Open ∷ [])) was.own (Close ∷ [])
          ∙ append_assoc a (b ++ Open ∷ []) (was.own ++ Close ∷ [])
          ∙ ap (λ (x : List Lexeme). a ++ x) (append_assoc b (Open ∷ []) (was.own ++ Close ∷ []));
    }

bar_spelt : (s : State) (ls : List Lexeme) (t : Tree) → chain_of s.inner ≡ Some t → StateSpelt s ls
    → StateSpelt (record { inner = record { alternatives = Some (with_alternatives s.inner.alternatives t); chain = None; without = false }; outer = s.outer }) (ls ++ Bar ∷ [])
unfolding IsPart
bar_spelt s ls t is was = record {
  before = was.before;
  own = was.own ++ Bar ∷ [];
  outer = was.outer;
  inner = record {
    first = was.own ++ Bar ∷ [];
    second = [];
    alternatives = (was.own, level_text s.inner was.own t was.inner is, refl);
    chain = refl;
    spelt = sym (append-nil (was.own ++ Bar ∷ []));
  };
  spelt = ap (λ (x : List Lexeme). x ++ Bar ∷ []) was.spelt ∙ append_assoc was.before was.own (Bar ∷ []);
}

minus_spelt : (s : State) (ls : List Lexeme) (t : Tree) → chain_of s.inner ≡ Some t → StateSpelt s ls
    → StateSpelt (record { inner = record { alternatives = s.inner.alternatives; chain = Some t; without = true }; outer = s.outer }) (ls ++ Minus ∷ [])
unfolding IsPart dash
minus_spelt s ls t is was = record {
  before = was.before;
  own = was.own ++ Minus ∷ [];
  outer = was.outer;
  inner = record {
    first = was.inner.first;
    second = was.inner.second ++ Minus ∷ [];
    alternatives = was.inner.alternatives;
    chain = (was.inner.second, chain_text s.inner was.own t was.inner is, refl);
    spelt = ap (λ (x : List Lexeme). x ++ Minus ∷ []) was.inner.spelt ∙ append_assoc was.inner.first was.inner.second (Minus ∷ []);
  };
  spelt = ap (λ (x : List Lexeme). x ++ Minus ∷ []) was.spelt ∙ append_assoc was.before was.own (Minus ∷ []);
}

to_state : (ls : List Lexeme) (s next : State) → Some s ≡ Some next → StateSpelt s ls → StateSpelt next ls
to_state ls s next is = subst (λ (z : State). StateSpelt z ls) (let e : s ≡ next = cc in e)

pub step_spelt : (s : State) (l : Lexeme) (next : State) (ls : List Lexeme) → step s l ≡ Some next → StateSpelt s ls → StateSpelt next (ls ++ l ∷ [])
step_spelt s (Item w) next ls is was = to_state (ls ++ Item w ∷ []) (put_in (phrase_of w) s) next is (item_spelt s ls (phrase_of w) (Item w ∷ []) was (record { text = One w; fits = tt; means = refl; spelt = refl }))
step_spelt s Open next ls is was = to_state (ls ++ Open ∷ []) _ next is (open_spelt s ls was)
step_spelt s Bad next ls is was = cc
step_spelt s Bar next ls is was = go (chain_of s.inner) refl is
  where
    go : (o : Option Tree) → chain_of s.inner ≡ o → after_bar s o ≡ Some next → StateSpelt next (ls ++ Bar ∷ [])
    go None e h = cc
    go (Some t) e h = to_state (ls ++ Bar ∷ []) _ next h (bar_spelt s ls t e was)
step_spelt s Minus next ls is was = go (chain_of s.inner) refl is
  where
    go : (o : Option Tree) → chain_of s.inner ≡ o → after_minus s o ≡ Some next → StateSpelt next (ls ++ Minus ∷ [])
    go None e h = cc
    go (Some t) e h = to_state (ls ++ Minus ∷ []) _ next h (minus_spelt s ls t e was)
step_spelt s Close next ls is was = go s.outer refl (chain_of s.inner) refl is was
  where
    go : (os : List Level) → s.outer ≡ os → (o : Option Tree) → chain_of s.inner ≡ o → after_close s.inner os o ≡ Some next → StateSpelt s ls → StateSpelt next (ls ++ Close ∷ [])
    go os f None e h was = cc
    go [] f (Some t) e h was = cc
    go (l ∷ os) f (Some t) e h was =
        to_state (ls ++ Close ∷ []) _ next h (close_spelt s.inner l os ls t e (subst (λ (outer : List Level). StateSpelt (record { inner = s.inner; outer = outer }) ls) f was))

-- ---- the end

whole_query : (inner : Level) (ls : List Lexeme) (t : Tree) → chain_of inner ≡ Some t → StateSpelt (record { inner = inner; outer = [] }) ls → IsQuery ls (with_alternatives inner.alternatives t)
unfolding OuterSpelt
whole_query inner ls t is was =
    let whole = level_text inner was.own t was.inner is in
    record { text = whole.text; fits = whole.fits; spelt = whole.spelt ∙ sym (was.spelt ∙ ap (λ (x : List Lexeme). x ++ was.own) was.outer); means = whole.means }

pub finish_is_query : (s : State) (ls : List Lexeme) (t : Tree) → finish s ≡ Some t → StateSpelt s ls → IsQuery ls t
finish_is_query s ls t is was = go s.outer refl (chain_of s.inner) refl is
  where
    go : (os : List Level) → s.outer ≡ os → (o : Option Tree) → chain_of s.inner ≡ o → tree_at_end s.inner os o ≡ Some t → IsQuery ls t
    go (l ∷ os) f o e h = cc
    go [] f None e h = cc
    go [] f (Some c) e h =
        let same : with_alternatives s.inner.alternatives c ≡ t = cc in
        subst (IsQuery ls) same (whole_query s.inner ls c e (subst (λ (outer : List Level). StateSpelt (record { inner = s.inner; outer = outer }) ls) f was))

-- ---- some query begins so

pub begins_shorter : (ls more : List Lexeme) → BeginsQuery (ls ++ more) → BeginsQuery ls
begins_shorter ls more begins = record { rest = more ++ begins.rest; tree = begins.tree; whole = subst (λ (x : List Lexeme). IsQuery x begins.tree) (append_assoc ls more begins.rest) begins.whole }

closing : (os : List Level) (inner : Level) (ls : List Lexeme) (t : Tree) → chain_of inner ≡ Some t → StateSpelt (record { inner = inner; outer = os }) ls → BeginsQuery ls
closing [] inner ls t is was = record { rest = []; tree = with_alternatives inner.alternatives t; whole = subst (λ (x : List Lexeme). IsQuery x (with_alternatives inner.alternatives t)) (sym (append-nil ls)) (whole_query inner ls t is was) }
closing (l ∷ os) inner ls t is was =
    begins_shorter ls (Close ∷ [])
    (closing os (put (with_alternatives inner.alternatives t) l) (ls ++ Close ∷ []) (with_operand l.chain l.without (with_alternatives inner.alternatives t)) refl (close_spelt inner l os ls t is was))

pub spelt_begins : (s : State) (ls : List Lexeme) → StateSpelt s ls → BeginsQuery ls
spelt_begins s ls was =
    begins_shorter ls (Item (word 0 []) ∷ [])
    (closing s.outer (put (phrase_of (word 0 [])) s.inner) (ls ++ Item (word 0 []) ∷ []) (with_operand s.inner.chain s.inner.without (phrase_of (word 0 []))) refl
    (item_spelt s ls (phrase_of (word 0 [])) (Item (word 0 []) ∷ []) was (record { text = One (word 0 []); fits = tt; means = refl; spelt = refl })))
