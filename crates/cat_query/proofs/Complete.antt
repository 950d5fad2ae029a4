-- Each query is read, to its own tree.
use Rattle.std.specs.Prelude.{ℕ, ◌≡◌, ◌≤◌, true, false, List, [], ◌∷◌, ◌++◌, Option, Some, None, refl}
use Rattle.std.proofs.Common.{arith, sym, ap, subst, ◌∙◌}
use Rattle.q_tree.specs.declared.queries.Word.{Word}
use Rattle.q_tree.specs.declared.queries.Op.TheVariants.{Or}
use Rattle.q_tree.specs.Trees.{Tree, Both}
use Rattle.cat_query.specs.declared.lexemes.Lexeme.{Lexeme}
use Rattle.cat_query.specs.declared.lexemes.Lexeme.TheVariants.{Minus, Bar, Close}
use Rattle.cat_query.specs.Grammar.{Joint, Adjacent, Without, Either, Text, One, Group, Two, spelling, meaning, Fits, IsQuery}
use Rattle.cat_query.specs.Machine.{Level, new_level, with_operand, put, with_alternatives, after_bar, chain_of, State, start, put_in, after_close, step, tree_at_end, finish}

-- one lexeme after the other
abbrev pub steps : Option State → List Lexeme → Option State
steps None ls = None
steps (Some s) [] = Some s
steps (Some s) (l ∷ ls) = steps (step s l) ls

pub steps-append : (o : Option State) (xs ys : List Lexeme) → steps o (xs ++ ys) ≡ steps (steps o xs) ys
steps-append None [] ys = refl
steps-append None (x ∷ xs) ys = refl
steps-append (Some s) [] ys = refl
steps-append (Some s) (x ∷ xs) ys = steps-append (step s x) xs ys

none_goes_on : (ls : List Lexeme) → steps None ls ≡ None
none_goes_on [] = refl
none_goes_on (l ∷ ls) = refl

-- ---- states

-- nothing was read since the last `|`, or since the beginning
pub record IsFresh (l : Level) : Type 0 where
  pub chain : l.chain ≡ None
  pub without : l.without ≡ false

pub record IsNew (l : Level) : Type 0 where
  pub alternatives : l.alternatives ≡ None
  pub fresh : IsFresh l

-- What was read on the innermost level is this query.
pub record HasRead (s next : State) (t : Tree) : Type 0 where
  pub outer : next.outer ≡ s.outer
  pub chain : Tree
  pub is : chain_of next.inner ≡ Some chain
  pub whole : with_alternatives next.inner.alternatives chain ≡ t

pub record Leads (s : State) (ls : List Lexeme) (t : Tree) : Type 0 where
  pub next : State
  pub steps : steps (Some s) ls ≡ Some next
  pub has : HasRead s next t

-- what a text leads to, by how tight it binds
pub record Reads (t : Text) : Type 0 where
  pub operand : Fits 3 t → (s : State) → steps (Some s) (spelling t) ≡ Some (put_in (meaning t) s)
  pub chain : Fits 2 t → (s : State) → IsFresh s.inner → steps (Some s) (spelling t) ≡ Some (put_in (meaning t) s)
  pub query : Fits 1 t → (s : State) → IsNew s.inner → Leads s (spelling t) (meaning t)

-- an operand, or a chain, on a level that is new
alone : (s : State) (ls : List Lexeme) (t : Tree) → IsNew s.inner → steps (Some s) ls ≡ Some (put_in t s) → Leads s ls t
alone s ls t new is = record {
  next = put_in t s;
  steps = is;
  has = record {
    outer = refl;
    chain = t;
    is = ap (λ (c : Option Tree). Some (with_operand c s.inner.without t)) new.fresh.chain;
    whole = ap (λ (o : Option Tree). with_alternatives o t) new.alternatives;
  };
}

-- ---- by the forms of texts

reads_one : (w : Word) → Reads (One w)
reads_one w = record {
  operand = λ fits s. refl;
  chain = λ fits s fresh. refl;
  query = λ fits s new. alone s (spelling (One w)) (meaning (One w)) new refl;
}

-- a group is an operand
closes : (s : State) (t : Text) → Leads (record { inner = new_level; outer = s.inner ∷ s.outer }) (spelling t) (meaning t) → steps (Some s) (spelling (Group t)) ≡ Some (put_in (meaning t) s)
closes s t inside =
    steps-append (Some (record { inner = new_level; outer = s.inner ∷ s.outer })) (spelling t) (Close ∷ [])
    ∙ ap (λ (o : Option State). steps o (Close ∷ [])) inside.steps
    ∙ ap (λ (o : Option State). steps o []) (
    ap (after_close inside.next.inner inside.next.outer) inside.has.is
    ∙ ap (λ (ls : List Level). after_close inside.next.inner ls (Some inside.has.chain)) inside.has.outer
    ∙ ap (λ (u : Tree). Some (record { inner = put u s.inner; outer = s.outer })) inside.has.whole)

reads_group : (t : Text) → Reads t → Reads (Group t)
reads_group t inside = record {
  operand = λ fits s. it fits s;
  chain = λ fits s fresh. it fits s;
  query = λ fits s new. alone s (spelling (Group t)) (meaning t) new (it fits s);
}
  where
    it : Fits 1 t → (s : State) → steps (Some s) (spelling (Group t)) ≡ Some (put_in (meaning t) s)
    it fits s = closes s t (inside.query fits (record { inner = new_level; outer = s.inner ∷ s.outer }) (record { alternatives = refl; fresh = record { chain = refl; without = refl } }))

-- two operands side by side, and with a `-` between, after nothing
reads_adjacent : (t u : Text) → Reads t → Reads u → Fits 2 t → Fits 3 u → (s : State) → IsFresh s.inner → steps (Some s) (spelling (Two Adjacent t u)) ≡ Some (put_in (meaning (Two Adjacent t u)) s)
reads_adjacent t u left right a b s fresh =
    steps-append (Some s) (spelling t) (spelling u)
    ∙ ap (λ (o : Option State). steps o (spelling u)) (left.chain a s fresh)
    ∙ right.operand b (put_in (meaning t) s)
    ∙ ap (λ (c : Option Tree). Some (record { inner = record { alternatives = s.inner.alternatives; chain = Some (with_operand (Some (with_operand c s.inner.without (meaning t))) false (meaning u)); without = false }; outer = s.outer })) fresh.chain
    ∙ ap (λ (c : Option Tree). Some (record { inner = record { alternatives = s.inner.alternatives; chain = Some (with_operand c s.inner.without (meaning (Two Adjacent t u))); without = false }; outer = s.outer })) (sym fresh.chain)

without : (t u : Text) → Reads t → Reads u → Fits 2 t → Fits 3 u → (s : State) → IsFresh s.inner → steps (Some s) (spelling (Two Without t u)) ≡ Some (put_in (meaning (Two Without t u)) s)
without t u left right a b s fresh =
    steps-append (Some s) (spelling t) (Minus ∷ spelling u)
    ∙ ap (λ (o : Option State). steps o (Minus ∷ spelling u)) (left.chain a s fresh)
    ∙ right.operand b (record { inner = record { alternatives = s.inner.alternatives; chain = Some (with_operand s.inner.chain s.inner.without (meaning t)); without = true }; outer = s.outer })
    ∙ ap (λ (c : Option Tree). Some (record { inner = record { alternatives = s.inner.alternatives; chain = Some (with_operand (Some (with_operand c s.inner.without (meaning t))) true (meaning u)); without = false }; outer = s.outer })) fresh.chain
    ∙ ap (λ (c : Option Tree). Some (record { inner = record { alternatives = s.inner.alternatives; chain = Some (with_operand c s.inner.without (meaning (Two Without t u))); without = false }; outer = s.outer })) (sym fresh.chain)

-- two with a `|` between, where nothing is read on the level
either_of : (t u : Text) → Reads t → Reads u → Fits 1 t → Fits 2 u → (s : State) → IsNew s.inner → Leads s (spelling (Two Either t u)) (meaning (Two Either t u))
either_of t u left right a b s new = record {
  next = put_in (meaning u) state_after_bar;
  steps =
      steps-append (Some s) (spelling t) (Bar ∷ spelling u)
      ∙ ap (λ (o : Option State). steps o (Bar ∷ spelling u)) first.steps
      ∙ ap (λ (o : Option State). steps o (spelling u)) (ap (after_bar first.next) first.has.is)
      ∙ right.chain b state_after_bar (record { chain = refl; without = refl });
  has = record { outer = first.has.outer; chain = meaning u; is = refl; whole = ap (λ (x : Tree). Both Or x (meaning u)) first.has.whole };
}
  where
    first : Leads s (spelling t) (meaning t)
    first = left.query a s new

    state_after_bar : State
    state_after_bar = record { inner = record { alternatives = Some (with_alternatives first.next.inner.alternatives first.has.chain); chain = None; without = false }; outer = first.next.outer }

not_so_tight : {X : Type 0} → 3 ≤ 2 → X
not_so_tight h = absurd (omega (arith, h))

not_a_chain : {X : Type 0} (k : ℕ) → k ≤ 1 → 2 ≤ k → X
not_a_chain k h g = absurd (omega (arith, h, g))

reads_two : (j : Joint) (t u : Text) → Reads t → Reads u → Reads (Two j t u)
reads_two Adjacent t u left right = record {
  operand = λ fits s. not_so_tight fits.0;
  chain = λ fits s fresh. reads_adjacent t u left right fits.1 fits.2 s fresh;
  query = λ fits s new. alone s (spelling (Two Adjacent t u)) (meaning (Two Adjacent t u)) new (reads_adjacent t u left right fits.1 fits.2 s new.fresh);
}
reads_two Without t u left right = record {
  operand = λ fits s. not_so_tight fits.0;
  chain = λ fits s fresh. without t u left right fits.1 fits.2 s fresh;
  query = λ fits s new. alone s (spelling (Two Without t u)) (meaning (Two Without t u)) new (without t u left right fits.1 fits.2 s new.fresh);
}
reads_two Either t u left right = record {
  operand = λ fits s. not_a_chain 3 fits.0 (omega arith);
  chain = λ fits s fresh. not_a_chain 2 fits.0 (omega arith);
  query = λ fits s new. either_of t u left right fits.1 fits.2 s new;
}

pub reads : (t : Text) → Reads t
reads (One w) = reads_one w
reads (Group t) = reads_group t (reads t)
reads (Two j t u) = reads_two j t u (reads t) (reads u)

-- ---- whole queries

-- each query is read, and its end is one
pub record IsRead (ls : List Lexeme) (t : Tree) : Type 0 where
  pub last : State
  pub steps : steps (Some start) ls ≡ Some last
  pub finish : finish last ≡ Some t

pub query_is_read : (ls : List Lexeme) (t : Tree) → IsQuery ls t → IsRead ls t
query_is_read ls t is = subst (λ (xs : List Lexeme). IsRead xs t) is.spelt (subst (IsRead (spelling is.text)) is.means (record {
  last = all.next;
  steps = all.steps;
  finish =
      ap (tree_at_end all.next.inner all.next.outer) all.has.is
      ∙ ap (λ (outer : List Level). tree_at_end all.next.inner outer (Some all.has.chain)) all.has.outer
      ∙ ap (λ (x : Tree). Some x) all.has.whole;
}))
  where
    all : Leads start (spelling is.text) (meaning is.text)
    all = (reads is.text).query is.fits start (record { alternatives = refl; fresh = record { chain = refl; without = refl } })
