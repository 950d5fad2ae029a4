-- How a query is read from the left to the right. Nothing here has to be believed: the law `verdict_is_true` says that this is what the grammar says.
use Rattle.std.specs.Prelude.{◌≡◌, Bool, true, false, List, [], ◌∷◌, Option, Some, None, refl}
use Rattle.std.specs.Bool.{if◌then◌else◌}
use Rattle.q_tree.specs.declared.queries.Op.TheVariants.{Or, And, Not}
use Rattle.q_tree.specs.Trees.{Tree, Both}
use Rattle.cat_query.specs.declared.lexemes.Lexeme.{Lexeme}
use Rattle.cat_query.specs.declared.lexemes.Lexeme.TheVariants.{Item, Minus, Bar, Open, Close, Bad}
use Rattle.cat_query.specs.Grammar.{phrase_of}

-- What was read within one pair of parentheses: the alternatives before the last `|`, the chain after it, and whether a `-` stands after that.
pub record Level : Type 0 where
  pub alternatives : Option Tree
  pub chain : Option Tree
  pub without : Bool

abbrev pub new_level : Level
new_level = record { alternatives = None; chain = None; without = false }

-- an operand after what was read
abbrev pub with_operand : Option Tree → Bool → Tree → Tree
with_operand None without t = t
with_operand (Some s) true t = Both Not s t
with_operand (Some s) false t = Both And s t

abbrev pub put : Tree → Level → Level
put t l = record { alternatives = l.alternatives; chain = Some (with_operand l.chain l.without t); without = false }

-- all alternatives, the last of which is this chain
abbrev pub with_alternatives : Option Tree → Tree → Tree
with_alternatives None t = t
with_alternatives (Some s) t = Both Or s t

-- the chain, where an operand was read last
abbrev pub chain_of : Level → Option Tree
chain_of l = if l.without then None else l.chain

-- the levels, the innermost first and apart
pub record State : Type 0 where
  pub inner : Level
  pub outer : List Level

abbrev pub start : State
start = record { inner = new_level; outer = [] }

abbrev pub put_in : Tree → State → State
put_in t s = record { inner = put t s.inner; outer = s.outer }

-- a `|` or a `-` after a chain
abbrev pub after_bar : State → Option Tree → Option State
after_bar s None = None
after_bar s (Some t) = Some (record { inner = record { alternatives = Some (with_alternatives s.inner.alternatives t); chain = None; without = false }; outer = s.outer })

abbrev pub after_minus : State → Option Tree → Option State
after_minus s None = None
after_minus s (Some t) = Some (record { inner = record { alternatives = s.inner.alternatives; chain = Some t; without = true }; outer = s.outer })

-- a `)` after a chain, where one is open
abbrev pub after_close : Level → List Level → Option Tree → Option State
after_close inner outer None = None
after_close inner [] (Some t) = None
after_close inner (l ∷ ls) (Some t) = Some (record { inner = put (with_alternatives inner.alternatives t) l; outer = ls })

-- the next lexeme, unless it is refused
abbrev pub step : State → Lexeme → Option State
step s (Item w) = Some (put_in (phrase_of w) s)
step s Open = Some (record { inner = new_level; outer = s.inner ∷ s.outer })
step s Close = after_close s.inner s.outer (chain_of s.inner)
step s Bar = after_bar s (chain_of s.inner)
step s Minus = after_minus s (chain_of s.inner)
step s Bad = None

-- the query, where the text may end here
abbrev pub tree_at_end : Level → List Level → Option Tree → Option Tree
tree_at_end inner (l ∷ ls) o = None
tree_at_end inner [] None = None
tree_at_end inner [] (Some t) = Some (with_alternatives inner.alternatives t)

abbrev pub finish : State → Option Tree
finish s = tree_at_end s.inner s.outer (chain_of s.inner)

-- computed examples
nothing_yet : finish start ≡ None
nothing_yet = refl

a_minus_first : step start Minus ≡ None
a_minus_first = refl
