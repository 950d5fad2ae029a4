-- The grammar of structured queries: conditions with AND between them, and an order.
use Rattle.std.specs.Prelude.{ℕ, ◌≡◌, ◌+◌, ◌<◌, ◌≤◌, ◌⊎◌, ◌&&◌, Bool, true, false, List, [], ◌∷◌, ◌++◌, length, take, codes, Option, None, pos, refl}
use Rattle.std.proofs.Common.{inl}
use Rattle.std.specs.List.{list_all}
use Rattle.st_parse.specs.declared.lexemes.Keyword.TheVariants.{And as AND, Order as ORDER, By as BY, Asc as ASC, Desc as DESC}
use Rattle.st_parse.specs.declared.lexemes.Symbol.TheVariants.{Equal as EqualSign}
use Rattle.st_parse.specs.declared.lexemes.Lexeme.{Lexeme}
use Rattle.st_parse.specs.declared.lexemes.Lexeme.TheVariants.{Word, Name, Number, Sign}
use Rattle.st_parse.specs.declared.statements.Whole.TheVariants.{Fits, Beyond}
use Rattle.st_parse.specs.declared.statements.Operand.{Operand}
use Rattle.st_parse.specs.declared.statements.Operand.TheVariants.{Number as NumberValue}
use Rattle.st_parse.specs.declared.statements.Compare.TheVariants.{Equal}
use Rattle.st_parse.specs.declared.statements.Cond.{Cond}
use Rattle.st_parse.specs.declared.statements.Cond.TheVariants.{Compare, Between, OneOf}
use Rattle.st_parse.specs.declared.statements.Item.TheVariants.{Column}
use Rattle.st_parse.specs.declared.statements.OrderItem.{OrderItem}
use Rattle.st_parse.specs.Lists.{AreJoined, AreListed}
use Rattle.st_parse.specs.Conditions.{IsCond}
use Rattle.cat_where.specs.declared.stages.Where.{Where}

-- The word for a direction: DESC where the greatest comes first, and else ASC or nothing.
abbrev pub IsDirection : List Lexeme → Bool → Type 0
IsDirection ls true = ls ≡ Word DESC ∷ []
IsDirection ls false = (ls ≡ []) ⊎ (ls ≡ Word ASC ∷ [])

abbrev pub order_by : List ℕ → Bool → OrderItem
order_by name down = record { item = Column name; down = down }

-- These lexemes are this item of an order: a column and a direction.
pub record IsOrder (ls : List Lexeme) (o : OrderItem) : Type 0 where
  pub name : List ℕ
  pub down : Bool
  pub direction : List Lexeme
  pub is : o ≡ order_by name down
  pub directed : IsDirection direction down
  pub spelt : ls ≡ Name name ∷ direction

-- These lexemes are these conditions, with AND between them, or nothing where there is none.
abbrev pub AreConds : List Lexeme → List Cond → Type 0
AreConds ls [] = ls ≡ []
AreConds ls (c ∷ cs) = AreJoined (Word AND) IsCond ls (c ∷ cs)

-- These lexemes are ORDER BY and these items, with commas between them, or nothing where there is none.
abbrev pub AreOrders : List Lexeme → List OrderItem → Type 0
AreOrders ls [] = ls ≡ []
AreOrders ls (o ∷ os) = (list : List Lexeme) × AreListed IsOrder list (o ∷ os) × (ls ≡ Word ORDER ∷ Word BY ∷ list)

-- Whether a value may stand in a query: under the limits each number is one of `i64`.
abbrev pub takes : Bool → Operand → Bool
takes true (NumberValue Beyond) = false
takes limits value = true

abbrev pub takes_cond : Bool → Cond → Bool
takes_cond limits (Compare column op value) = takes limits value
takes_cond limits (Between column low high) = takes limits low && takes limits high
takes_cond limits (OneOf column values) = list_all (takes limits) values

-- The lexemes are this structured query, under the limits of numbers or without them.
pub record IsStructured (limits : Bool) (ls : List Lexeme) (w : Where) : Type 0 where
  pub conditions : List Lexeme
  pub order : List Lexeme
  pub conds : AreConds conditions w.conds
  pub orders : AreOrders order w.orders
  pub taken : list_all (takes_cond limits) w.conds ≡ true
  pub spelt : ls ≡ conditions ++ order

-- some structured query begins so
pub record BeginsStructured (limits : Bool) (ls : List Lexeme) : Type 0 where
  pub rest : List Lexeme
  pub query : Where
  pub whole : IsStructured limits (ls ++ rest) query

-- The lexemes up to and with this one begin a structured query.
abbrev pub GoesOn : Bool → List Lexeme → ℕ → Type 0
GoesOn limits ls i = (i < length ls) × BeginsStructured limits (take (i + 1) ls)

-- The least lexeme, or what stands after them all, such that the lexemes up to and with it begin no structured query: those before it begin one. What
-- stands after them all is the end of the text, or something that is no lexeme, where `broken` is its place.
pub record IsFirstBad (ls : List Lexeme) (broken : Option ℕ) (i : ℕ) : Type 0 where
  pub before : BeginsStructured true (take i ls)
  pub within : i ≤ length ls
  pub lexeme : GoesOn true ls i → ⊥
  pub no_query : broken ≡ None → (w : Where) → IsStructured true ls w → ⊥

-- computed examples: no lexeme asks for nothing; `a = 1 ORDER BY b DESC` has a condition and an order
nothing_asked : IsStructured true [] (record { conds = []; orders = [] })
nothing_asked = record { conditions = []; order = []; conds = refl; orders = refl; taken = refl; spelt = refl }

one_and_one : IsStructured true (Name (codes "a") ∷ Sign EqualSign ∷ Number (codes "1") ∷ Word ORDER ∷ Word BY ∷ Name (codes "b") ∷ Word DESC ∷ [])
    (record { conds = Compare (codes "a") Equal (NumberValue (Fits (pos 1))) ∷ []; orders = order_by (codes "b") true ∷ [] })
one_and_one = record {
  conditions = Name (codes "a") ∷ Sign EqualSign ∷ Number (codes "1") ∷ [];
  order = Word ORDER ∷ Word BY ∷ Name (codes "b") ∷ Word DESC ∷ [];
  conds = (Number (codes "1") ∷ [], (codes "1", inl (refl, refl)), refl);
  orders = (Name (codes "b") ∷ Word DESC ∷ [], record { name = codes "b"; down = true; direction = Word DESC ∷ []; is = refl; directed = refl; spelt = refl }, refl);
  taken = refl;
  spelt = refl;
}

only_with_limits : takes true (NumberValue Beyond) ≡ false
only_with_limits = refl
