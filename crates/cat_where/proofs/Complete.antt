-- Each structured query is read, to what it asks for.
use Rattle.std.proofs.Common.{◌≡◌, ℕ, Bool, true, false, cond, List, [], ◌∷◌, ◌++◌, refl, sym, ap, ◌∙◌, append_assoc, append-nil, inl, inr, Option, Some, None}
use Rattle.std.specs.List.{list_all}
use Rattle.std.proofs.lemmas.Bool.{and_parts}
use Rattle.st_parse.specs.declared.lexemes.Keyword.TheVariants.{Between as BETWEEN, In as IN, And as AND, Order as ORDER, By as BY}
use Rattle.st_parse.specs.declared.lexemes.Symbol.TheVariants.{Close, Comma}
use Rattle.st_parse.specs.declared.lexemes.Lexeme.{Lexeme}
use Rattle.st_parse.specs.declared.lexemes.Lexeme.TheVariants.{Word, Name, Sign}
use Rattle.st_parse.specs.declared.statements.Whole.{Whole}
use Rattle.st_parse.specs.declared.statements.Operand.{Operand}
use Rattle.st_parse.specs.declared.statements.Operand.TheVariants.{Text as TextValue, Number as NumberValue}
use Rattle.st_parse.specs.declared.statements.Compare.{Compare as Comparison}
use Rattle.st_parse.specs.declared.statements.Compare.TheVariants.{Equal, Less, AtMost, Greater, AtLeast}
use Rattle.st_parse.specs.declared.statements.Cond.{Cond}
use Rattle.st_parse.specs.declared.statements.Cond.TheVariants.{Compare, Between, OneOf}
use Rattle.st_parse.specs.declared.statements.OrderItem.{OrderItem}
use Rattle.st_parse.specs.Lists.{AreJoined, AreListed}
use Rattle.st_parse.specs.Values.{IsOperand}
use Rattle.st_parse.specs.Conditions.{sign_of_comparison, IsCond}
use Rattle.cat_where.specs.declared.stages.Where.{Where}
use Rattle.cat_where.specs.declared.stages.Role.{Role}
use Rattle.cat_where.specs.declared.stages.Role.TheVariants.{Compared, Low, High, Member}
use Rattle.cat_where.specs.declared.stages.Stage.{Stage}
use Rattle.cat_where.specs.declared.stages.Stage.TheVariants.{Start, WantsCond, AfterColumn, WantsOpen, WantsValue, AfterMember, AfterCond, WantsOrder, AfterName}
use Rattle.cat_where.specs.declared.stages.State.{State}
use Rattle.cat_where.specs.Grammar.{AreConds, AreOrders, IsDirection, IsOrder, IsStructured, takes, takes_cond}
use Rattle.cat_where.specs.Machine.{compared, finish, nothing_done, number_in, start, state_at, step, step_at, with_cond, with_order, with_value}

-- one lexeme after the other
abbrev pub steps : Bool → Option State → List Lexeme → Option State
steps limits None ls = None
steps limits (Some s) [] = Some s
steps limits (Some s) (l ∷ ls) = steps limits (step limits s l) ls

abbrev pub finish_of : Option State → Option Where
finish_of None = None
finish_of (Some s) = finish s

abbrev pub read : Bool → List Lexeme → Option Where
read limits ls = finish_of (steps limits (Some start) ls)

pub steps-append : (limits : Bool) (o : Option State) (xs ys : List Lexeme) → steps limits o (xs ++ ys) ≡ steps limits (steps limits o xs) ys
steps-append limits None [] ys = refl
steps-append limits None (x ∷ xs) ys = refl
steps-append limits (Some s) [] ys = refl
steps-append limits (Some s) (x ∷ xs) ys = steps-append limits (step limits s x) xs ys

-- ---- values

number_read : (limits : Bool) (role : Role) (w : Where) (n m : Whole) → n ≡ m → takes limits (NumberValue n) ≡ true → steps limits (number_in limits role m w) [] ≡ Some (with_value role (NumberValue n) w)
number_read limits role w n m same taken =
    ap (λ (x : Whole). steps limits (number_in limits role x w) []) (sym same) ∙ ap (λ (b : Bool). steps limits (cond b (Some (with_value role (NumberValue n) w)) None) []) taken

pub value_read : (limits : Bool) (role : Role) (w : Where) (ls : List Lexeme) (value : Operand) → IsOperand ls value → takes limits value ≡ true
    → steps limits (Some (state_at (WantsValue role) w)) ls ≡ Some (with_value role value w)
value_read limits role w ls (TextValue text) e taken = ap (λ (x : List Lexeme). steps limits (Some (state_at (WantsValue role) w)) x) e
value_read limits role w ls (NumberValue n) (digits, inl (value, e)) taken =
    ap (λ (x : List Lexeme). steps limits (Some (state_at (WantsValue role) w)) x) e ∙ number_read limits role w n _ value taken
value_read limits role w ls (NumberValue n) (digits, inr (value, e)) taken =
    ap (λ (x : List Lexeme). steps limits (Some (state_at (WantsValue role) w)) x) e ∙ number_read limits role w n _ value taken

-- the values of IN, where some were read already
members_read : (limits : Bool) (column : List ℕ) (us : List Operand) (w : Where) (ls : List Lexeme) (values : List Operand) → AreJoined (Sign Comma) IsOperand ls values → list_all (takes limits) values ≡ true
    → steps limits (Some (state_at (WantsValue (Member column us)) w)) ls ≡ Some (state_at (AfterMember column (us ++ values)) w)
members_read limits column us w ls [] are taken = absurd are
members_read limits column us w ls (v ∷ []) is taken = value_read limits (Member column us) w ls v is (and_parts (takes limits v) true taken).0
members_read limits column us w ls (v ∷ u ∷ more) (prefix, back, e, is, are) taken =
    let parts = and_parts (takes limits v) (list_all (takes limits) (u ∷ more)) taken in
    ap (λ (x : List Lexeme). steps limits (Some (state_at (WantsValue (Member column us)) w)) x) e
    ∙ steps-append limits (Some (state_at (WantsValue (Member column us)) w)) prefix (Sign Comma ∷ back)
    ∙ ap (λ (o : Option State). steps limits o (Sign Comma ∷ back)) (value_read limits (Member column us) w prefix v is parts.0)
    ∙ members_read limits column (us ++ v ∷ []) w back (u ∷ more) are parts.1
    ∙ ap (λ (x : List Operand). Some (state_at (AfterMember column x) w)) (append_assoc us (v ∷ []) (u ∷ more))

-- ---- conditions

compared_read : (column : List ℕ) (op : Comparison) (w : Where) → compared column (sign_of_comparison op) w ≡ Some (state_at (WantsValue (Compared column op)) w)
compared_read column Equal w = refl
compared_read column Less w = refl
compared_read column AtMost w = refl
compared_read column Greater w = refl
compared_read column AtLeast w = refl

-- a condition begins here with its column
abbrev BeginsCond : Bool → Stage → Where → Type 0
BeginsCond limits stage w = (column : List ℕ) → step_at limits stage w (Name column) ≡ Some (state_at (AfterColumn column) w)

cond_read : (limits : Bool) (stage : Stage) (w : Where) → BeginsCond limits stage w → (ls : List Lexeme) (c : Cond) → IsCond ls c → takes_cond limits c ≡ true
    → steps limits (Some (state_at stage w)) ls ≡ Some (state_at AfterCond (with_cond c w))
cond_read limits stage w begins ls (Compare column op value) (back, is, e) taken =
    ap (λ (x : List Lexeme). steps limits (Some (state_at stage w)) x) e
    ∙ ap (λ (o : Option State). steps limits o (Sign (sign_of_comparison op) ∷ back)) (begins column)
    ∙ ap (λ (o : Option State). steps limits o back) (compared_read column op w)
    ∙ value_read limits (Compared column op) w back value is taken
cond_read limits stage w begins ls (Between column low high) (lows, highs, is, is', e) taken =
    let parts = and_parts (takes limits low) (takes limits high) taken in
    ap (λ (x : List Lexeme). steps limits (Some (state_at stage w)) x) e
    ∙ ap (λ (o : Option State). steps limits o (Word BETWEEN ∷ (lows ++ Word AND ∷ highs))) (begins column)
    ∙ steps-append limits (Some (state_at (WantsValue (Low column)) w)) lows (Word AND ∷ highs)
    ∙ ap (λ (o : Option State). steps limits o (Word AND ∷ highs)) (value_read limits (Low column) w lows low is parts.0)
    ∙ value_read limits (High column low) w highs high is' parts.1
cond_read limits stage w begins ls (OneOf column values) (list, (inner, are, f), e) taken =
    ap (λ (x : List Lexeme). steps limits (Some (state_at stage w)) x) e
    ∙ ap (λ (o : Option State). steps limits o (Word IN ∷ list)) (begins column)
    ∙ ap (λ (x : List Lexeme). steps limits (Some (state_at (WantsOpen column) w)) x) f
    ∙ steps-append limits (Some (state_at (WantsValue (Member column [])) w)) inner (Sign Close ∷ [])
    ∙ ap (λ (o : Option State). steps limits o (Sign Close ∷ [])) (members_read limits column [] w inner values are taken)

conds_read : (limits : Bool) (stage : Stage) (w : Where) → BeginsCond limits stage w → (ls : List Lexeme) (cs : List Cond) → AreJoined (Word AND) IsCond ls cs → list_all (takes_cond limits) cs ≡ true
    → steps limits (Some (state_at stage w)) ls ≡ Some (state_at AfterCond (record { conds = w.conds ++ cs; orders = w.orders }))
conds_read limits stage w begins ls [] are taken = absurd are
conds_read limits stage w begins ls (c ∷ []) is taken = cond_read limits stage w begins ls c is (and_parts (takes_cond limits c) true taken).0
conds_read limits stage w begins ls (c ∷ d ∷ more) (prefix, back, e, is, are) taken =
    let parts = and_parts (takes_cond limits c) (list_all (takes_cond limits) (d ∷ more)) taken in
    ap (λ (x : List Lexeme). steps limits (Some (state_at stage w)) x) e
    ∙ steps-append limits (Some (state_at stage w)) prefix (Word AND ∷ back)
    ∙ ap (λ (o : Option State). steps limits o (Word AND ∷ back)) (cond_read limits stage w begins prefix c is parts.0)
    ∙ conds_read limits WantsCond (with_cond c w) (λ column. refl) back (d ∷ more) are parts.1
    ∙ ap (λ (x : List Cond). Some (state_at AfterCond (record { conds = x; orders = w.orders }))) (append_assoc w.conds (c ∷ []) (d ∷ more))

-- ---- orders

last_direction : (limits : Bool) (w : Where) (name : List ℕ) (down : Bool) (direction : List Lexeme) → IsDirection direction down
    → finish_of (steps limits (Some (state_at (AfterName name) w)) direction) ≡ Some (with_order name down w)
last_direction limits w name true direction e = ap (λ (x : List Lexeme). finish_of (steps limits (Some (state_at (AfterName name) w)) x)) e
last_direction limits w name false direction (inl e) = ap (λ (x : List Lexeme). finish_of (steps limits (Some (state_at (AfterName name) w)) x)) e
last_direction limits w name false direction (inr e) = ap (λ (x : List Lexeme). finish_of (steps limits (Some (state_at (AfterName name) w)) x)) e

comma_direction : (limits : Bool) (w : Where) (name : List ℕ) (down : Bool) (direction back : List Lexeme) → IsDirection direction down
    → steps limits (Some (state_at (AfterName name) w)) (direction ++ Sign Comma ∷ back) ≡ steps limits (Some (state_at WantsOrder (with_order name down w))) back
comma_direction limits w name true direction back e = ap (λ (x : List Lexeme). steps limits (Some (state_at (AfterName name) w)) (x ++ Sign Comma ∷ back)) e
comma_direction limits w name false direction back (inl e) = ap (λ (x : List Lexeme). steps limits (Some (state_at (AfterName name) w)) (x ++ Sign Comma ∷ back)) e
comma_direction limits w name false direction back (inr e) = ap (λ (x : List Lexeme). steps limits (Some (state_at (AfterName name) w)) (x ++ Sign Comma ∷ back)) e

orders_read : (limits : Bool) (w : Where) (ls : List Lexeme) (os : List OrderItem) → AreListed IsOrder ls os
    → finish_of (steps limits (Some (state_at WantsOrder w)) ls) ≡ Some (record { conds = w.conds; orders = w.orders ++ os })
orders_read limits w ls [] are = absurd are
orders_read limits w ls (o ∷ []) is =
    ap (λ (x : List Lexeme). finish_of (steps limits (Some (state_at WantsOrder w)) x)) is.spelt
    ∙ last_direction limits w is.name is.down is.direction is.directed
    ∙ ap (λ (x : OrderItem). Some (record { conds = w.conds; orders = w.orders ++ x ∷ [] })) (sym is.is)
orders_read limits w ls (o ∷ p ∷ more) (prefix, back, e, is, are) =
    ap (λ (x : List Lexeme). finish_of (steps limits (Some (state_at WantsOrder w)) x)) (e ∙ ap (λ (x : List Lexeme). x ++ Sign Comma ∷ back) is.spelt)
    ∙ ap finish_of (comma_direction limits w is.name is.down is.direction back is.directed)
    ∙ orders_read limits (with_order is.name is.down w) back (p ∷ more) are
    ∙ ap (λ (x : List OrderItem). Some (record { conds = w.conds; orders = x }))
    (ap (λ (x : OrderItem). (w.orders ++ x ∷ []) ++ p ∷ more) (sym is.is) ∙ append_assoc w.orders (o ∷ []) (p ∷ more))

-- ---- whole queries

parts_read : (limits : Bool) (cs : List Cond) (os : List OrderItem) (a b : List Lexeme) → AreConds a cs → AreOrders b os → list_all (takes_cond limits) cs ≡ true
    → read limits (a ++ b) ≡ Some (record { conds = cs; orders = os })
parts_read limits [] [] a b none nothing taken = ap (λ (x : List Lexeme). read limits (x ++ b)) none ∙ ap (read limits) nothing
parts_read limits [] (o ∷ os) a b none (list, are, e) taken =
    ap (λ (x : List Lexeme). read limits (x ++ b)) none ∙ ap (read limits) e ∙ orders_read limits nothing_done list (o ∷ os) are
parts_read limits (c ∷ cs) [] a b are nothing taken =
    ap (λ (x : List Lexeme). read limits (a ++ x)) nothing ∙ ap (read limits) (append-nil a) ∙ ap finish_of (conds_read limits Start nothing_done (λ column. refl) a (c ∷ cs) are taken)
parts_read limits (c ∷ cs) (o ∷ os) a b are (list, listed, e) taken =
    ap (λ (x : List Lexeme). read limits (a ++ x)) e
    ∙ ap finish_of
    (steps-append limits (Some start) a (Word ORDER ∷ Word BY ∷ list)
    ∙ ap (λ (s : Option State). steps limits s (Word ORDER ∷ Word BY ∷ list)) (conds_read limits Start nothing_done (λ column. refl) a (c ∷ cs) are taken))
    ∙ orders_read limits (record { conds = c ∷ cs; orders = [] }) list (o ∷ os) listed

pub structured_read : (limits : Bool) (ls : List Lexeme) (w : Where) → IsStructured limits ls w → read limits ls ≡ Some w
structured_read limits ls w is = ap (read limits) is.spelt ∙ parts_read limits w.conds w.orders is.conditions is.order is.conds is.orders is.taken
