-- What was read is what some structured query begins with, and a whole one where it may end.
use Rattle.std.proofs.Common.{◌≡◌, ℕ, Bool, true, false, cond, List, [], ◌∷◌, ◌++◌, refl, sym, ap, subst, ◌∙◌, append_assoc, append-nil, inl, inr, Option, Some, None}
use Rattle.std.specs.Prelude.{codes}
use Rattle.std.specs.List.{list_all}
use Rattle.std.proofs.lemmas.Bool.{and_from}
use Rattle.st_parse.specs.declared.lexemes.Keyword.TheVariants.{Between as BETWEEN, In as IN, And as AND, Order as ORDER, By as BY, Asc as ASC, Desc as DESC}
use Rattle.st_parse.specs.declared.lexemes.Symbol.{Symbol}
use Rattle.st_parse.specs.declared.lexemes.Symbol.TheVariants.{Open, Close, Comma, Minus, Equal as EqualSign, Less as LessSign, AtMost as AtMostSign, Greater as GreaterSign, AtLeast as AtLeastSign}
use Rattle.st_parse.specs.declared.lexemes.Lexeme.{Lexeme}
use Rattle.st_parse.specs.declared.lexemes.Lexeme.TheVariants.{Word, Name, Text, Number, Sign}
use Rattle.st_parse.specs.declared.statements.Whole.{Whole}
use Rattle.st_parse.specs.declared.statements.Operand.{Operand}
use Rattle.st_parse.specs.declared.statements.Operand.TheVariants.{Text as TextValue, Number as NumberValue}
use Rattle.st_parse.specs.declared.statements.Cond.{Cond}
use Rattle.st_parse.specs.declared.statements.Cond.TheVariants.{Compare, Between, OneOf}
use Rattle.st_parse.specs.declared.statements.OrderItem.{OrderItem}
use Rattle.st_parse.specs.Lists.{AreJoined, AreListed}
use Rattle.st_parse.specs.Numbers.{number, negated}
use Rattle.st_parse.specs.Values.{IsOperand}
use Rattle.st_parse.specs.Conditions.{sign_of_comparison, IsCond}
use Rattle.cat_where.specs.declared.stages.Where.{Where}
use Rattle.cat_where.specs.declared.stages.Role.{Role}
use Rattle.cat_where.specs.declared.stages.Role.TheVariants.{Compared, Low, High, Member}
use Rattle.cat_where.specs.declared.stages.Stage.{Stage}
use Rattle.cat_where.specs.declared.stages.Stage.TheVariants.{Start, WantsCond, AfterColumn, WantsOpen, WantsValue, WantsDigits, WantsAnd, AfterMember, AfterCond, WantsBy, WantsOrder, AfterName, AfterOrder}
use Rattle.cat_where.specs.declared.stages.State.{State}
use Rattle.cat_where.specs.Grammar.{AreConds, AreOrders, IsDirection, IsOrder, IsStructured, order_by, takes, takes_cond}
use Rattle.cat_where.specs.Machine.{after_column, after_cond, after_member, after_name, after_order, at_start, compared, finish_at, nothing_done, number_in, start, state_at, step, step_at, wants_and, wants_by, wants_cond, wants_digits, wants_open, wants_order, wants_value, with_cond, with_order, with_value}
use Rattle.cat_where.proofs.Lists.{LedBy, led_joined, joined_led, all_more}
use Rattle.cat_where.proofs.Complete.{steps, finish_of, read}

-- ---- states

-- within a condition, of which these lexemes were read
pub record InCond (limits : Bool) (w : Where) (own ls : List Lexeme) : Type 0 where
  pub front : List Lexeme
  pub conds : LedBy (Word AND) IsCond front w.conds
  pub taken : list_all (takes_cond limits) w.conds ≡ true
  pub orders : w.orders ≡ []
  pub spelt : ls ≡ front ++ own

-- where a value is wanted, after these lexemes
abbrev pub RoleSpelt : Bool → Role → Where → List Lexeme → Type 0
RoleSpelt limits (Compared column op) w ls = InCond limits w (Name column ∷ Sign (sign_of_comparison op) ∷ []) ls
RoleSpelt limits (Low column) w ls = InCond limits w (Name column ∷ Word BETWEEN ∷ []) ls
RoleSpelt limits (High column low) w ls = (lows : List Lexeme) × IsOperand lows low × (takes limits low ≡ true) × InCond limits w (Name column ∷ Word BETWEEN ∷ (lows ++ Word AND ∷ [])) ls
RoleSpelt limits (Member column values) w ls =
    (front : List Lexeme) × LedBy (Sign Comma) IsOperand front values × (list_all (takes limits) values ≡ true) × InCond limits w (Name column ∷ Word IN ∷ Sign Open ∷ front) ls

-- within the order, of which these lexemes were read after ORDER BY
pub record InOrder (limits : Bool) (w : Where) (own ls : List Lexeme) : Type 0 where
  pub front : List Lexeme
  pub conds : AreConds front w.conds
  pub taken : list_all (takes_cond limits) w.conds ≡ true
  pub spelt : ls ≡ front ++ Word ORDER ∷ Word BY ∷ own

-- The lexemes are what was read to come to this stage.
abbrev pub StageSpelt : Bool → Stage → Where → List Lexeme → Type 0
StageSpelt limits Start w ls = (w ≡ nothing_done) × (ls ≡ [])
StageSpelt limits WantsCond w ls = InCond limits w [] ls
StageSpelt limits (AfterColumn column) w ls = InCond limits w (Name column ∷ []) ls
StageSpelt limits (WantsOpen column) w ls = InCond limits w (Name column ∷ Word IN ∷ []) ls
StageSpelt limits (WantsValue role) w ls = RoleSpelt limits role w ls
StageSpelt limits (WantsDigits role) w ls = (front : List Lexeme) × RoleSpelt limits role w front × (ls ≡ front ++ Sign Minus ∷ [])
StageSpelt limits (WantsAnd column low) w ls = (lows : List Lexeme) × IsOperand lows low × (takes limits low ≡ true) × InCond limits w (Name column ∷ Word BETWEEN ∷ lows) ls
StageSpelt limits (AfterMember column values) w ls =
    (list : List Lexeme) × AreListed IsOperand list values × (list_all (takes limits) values ≡ true) × InCond limits w (Name column ∷ Word IN ∷ Sign Open ∷ list) ls
StageSpelt limits AfterCond w ls = AreJoined (Word AND) IsCond ls w.conds × (list_all (takes_cond limits) w.conds ≡ true) × (w.orders ≡ [])
StageSpelt limits WantsBy w ls = (front : List Lexeme) × AreConds front w.conds × (list_all (takes_cond limits) w.conds ≡ true) × (w.orders ≡ []) × (ls ≡ front ++ Word ORDER ∷ [])
StageSpelt limits WantsOrder w ls = (front : List Lexeme) × LedBy (Sign Comma) IsOrder front w.orders × InOrder limits w front ls
StageSpelt limits (AfterName name) w ls = (front : List Lexeme) × LedBy (Sign Comma) IsOrder front w.orders × InOrder limits w (front ++ Name name ∷ []) ls
StageSpelt limits AfterOrder w ls = (list : List Lexeme) × AreListed IsOrder list w.orders × InOrder limits w list ls

abbrev pub NextSpelt : Bool → Option State → List Lexeme → Type 0
NextSpelt limits None ls = Unit {0}
NextSpelt limits (Some s) ls = StageSpelt limits s.stage s.done ls

-- ---- one lexeme more

cond_grows : (limits : Bool) (w : Where) (own more ls : List Lexeme) → InCond limits w own ls → InCond limits w (own ++ more) (ls ++ more)
cond_grows limits w own more ls was = record {
  front = was.front;
  conds = was.conds;
  taken = was.taken;
  orders = was.orders;
  spelt = ap (λ (x : List Lexeme). x ++ more) was.spelt ∙ append_assoc was.front own more;
}

cond_ends : (limits : Bool) (w : Where) (own more ls : List Lexeme) (c : Cond) → InCond limits w own ls → IsCond (own ++ more) c → takes_cond limits c ≡ true
    → StageSpelt limits AfterCond (with_cond c w) (ls ++ more)
unfolding cond_grows
cond_ends limits w own more ls c was is taken = (
  subst (λ (x : List Lexeme). AreJoined (Word AND) IsCond x (w.conds ++ c ∷ [])) (sym (cond_grows limits w own more ls was).spelt) (led_joined (Word AND) IsCond was.front (own ++ more) w.conds c was.conds is),
  all_more (takes_cond limits) w.conds c was.taken taken,
  was.orders,
)

value_spelt : (limits : Bool) (role : Role) (w : Where) (ls own : List Lexeme) (value : Operand) → RoleSpelt limits role w ls → IsOperand own value → takes limits value ≡ true
    → NextSpelt limits (Some (with_value role value w)) (ls ++ own)
value_spelt limits (Compared column op) w ls own value was is taken =
    cond_ends limits w (Name column ∷ Sign (sign_of_comparison op) ∷ []) own ls (Compare column op value) was (own, is, refl) taken
value_spelt limits (Low column) w ls own value was is taken = (own, is, taken, cond_grows limits w (Name column ∷ Word BETWEEN ∷ []) own ls was)
value_spelt limits (High column low) w ls own value (lows, low_is, low_taken, was) is taken =
    cond_ends limits w (Name column ∷ Word BETWEEN ∷ (lows ++ Word AND ∷ [])) own ls (Between column low value) was
    (lows, own, low_is, is, ap (λ (x : List Lexeme). Name column ∷ Word BETWEEN ∷ x) (append_assoc lows (Word AND ∷ []) own))
    (and_from (takes limits low) (takes limits value) low_taken taken)
value_spelt limits (Member column values) w ls own value (front, led, all, was) is taken = (
  front ++ own,
  led_joined (Sign Comma) IsOperand front own values value led is,
  all_more (takes limits) values value all taken,
  cond_grows limits w (Name column ∷ Word IN ∷ Sign Open ∷ front) own ls was,
)

number_spelt : (limits : Bool) (role : Role) (w : Where) (n : Whole) (ls own : List Lexeme) → RoleSpelt limits role w ls → IsOperand own (NumberValue n) → NextSpelt limits (number_in limits role n w) (ls ++ own)
number_spelt limits role w n ls own was is = go (takes limits (NumberValue n)) refl
  where
    go : (b : Bool) → takes limits (NumberValue n) ≡ b → NextSpelt limits (cond b (Some (with_value role (NumberValue n) w)) None) (ls ++ own)
    go true taken = value_spelt limits role w ls own (NumberValue n) was is taken
    go false taken = tt

nothing_in_cond : (limits : Bool) (w : Where) (ls : List Lexeme) → w ≡ nothing_done → ls ≡ [] → InCond limits w [] ls
nothing_in_cond limits w ls nothing none = subst (λ (x : Where). InCond limits x [] ls) (sym nothing) (record { front = []; conds = refl; taken = refl; orders = refl; spelt = none })

at_start_spelt : (limits : Bool) (w : Where) (l : Lexeme) (ls : List Lexeme) → StageSpelt limits Start w ls → NextSpelt limits (at_start w l) (ls ++ l ∷ [])
at_start_spelt limits w (Name column) ls (nothing, none) = cond_grows limits w [] (Name column ∷ []) ls (nothing_in_cond limits w ls nothing none)
at_start_spelt limits w (Word ORDER) ls (nothing, none) =
    subst (λ (x : Where). StageSpelt limits WantsBy x (ls ++ Word ORDER ∷ [])) (sym nothing) ([], refl, refl, refl, ap (λ (x : List Lexeme). x ++ Word ORDER ∷ []) none)
at_start_spelt limits w l ls was = tt

wants_cond_spelt : (limits : Bool) (w : Where) (l : Lexeme) (ls : List Lexeme) → StageSpelt limits WantsCond w ls → NextSpelt limits (wants_cond w l) (ls ++ l ∷ [])
wants_cond_spelt limits w (Name column) ls was = cond_grows limits w [] (Name column ∷ []) ls was
wants_cond_spelt limits w l ls was = tt

compared_spelt : (limits : Bool) (column : List ℕ) (sign : Symbol) (w : Where) (ls : List Lexeme) → InCond limits w (Name column ∷ []) ls → NextSpelt limits (compared column sign w) (ls ++ Sign sign ∷ [])
compared_spelt limits column EqualSign w ls was = cond_grows limits w (Name column ∷ []) (Sign EqualSign ∷ []) ls was
compared_spelt limits column LessSign w ls was = cond_grows limits w (Name column ∷ []) (Sign LessSign ∷ []) ls was
compared_spelt limits column AtMostSign w ls was = cond_grows limits w (Name column ∷ []) (Sign AtMostSign ∷ []) ls was
compared_spelt limits column GreaterSign w ls was = cond_grows limits w (Name column ∷ []) (Sign GreaterSign ∷ []) ls was
compared_spelt limits column AtLeastSign w ls was = cond_grows limits w (Name column ∷ []) (Sign AtLeastSign ∷ []) ls was
compared_spelt limits column sign w ls was = tt

after_column_spelt : (limits : Bool) (column : List ℕ) (w : Where) (l : Lexeme) (ls : List Lexeme) → StageSpelt limits (AfterColumn column) w ls → NextSpelt limits (after_column column w l) (ls ++ l ∷ [])
after_column_spelt limits column w (Sign sign) ls was = compared_spelt limits column sign w ls was
after_column_spelt limits column w (Word BETWEEN) ls was = cond_grows limits w (Name column ∷ []) (Word BETWEEN ∷ []) ls was
after_column_spelt limits column w (Word IN) ls was = cond_grows limits w (Name column ∷ []) (Word IN ∷ []) ls was
after_column_spelt limits column w l ls was = tt

wants_open_spelt : (limits : Bool) (column : List ℕ) (w : Where) (l : Lexeme) (ls : List Lexeme) → StageSpelt limits (WantsOpen column) w ls → NextSpelt limits (wants_open column w l) (ls ++ l ∷ [])
wants_open_spelt limits column w (Sign Open) ls was = ([], refl, refl, cond_grows limits w (Name column ∷ Word IN ∷ []) (Sign Open ∷ []) ls was)
wants_open_spelt limits column w l ls was = tt

wants_value_spelt : (limits : Bool) (role : Role) (w : Where) (l : Lexeme) (ls : List Lexeme) → StageSpelt limits (WantsValue role) w ls → NextSpelt limits (wants_value limits role w l) (ls ++ l ∷ [])
wants_value_spelt limits role w (Text text) ls was = value_spelt limits role w ls (Text text ∷ []) (TextValue text) was refl (text_taken limits)
  where
    text_taken : (b : Bool) → takes b (TextValue text) ≡ true
    text_taken true = refl
    text_taken false = refl
wants_value_spelt limits role w (Number digits) ls was = number_spelt limits role w (number digits) ls (Number digits ∷ []) was (digits, inl (refl, refl))
wants_value_spelt limits role w (Sign Minus) ls was = (ls, was, refl)
wants_value_spelt limits role w l ls was = tt

wants_digits_spelt : (limits : Bool) (role : Role) (w : Where) (l : Lexeme) (ls : List Lexeme) → StageSpelt limits (WantsDigits role) w ls → NextSpelt limits (wants_digits limits role w l) (ls ++ l ∷ [])
wants_digits_spelt limits role w (Number digits) ls (front, was, e) =
    subst (NextSpelt limits (number_in limits role (negated digits) w)) (sym (ap (λ (x : List Lexeme). x ++ Number digits ∷ []) e ∙ append_assoc front (Sign Minus ∷ []) (Number digits ∷ [])))
    (number_spelt limits role w (negated digits) front (Sign Minus ∷ Number digits ∷ []) was (digits, inr (refl, refl)))
wants_digits_spelt limits role w l ls was = tt

wants_and_spelt : (limits : Bool) (column : List ℕ) (low : Operand) (w : Where) (l : Lexeme) (ls : List Lexeme) → StageSpelt limits (WantsAnd column low) w ls → NextSpelt limits (wants_and column low w l) (ls ++ l ∷ [])
wants_and_spelt limits column low w (Word AND) ls (lows, is, taken, was) = (lows, is, taken, cond_grows limits w (Name column ∷ Word BETWEEN ∷ lows) (Word AND ∷ []) ls was)
wants_and_spelt limits column low w l ls was = tt

after_member_spelt : (limits : Bool) (column : List ℕ) (values : List Operand) (w : Where) (l : Lexeme) (ls : List Lexeme) → StageSpelt limits (AfterMember column values) w ls
    → NextSpelt limits (after_member column values w l) (ls ++ l ∷ [])
after_member_spelt limits column values w (Sign Comma) ls (list, are, taken, was) =
    (list ++ Sign Comma ∷ [], joined_led (Sign Comma) IsOperand list values are, taken, cond_grows limits w (Name column ∷ Word IN ∷ Sign Open ∷ list) (Sign Comma ∷ []) ls was)
after_member_spelt limits column values w (Sign Close) ls (list, are, taken, was) =
    cond_ends limits w (Name column ∷ Word IN ∷ Sign Open ∷ list) (Sign Close ∷ []) ls (OneOf column values) was (Sign Open ∷ (list ++ Sign Close ∷ []), (list, are, refl), refl) taken
after_member_spelt limits column values w l ls was = tt

joined_conds : (ls : List Lexeme) (cs : List Cond) → AreJoined (Word AND) IsCond ls cs → AreConds ls cs
joined_conds ls [] are = absurd are
joined_conds ls (c ∷ cs) are = are

after_cond_spelt : (limits : Bool) (w : Where) (l : Lexeme) (ls : List Lexeme) → StageSpelt limits AfterCond w ls → NextSpelt limits (after_cond w l) (ls ++ l ∷ [])
after_cond_spelt limits w (Word AND) ls (are, taken, orders) = record {
  front = ls ++ Word AND ∷ [];
  conds = joined_led (Word AND) IsCond ls w.conds are;
  taken = taken;
  orders = orders;
  spelt = sym (append-nil (ls ++ Word AND ∷ []));
}
after_cond_spelt limits w (Word ORDER) ls (are, taken, orders) = (ls, joined_conds ls w.conds are, taken, orders, refl)
after_cond_spelt limits w l ls was = tt

wants_by_spelt : (limits : Bool) (w : Where) (l : Lexeme) (ls : List Lexeme) → StageSpelt limits WantsBy w ls → NextSpelt limits (wants_by w l) (ls ++ l ∷ [])
wants_by_spelt limits w (Word BY) ls (front, conds, taken, orders, e) = (
  [],
  subst (λ (x : List OrderItem). LedBy (Sign Comma) IsOrder [] x) (sym orders) refl,
  record { front = front; conds = conds; taken = taken; spelt = ap (λ (x : List Lexeme). x ++ Word BY ∷ []) e ∙ append_assoc front (Word ORDER ∷ []) (Word BY ∷ []) },
)
wants_by_spelt limits w l ls was = tt

order_grows : (limits : Bool) (w : Where) (own more ls : List Lexeme) → InOrder limits w own ls → InOrder limits w (own ++ more) (ls ++ more)
order_grows limits w own more ls was = record {
  front = was.front;
  conds = was.conds;
  taken = was.taken;
  spelt = ap (λ (x : List Lexeme). x ++ more) was.spelt ∙ append_assoc was.front (Word ORDER ∷ Word BY ∷ own) more;
}

wants_order_spelt : (limits : Bool) (w : Where) (l : Lexeme) (ls : List Lexeme) → StageSpelt limits WantsOrder w ls → NextSpelt limits (wants_order w l) (ls ++ l ∷ [])
wants_order_spelt limits w (Name name) ls (front, led, was) = (front, led, order_grows limits w front (Name name ∷ []) ls was)
wants_order_spelt limits w l ls was = tt

-- an item of the order with its direction
order_ends : (limits : Bool) (w : Where) (name : List ℕ) (down : Bool) (front direction ls : List Lexeme) → LedBy (Sign Comma) IsOrder front w.orders → IsDirection direction down
    → InOrder limits w (front ++ Name name ∷ []) ls → StageSpelt limits AfterOrder (with_order name down w) (ls ++ direction)
unfolding order_grows
order_ends limits w name down front direction ls led directed was = (
  front ++ Name name ∷ direction,
  led_joined (Sign Comma) IsOrder front (Name name ∷ direction) w.orders (order_by name down) led (record { name = name; down = down; direction = direction; is = refl; directed = directed; spelt = refl }),
  record {
    front = was.front;
    conds = was.conds;
    taken = was.taken;
    spelt =
        (order_grows limits w (front ++ Name name ∷ []) direction ls was).spelt
        ∙ ap (λ (x : List Lexeme). was.front ++ Word ORDER ∷ Word BY ∷ x) (append_assoc front (Name name ∷ []) direction);
  },
)

-- a comma after an item of the order
order_led : (limits : Bool) (w : Where) (ls : List Lexeme) → StageSpelt limits AfterOrder w ls → StageSpelt limits WantsOrder w (ls ++ Sign Comma ∷ [])
order_led limits w ls (list, are, was) = (list ++ Sign Comma ∷ [], joined_led (Sign Comma) IsOrder list w.orders are, order_grows limits w list (Sign Comma ∷ []) ls was)

-- an item of the order without a word for its direction
name_ends : (limits : Bool) (w : Where) (name : List ℕ) (ls : List Lexeme) → StageSpelt limits (AfterName name) w ls → StageSpelt limits AfterOrder (with_order name false w) ls
name_ends limits w name ls (front, led, was) = subst (StageSpelt limits AfterOrder (with_order name false w)) (append-nil ls) (order_ends limits w name false front [] ls led (inl refl) was)

after_name_spelt : (limits : Bool) (name : List ℕ) (w : Where) (l : Lexeme) (ls : List Lexeme) → StageSpelt limits (AfterName name) w ls → NextSpelt limits (after_name name w l) (ls ++ l ∷ [])
after_name_spelt limits name w (Word ASC) ls (front, led, was) = order_ends limits w name false front (Word ASC ∷ []) ls led (inr refl) was
after_name_spelt limits name w (Word DESC) ls (front, led, was) = order_ends limits w name true front (Word DESC ∷ []) ls led refl was
after_name_spelt limits name w (Sign Comma) ls was = order_led limits (with_order name false w) ls (name_ends limits w name ls was)
after_name_spelt limits name w l ls was = tt

after_order_spelt : (limits : Bool) (w : Where) (l : Lexeme) (ls : List Lexeme) → StageSpelt limits AfterOrder w ls → NextSpelt limits (after_order w l) (ls ++ l ∷ [])
after_order_spelt limits w (Sign Comma) ls was = order_led limits w ls was
after_order_spelt limits w l ls was = tt

step_spelt : (limits : Bool) (stage : Stage) (w : Where) (l : Lexeme) (ls : List Lexeme) → StageSpelt limits stage w ls → NextSpelt limits (step_at limits stage w l) (ls ++ l ∷ [])
step_spelt limits Start w l ls was = at_start_spelt limits w l ls was
step_spelt limits WantsCond w l ls was = wants_cond_spelt limits w l ls was
step_spelt limits (AfterColumn column) w l ls was = after_column_spelt limits column w l ls was
step_spelt limits (WantsOpen column) w l ls was = wants_open_spelt limits column w l ls was
step_spelt limits (WantsValue role) w l ls was = wants_value_spelt limits role w l ls was
step_spelt limits (WantsDigits role) w l ls was = wants_digits_spelt limits role w l ls was
step_spelt limits (WantsAnd column low) w l ls was = wants_and_spelt limits column low w l ls was
step_spelt limits (AfterMember column values) w l ls was = after_member_spelt limits column values w l ls was
step_spelt limits AfterCond w l ls was = after_cond_spelt limits w l ls was
step_spelt limits WantsBy w l ls was = wants_by_spelt limits w l ls was
step_spelt limits WantsOrder w l ls was = wants_order_spelt limits w l ls was
step_spelt limits (AfterName name) w l ls was = after_name_spelt limits name w l ls was
step_spelt limits AfterOrder w l ls was = after_order_spelt limits w l ls was

steps_spelt : (limits : Bool) (o : Option State) (xs ls : List Lexeme) → NextSpelt limits o ls → NextSpelt limits (steps limits o xs) (ls ++ xs)
steps_spelt limits None [] ls was = tt
steps_spelt limits None (x ∷ xs) ls was = tt
steps_spelt limits (Some s) [] ls was = subst (NextSpelt limits (Some s)) (sym (append-nil ls)) was
steps_spelt limits (Some s) (x ∷ xs) ls was =
    subst (NextSpelt limits (steps limits (step limits s x) xs)) (append_assoc ls (x ∷ []) xs) (steps_spelt limits (step limits s x) xs (ls ++ x ∷ []) (step_spelt limits s.stage s.done x ls was))

-- ---- the end

abbrev FoundSpelt : Bool → Option Where → List Lexeme → Type 0
FoundSpelt limits None ls = Unit {0}
FoundSpelt limits (Some w) ls = IsStructured limits ls w

conds_alone : (limits : Bool) (w : Where) (ls : List Lexeme) → StageSpelt limits AfterCond w ls → IsStructured limits ls w
conds_alone limits w ls (are, taken, orders) = record {
  conditions = ls;
  order = [];
  conds = joined_conds ls w.conds are;
  orders = subst (λ (x : List OrderItem). AreOrders [] x) (sym orders) refl;
  taken = taken;
  spelt = sym (append-nil ls);
}

with_its_order : (limits : Bool) (w : Where) (ls : List Lexeme) → StageSpelt limits AfterOrder w ls → IsStructured limits ls w
with_its_order limits w ls (list, are, was) = record {
  conditions = was.front;
  order = Word ORDER ∷ Word BY ∷ list;
  conds = was.conds;
  orders = orders w.orders are;
  taken = was.taken;
  spelt = was.spelt;
}
  where
    orders : (os : List OrderItem) → AreListed IsOrder list os → AreOrders (Word ORDER ∷ Word BY ∷ list) os
    orders [] are = absurd are
    orders (o ∷ os) are = (list, are, refl)

finish_spelt : (limits : Bool) (stage : Stage) (w : Where) (ls : List Lexeme) → StageSpelt limits stage w ls → FoundSpelt limits (finish_at stage w) ls
finish_spelt limits Start w ls (nothing, none) =
    subst (IsStructured limits ls) (sym nothing) (record { conditions = []; order = []; conds = refl; orders = refl; taken = refl; spelt = none })
finish_spelt limits AfterCond w ls was = conds_alone limits w ls was
finish_spelt limits (AfterName name) w ls was = with_its_order limits (with_order name false w) ls (name_ends limits w name ls was)
finish_spelt limits AfterOrder w ls was = with_its_order limits w ls was
finish_spelt limits stage w ls was = tt

found_spelt : (limits : Bool) (o : Option State) (ls : List Lexeme) → NextSpelt limits o ls → FoundSpelt limits (finish_of o) ls
found_spelt limits None ls was = tt
found_spelt limits (Some s) ls was = finish_spelt limits s.stage s.done ls was

-- what is read is a structured query
pub read_is_structured : (limits : Bool) (ls : List Lexeme) (w : Where) → read limits ls ≡ Some w → IsStructured limits ls w
read_is_structured limits ls w is = subst (λ (o : Option Where). FoundSpelt limits o ls) is (found_spelt limits (steps limits (Some start) ls) ls (steps_spelt limits (Some start) ls [] (refl, refl)))

-- ---- what was read can be completed

pub record IsCompleted (limits : Bool) (s : State) : Type 0 where
  pub rest : List Lexeme
  pub query : Where
  pub is : finish_of (steps limits (Some s) rest) ≡ Some query

value_completed : (limits : Bool) (role : Role) (w : Where) (value : Operand) → IsCompleted limits (with_value role value w)
value_completed limits (Compared column op) w value = record { rest = []; query = with_cond (Compare column op value) w; is = refl }
value_completed limits (Low column) w value = record { rest = Word AND ∷ Text [] ∷ []; query = with_cond (Between column value (TextValue [])) w; is = refl }
value_completed limits (High column low) w value = record { rest = []; query = with_cond (Between column low value) w; is = refl }
value_completed limits (Member column values) w value = record { rest = Sign Close ∷ []; query = with_cond (OneOf column (values ++ value ∷ [])) w; is = refl }

text_completed : (limits : Bool) (role : Role) (w : Where) → IsCompleted limits (state_at (WantsValue role) w)
text_completed limits role w = let rest = value_completed limits role w (TextValue []) in record { rest = Text [] ∷ rest.rest; query = rest.query; is = rest.is }

digits_completed : (limits : Bool) (role : Role) (w : Where) → IsCompleted limits (state_at (WantsDigits role) w)
digits_completed true role w = let rest = value_completed true role w (NumberValue (negated (codes "0"))) in record { rest = Number (codes "0") ∷ rest.rest; query = rest.query; is = rest.is }
digits_completed false role w = let rest = value_completed false role w (NumberValue (negated (codes "0"))) in record { rest = Number (codes "0") ∷ rest.rest; query = rest.query; is = rest.is }

completed_at : (limits : Bool) (stage : Stage) (w : Where) → IsCompleted limits (state_at stage w)
completed_at limits Start w = record { rest = []; query = w; is = refl }
completed_at limits WantsCond w = record { rest = Name [] ∷ Sign EqualSign ∷ Text [] ∷ []; query = _; is = refl }
completed_at limits (AfterColumn column) w = record { rest = Sign EqualSign ∷ Text [] ∷ []; query = _; is = refl }
completed_at limits (WantsOpen column) w = record { rest = Sign Open ∷ Text [] ∷ Sign Close ∷ []; query = _; is = refl }
completed_at limits (WantsValue role) w = text_completed limits role w
completed_at limits (WantsDigits role) w = digits_completed limits role w
completed_at limits (WantsAnd column low) w = record { rest = Word AND ∷ Text [] ∷ []; query = _; is = refl }
completed_at limits (AfterMember column values) w = record { rest = Sign Close ∷ []; query = _; is = refl }
completed_at limits AfterCond w = record { rest = []; query = w; is = refl }
completed_at limits WantsBy w = record { rest = Word BY ∷ Name [] ∷ []; query = _; is = refl }
completed_at limits WantsOrder w = record { rest = Name [] ∷ []; query = _; is = refl }
completed_at limits (AfterName name) w = record { rest = []; query = _; is = refl }
completed_at limits AfterOrder w = record { rest = []; query = w; is = refl }

pub completed : (limits : Bool) (s : State) → IsCompleted limits s
completed limits s = completed_at limits s.stage s.done
