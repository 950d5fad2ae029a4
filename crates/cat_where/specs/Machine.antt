-- How a structured query is read from the left to the right. Nothing here has to be believed: the law `verdict_is_true` says that this is what the
-- grammar says.
use Rattle.std.specs.Prelude.{ℕ, ◌≡◌, Bool, true, false, List, [], ◌∷◌, ◌++◌, Option, Some, None, refl}
use Rattle.std.specs.Bool.{if◌then◌else◌}
use Rattle.st_parse.specs.declared.lexemes.Keyword.TheVariants.{Between as BETWEEN, In as IN, And as AND, Order as ORDER, By as BY, Asc as ASC, Desc as DESC}
use Rattle.st_parse.specs.declared.lexemes.Symbol.{Symbol}
use Rattle.st_parse.specs.declared.lexemes.Symbol.TheVariants.{Open, Close, Comma, Minus}
use Rattle.st_parse.specs.declared.lexemes.Lexeme.{Lexeme}
use Rattle.st_parse.specs.declared.lexemes.Lexeme.TheVariants.{Word, Name, Text, Number, Sign}
use Rattle.st_parse.specs.declared.statements.Whole.{Whole}
use Rattle.st_parse.specs.declared.statements.Operand.{Operand}
use Rattle.st_parse.specs.declared.statements.Operand.TheVariants.{Text as TextValue, Number as NumberValue}
use Rattle.st_parse.specs.declared.statements.Cond.{Cond}
use Rattle.st_parse.specs.declared.statements.Cond.TheVariants.{Compare, Between, OneOf}
use Rattle.st_parse.specs.Lexemes.{◌>>=◌}
use Rattle.st_parse.specs.Numbers.{number, negated}
use Rattle.st_parse.specs.Conditions.{comparison_of}
use Rattle.cat_where.specs.declared.stages.Where.{Where}
use Rattle.cat_where.specs.declared.stages.Role.{Role}
use Rattle.cat_where.specs.declared.stages.Role.TheVariants.{Compared, Low, High, Member}
use Rattle.cat_where.specs.declared.stages.Stage.{Stage}
use Rattle.cat_where.specs.declared.stages.Stage.TheVariants.{Start, WantsCond, AfterColumn, WantsOpen, WantsValue, WantsDigits, WantsAnd, AfterMember, AfterCond, WantsBy, WantsOrder, AfterName, AfterOrder}
use Rattle.cat_where.specs.declared.stages.State.{State}
use Rattle.cat_where.specs.Grammar.{order_by, takes}

abbrev pub state_at : Stage → Where → State
state_at stage w = record { stage = stage; done = w }

abbrev pub nothing_done : Where
nothing_done = record { conds = []; orders = [] }

abbrev pub start : State
start = state_at Start nothing_done

abbrev pub with_cond : Cond → Where → Where
with_cond c w = record { conds = w.conds ++ c ∷ []; orders = w.orders }

abbrev pub with_order : List ℕ → Bool → Where → Where
with_order name down w = record { conds = w.conds; orders = w.orders ++ order_by name down ∷ [] }

-- a value in its role
abbrev pub with_value : Role → Operand → Where → State
with_value (Compared column op) value w = state_at AfterCond (with_cond (Compare column op value) w)
with_value (Low column) value w = state_at (WantsAnd column value) w
with_value (High column low) value w = state_at AfterCond (with_cond (Between column low value) w)
with_value (Member column values) value w = state_at (AfterMember column (values ++ value ∷ [])) w

abbrev pub number_in : Bool → Role → Whole → Where → Option State
number_in limits role n w = if takes limits (NumberValue n) then Some (with_value role (NumberValue n) w) else None

-- ---- the next lexeme, by what was read before it

abbrev pub at_start : Where → Lexeme → Option State
at_start w (Name column) = Some (state_at (AfterColumn column) w)
at_start w (Word ORDER) = Some (state_at WantsBy w)
at_start w l = None

abbrev pub wants_cond : Where → Lexeme → Option State
wants_cond w (Name column) = Some (state_at (AfterColumn column) w)
wants_cond w l = None

abbrev pub compared : List ℕ → Symbol → Where → Option State
compared column sign w = comparison_of sign >>= λ op. Some (state_at (WantsValue (Compared column op)) w)

abbrev pub after_column : List ℕ → Where → Lexeme → Option State
after_column column w (Sign sign) = compared column sign w
after_column column w (Word BETWEEN) = Some (state_at (WantsValue (Low column)) w)
after_column column w (Word IN) = Some (state_at (WantsOpen column) w)
after_column column w l = None

abbrev pub wants_open : List ℕ → Where → Lexeme → Option State
wants_open column w (Sign Open) = Some (state_at (WantsValue (Member column [])) w)
wants_open column w l = None

abbrev pub wants_value : Bool → Role → Where → Lexeme → Option State
wants_value limits role w (Text text) = Some (with_value role (TextValue text) w)
wants_value limits role w (Number digits) = number_in limits role (number digits) w
wants_value limits role w (Sign Minus) = Some (state_at (WantsDigits role) w)
wants_value limits role w l = None

abbrev pub wants_digits : Bool → Role → Where → Lexeme → Option State
wants_digits limits role w (Number digits) = number_in limits role (negated digits) w
wants_digits limits role w l = None

abbrev pub wants_and : List ℕ → Operand → Where → Lexeme → Option State
wants_and column low w (Word AND) = Some (state_at (WantsValue (High column low)) w)
wants_and column low w l = None

abbrev pub after_member : List ℕ → List Operand → Where → Lexeme → Option State
after_member column values w (Sign Comma) = Some (state_at (WantsValue (Member column values)) w)
after_member column values w (Sign Close) = Some (state_at AfterCond (with_cond (OneOf column values) w))
after_member column values w l = None

abbrev pub after_cond : Where → Lexeme → Option State
after_cond w (Word AND) = Some (state_at WantsCond w)
after_cond w (Word ORDER) = Some (state_at WantsBy w)
after_cond w l = None

abbrev pub wants_by : Where → Lexeme → Option State
wants_by w (Word BY) = Some (state_at WantsOrder w)
wants_by w l = None

abbrev pub wants_order : Where → Lexeme → Option State
wants_order w (Name name) = Some (state_at (AfterName name) w)
wants_order w l = None

abbrev pub after_name : List ℕ → Where → Lexeme → Option State
after_name name w (Word ASC) = Some (state_at AfterOrder (with_order name false w))
after_name name w (Word DESC) = Some (state_at AfterOrder (with_order name true w))
after_name name w (Sign Comma) = Some (state_at WantsOrder (with_order name false w))
after_name name w l = None

abbrev pub after_order : Where → Lexeme → Option State
after_order w (Sign Comma) = Some (state_at WantsOrder w)
after_order w l = None

abbrev pub step_at : Bool → Stage → Where → Lexeme → Option State
step_at limits Start w l = at_start w l
step_at limits WantsCond w l = wants_cond w l
step_at limits (AfterColumn column) w l = after_column column w l
step_at limits (WantsOpen column) w l = wants_open column w l
step_at limits (WantsValue role) w l = wants_value limits role w l
step_at limits (WantsDigits role) w l = wants_digits limits role w l
step_at limits (WantsAnd column low) w l = wants_and column low w l
step_at limits (AfterMember column values) w l = after_member column values w l
step_at limits AfterCond w l = after_cond w l
step_at limits WantsBy w l = wants_by w l
step_at limits WantsOrder w l = wants_order w l
step_at limits (AfterName name) w l = after_name name w l
step_at limits AfterOrder w l = after_order w l

-- the next lexeme, unless it is refused; under the limits of numbers or without them
abbrev pub step : Bool → State → Lexeme → Option State
step limits s l = step_at limits s.stage s.done l

-- the query, where the text may end here
abbrev pub finish_at : Stage → Where → Option Where
finish_at Start w = Some w
finish_at AfterCond w = Some w
finish_at (AfterName name) w = Some (with_order name false w)
finish_at AfterOrder w = Some w
finish_at stage w = None

abbrev pub finish : State → Option Where
finish s = finish_at s.stage s.done

-- computed examples
empty_text : finish start ≡ Some nothing_done
empty_text = refl

no_and_first : step true start (Word AND) ≡ None
no_and_first = refl
