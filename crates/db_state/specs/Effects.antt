-- What a statement does: it is refused, or it leads to a state with a reply.
use Rattle.std.specs.Prelude.{◌≡◌, Option, Some, None, ℕ, pos, negsuc, Bool, true, false, List, refl}
use Rattle.tb_table.specs.declared.columns.Target.{Target}
use Rattle.tx_settings.specs.declared.preferences.Prefs.{Prefs}
use Rattle.ix_context.specs.Levels.{Level}
use Rattle.ix_indexes.specs.Indexes.{AskedFor}
use Rattle.db_cond.specs.declared.faults.Fault.{Fault}
use Rattle.db_cond.specs.Refused.{refusal_of}
use Rattle.st_parse.specs.declared.statements.Whole.{Whole}
use Rattle.st_parse.specs.declared.statements.Whole.TheVariants.{Fits, Beyond}
use Rattle.db_cond.specs.Faults.{Refusal, refusal_line, NotUnderstood, WrongValues, OutOfRange, LimitReached}
use Rattle.db_state.specs.States.{StoreState}

-- Work on one index: what is asked for, and the state before it. The index is made, synchronised, or optimised.
pub data IndexWork : Type 0 where
  Creates : StoreState → AskedFor → List ℕ → Target → Prefs → IndexWork
  Syncs : StoreState → List ℕ → IndexWork
  Optimises : StoreState → Level → List ℕ → IndexWork

-- What comes of a statement: a refusal; a state and a reply, where no row of postings of an index is put anew; or these by work on an index.
pub data Effect : Type 0 where
  Refused : Refusal → Effect
  Does : StoreState → List ℕ → Effect
  Works : StoreState → List ℕ → IndexWork → Effect

-- a refusal where the test holds, and else what follows: of a chain the first that holds
abbrev pub refuse : Bool → Refusal → Effect → Effect
refuse true refusal effect = Refused refusal
refuse false refusal effect = effect

-- a refusal by what was found wrong, if anything was, and else what follows
abbrev pub refuse_by : {X : Type 0} → Option X → (X → Refusal) → Effect → Effect
refuse_by None refusal effect = effect
refuse_by (Some x) refusal effect = Refused (refusal x)

-- a refusal where nothing is there, and else what follows of what is
abbrev pub with_found : {X : Type 0} → Option X → Refusal → (X → Effect) → Effect
with_found None refusal effect = Refused refusal
with_found (Some x) refusal effect = effect x

-- the state after, and the reply
abbrev pub state_by : StoreState → Effect → StoreState
state_by m (Refused refusal) = m
state_by m (Does next reply) = next
state_by m (Works next reply work) = next

abbrev pub reply_by : Effect → List ℕ
reply_by (Refused refusal) = refusal_line refusal
reply_by (Does next reply) = reply
reply_by (Works next reply work) = reply

abbrev pub is_done : Effect → Bool
is_done (Refused refusal) = false
is_done (Does next reply) = true
is_done (Works next reply work) = true

-- it only looks: it is a refusal, or leads to no other state
abbrev pub OnlyLooks : StoreState → Effect → Type 0
OnlyLooks m (Refused refusal) = Unit {0}
OnlyLooks m (Does next reply) = next ≡ m
OnlyLooks m (Works next reply work) = ⊥

-- nothing: the effect is what follows; or a fault, with which the statement is refused
abbrev pub Checks : Option Fault → Effect → Effect → Type 0
Checks None effect done = effect ≡ done
Checks (Some fault) effect done = effect ≡ Refused (refusal_of fault)

-- ---- numbers

abbrev pub is_beyond : Whole → Bool
is_beyond (Fits n) = false
is_beyond Beyond = true

-- a number from 0 on, where it is one of 64 bits
abbrev pub whole_count : Whole → Option ℕ
whole_count (Fits (pos n)) = Some n
whole_count (Fits (negsuc n)) = None
whole_count Beyond = None

-- computed examples
first_that_holds : (effect : Effect) → refuse false WrongValues (refuse true OutOfRange (refuse true LimitReached effect)) ≡ Refused OutOfRange
first_that_holds effect = refl

none_holds : (effect : Effect) → refuse false WrongValues (refuse false OutOfRange effect) ≡ effect
none_holds effect = refl

-- a statement that is refused leaves the state
state_stays : (m : StoreState) → state_by m (Refused NotUnderstood) ≡ m
state_stays m = refl

one_hundred : whole_count (Fits (pos 100)) ≡ Some 100
one_hundred = refl

minus_one : whole_count (Fits (negsuc 0)) ≡ None
minus_one = refl
