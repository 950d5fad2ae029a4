-- What the results of reading say.
use Rattle.std.specs.Prelude.{◌≡◌, true, Option, Some, None, Result, Ok, Err, is_some, refl}
use Rattle.cat_where.specs.declared.faults.WhereFault.{WhereFault}
use Rattle.cat_where.specs.declared.faults.WhereFault.TheVariants.{Syntax as SyntaxFault, BadNumber, Memory as OutOfMemory}
use Rattle.cat_where.specs.declared.stages.State.{State}
use Rattle.cat_where.specs.declared.stages.StepError.{StepError}
use Rattle.cat_where.specs.declared.stages.StepError.TheVariants.{Refused, OutOfRange as OutOfRangeError, Memory}
use Rattle.cat_where.specs.declared.stages.Where.{Where}
use Rattle.cat_where.specs.Verdicts.{Verdict, Found, OutOfRange, Syntax}

-- The step that a result is, where the step is this one under the limits of numbers and that one without them. Want of memory says nothing.
abbrev pub StepsTo : Result State StepError → Option State → Option State → Type 0
StepsTo (Ok s) limited unlimited = limited ≡ Some s
StepsTo (Err Refused) limited unlimited = (limited ≡ None) × (unlimited ≡ None)
StepsTo (Err OutOfRangeError) limited unlimited = (limited ≡ None) × (is_some unlimited ≡ true)
StepsTo (Err Memory) limited unlimited = Unit {0}

-- the same, where the limits don't matter
abbrev pub GoesTo : Result State StepError → Option State → Type 0
GoesTo result next = StepsTo result next next

-- The verdict that a result is. Where memory ran out it is none.
abbrev pub verdict_of : Result Where WhereFault → Option Verdict
verdict_of (Ok w) = Some (Found w)
verdict_of (Err (SyntaxFault place)) = Some (Syntax place)
verdict_of (Err (BadNumber place)) = Some (OutOfRange place)
verdict_of (Err OutOfMemory) = None

-- computed examples
bad_number : verdict_of (Err (BadNumber 7)) ≡ Some (OutOfRange 7)
bad_number = refl

no_memory : verdict_of (Err OutOfMemory) ≡ None
no_memory = refl
