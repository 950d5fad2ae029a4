-- What the results of reading say.
use Rattle.std.specs.Prelude.{◌≡◌, refl, Result, Ok, Err, Option, Some, None}
use Rattle.q_tree.specs.declared.queries.Query.{Query}
use Rattle.q_tree.specs.Trees.{tree_of}
use Rattle.q_parse.specs.declared.faults.Cause.TheVariants.{OutOfRange, NotInProfile, Syntax as Ungrammatical}
use Rattle.q_parse.specs.declared.faults.QueryFault.{QueryFault}
use Rattle.q_parse.specs.declared.faults.QueryFault.TheVariants.{Syntax, NotInProfile as NotInTheProfile, BadNumber, TooLarge as TooLargeText, Memory}
use Rattle.q_parse.specs.Faults.{Verdict, TooLarge, Found, Fault}

-- The verdict that a result is. Where memory ran out it is none.
abbrev pub verdict_of : Result Query QueryFault → Option Verdict
verdict_of (Ok q) = Some (Found (tree_of q))
verdict_of (Err (Syntax place)) = Some (Fault Ungrammatical place)
verdict_of (Err (NotInTheProfile place)) = Some (Fault NotInProfile place)
verdict_of (Err (BadNumber place)) = Some (Fault OutOfRange place)
verdict_of (Err TooLargeText) = Some TooLarge
verdict_of (Err Memory) = None

-- computed examples: a number that is out of its range, and want of memory
bad_number : verdict_of (Err (BadNumber 7)) ≡ Some (Fault OutOfRange 7)
bad_number = refl

no_memory : verdict_of (Err Memory) ≡ None
no_memory = refl
