use Rattle.std.proofs.Common.{map}
use Rattle.std.specs.String.{string_bytes}
use Rattle.db_arguments.proofs.Asking.{asked_none, asked_some, nothing_gathered}
use Rattle.db_arguments.proofs.arguments.read_arguments.Goals as goal

pub returns-clause-some : goal.returns-clause-some
returns-clause-some c = asked_some (map string_bytes c.args.arguments.now) c.in-Some.given c.asked_by.result (rw c.in-Some.is at c.in_ok-given.ensures) c.asked_by.ensures

pub returns-clause-none : goal.returns-clause-none
returns-clause-none c = asked_none (map string_bytes c.args.arguments.now) c.in-Some.given c.asked_by.result (rw c.in-Some.is at c.in_ok-given.ensures) c.asked_by.ensures

pub returns-in_default-clause-none : goal.returns-in_default-clause-none
returns-in_default-clause-none c = nothing_gathered (map string_bytes c.args.arguments.now) (rw c.in_default.is at c.in_ok-given.ensures)
