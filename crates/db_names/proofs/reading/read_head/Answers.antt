use Rattle.std.proofs.Common.{sym, ◌∙◌}
use Rattle.db_names.proofs.ReadSteps.{no_parts, no_name}
use Rattle.db_names.proofs.reading.read_head.Goals as goal

pub returns-in_default : goal.returns-in_default
returns-in_default c = λ h is has. no_parts c.args.value.now c.in_default.ensures.none h is.table has

pub returns-in_default-2 : goal.returns-in_default-2
returns-in_default-2 c = no_name c.args.value.now c.in-Some.code c.in-Some.table.now c.in-Some.column c.in-Some.ensures.some (sym c.in_ok-table.ensures ∙ c.in_default-2.is)
