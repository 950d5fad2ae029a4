use Rattle.db_arguments.specs.laws.OneReading.{one_reading}
use Rattle.db_arguments.proofs.arguments.file_of.Goals as goal

pub returns-in-Some-Rows-clause-none : goal.returns-in-Some-Rows-clause-none
returns-in-Some-Rows-clause-none c = λ file limit asks. one_reading.not_both _ file limit _ asks (rw (c.in-Some-Rows.is, c.in-Some-Rows.field-0-is) at c.in_ok-store.ensures.some)
