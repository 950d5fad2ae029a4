use Rattle.db_arguments.specs.laws.OneReading.{one_reading}
use Rattle.db_arguments.proofs.laws.one_reading.Goals as goal

pub returns : goal.returns
returns c = one_reading
