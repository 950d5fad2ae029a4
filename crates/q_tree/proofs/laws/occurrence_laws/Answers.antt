use Rattle.q_tree.specs.laws.Occurring.{occurs_where, occurrences_rise}
use Rattle.q_tree.proofs.laws.occurrence_laws.Goals as goal

pub returns-clause-occur : goal.returns-clause-occur
returns-clause-occur c = occurs_where

pub returns-clause-rise : goal.returns-clause-rise
returns-clause-rise c = occurrences_rise
