use Rattle.tx_tags.specs.laws.Closers.{closers_are_first, none_closes}
use Rattle.tx_tags.proofs.laws.closing_laws.Goals as goal

pub returns-clause-first : goal.returns-clause-first
returns-clause-first c = closers_are_first

pub returns-clause-none : goal.returns-clause-none
returns-clause-none c = none_closes
