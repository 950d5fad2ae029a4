use Rattle.std.proofs.Common.{◌≡◌}
use Rattle.cat_where.specs.Machine.{start}
use Rattle.cat_where.specs.Verdicts.{verdict_from}
use Rattle.cat_where.proofs.reading.read_lexemes.Given as goal

abbrev pub invariant-loop-placed : goal.invariant-loop-placed
invariant-loop-placed l = verdict_from l.end l.broken l.state l.placed-iterator.rest.items ≡ verdict_from l.end l.broken start l.fn.lexemes.items
