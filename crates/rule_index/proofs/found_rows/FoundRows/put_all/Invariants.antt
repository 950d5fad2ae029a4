use Rattle.std.proofs.Common.{ℤ, ◌≡◌, length}
use Rattle.rule_index.proofs.FoundSteps.{is_left}
use Rattle.rule_index.proofs.found_rows.FoundRows.put_all.Given as goal

abbrev pub invariant-each : goal.invariant-each
invariant-each l = (r : ℤ) → is_left l.self l.rest r ≡ is_left l.fn.self l.rows r

abbrev pub decreases-each : goal.decreases-each
decreases-each l = length l.rest
