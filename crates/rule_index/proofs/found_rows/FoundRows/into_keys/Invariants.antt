use Rattle.std.proofs.Common.{◌≡◌, ◌++◌, ℤ, map}
use Rattle.rule_index.proofs.found_rows.FoundRows.into_keys.Given as goal

abbrev pub invariant-loop-key : goal.invariant-loop-key
invariant-loop-key l = map {B = ℤ × Unit {0}} (λ r. (r.0, tt)) l.keys.items ++ l.key-iterator ≡ l.initial.key-iterator
