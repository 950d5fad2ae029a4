use Rattle.std.proofs.Common.{◌≡◌, ◌++◌, drop, map}
use Rattle.std.specs.Prelude.{filter}
use Rattle.ix_context.specs.Indexes.{is_key_in}
use Rattle.ix_context.proofs.creating.keys_in_range.Given as goal

abbrev pub invariant-loop-row : goal.invariant-loop-row
invariant-loop-row l =
    map (λ r. r.0) l.kept.items ++ filter (is_key_in l.range) (map (λ r. r.0) (drop l.row-index l.rows)) ≡ filter (is_key_in l.range) (map (λ r. r.0) l.rows)
