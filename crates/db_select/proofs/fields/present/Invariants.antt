use Rattle.std.proofs.Common.{◌≡◌, ◌++◌}
use Rattle.std.specs.List.{filter_map}
use Rattle.db_select.proofs.fields.present.Given as goal

abbrev pub invariant-loop-value : goal.invariant-loop-value
invariant-loop-value l = l.fields.items ++ filter_map (λ o. o) l.value-iterator.rest.items ≡ filter_map (λ o. o) l.fn.values.items
