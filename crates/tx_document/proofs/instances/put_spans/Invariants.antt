use Rattle.std.proofs.Common.{◌≡◌, ◌++◌, take}
use Rattle.std.specs.Prelude.{flat_map}
use Rattle.tx_document.specs.Documents.{instance_of, reach_of, positions_in}
use Rattle.tx_document.proofs.instances.put_spans.Given as goal

abbrev pub invariant-loop-span : goal.invariant-loop-span
invariant-loop-span l = l.found.items ≡ l.fn.found.items ++ flat_map (λ s. instance_of l.section (reach_of (positions_in s 1 l.tokens))) (take l.span-index l.spans)
