use Rattle.std.proofs.Common.{◌≡◌, ◌++◌, take}
use Rattle.std.specs.Prelude.{flat_map}
use Rattle.tx_document.specs.Documents.{zone_instances}
use Rattle.tx_document.proofs.instances.put_zones.Given as goal

abbrev pub invariant-loop-extent : goal.invariant-loop-extent
invariant-loop-extent l = l.found.items ≡ l.fn.found.items ++ flat_map (zone_instances l.tokens) (take l.extent-index l.extents)
