use Rattle.std.proofs.Common.{◌≡◌, map, take}
use Rattle.db_select.specs.Sources.{field_source}
use Rattle.db_select.proofs.sources.sources_of.Given as goal

abbrev pub invariant-loop-item : goal.invariant-loop-item
invariant-loop-item l = l.sources.items ≡ map (field_source l.columns) (take l.item-index l.items)
