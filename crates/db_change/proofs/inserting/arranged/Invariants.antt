use Rattle.std.proofs.Common.{◌≡◌, take}
use Rattle.std.specs.List.{filter_map}
use Rattle.tb_table.specs.declared.columns.Column.{Column}
use Rattle.db_change.specs.Inserting.{value_under}
use Rattle.db_change.proofs.inserting.arranged.Given as goal

abbrev pub invariant-loop-column : goal.invariant-loop-column
invariant-loop-column l = l.arranged.items ≡ filter_map (λ (c : Column). value_under c.name l.names l.values) (take l.column-index l.columns)
