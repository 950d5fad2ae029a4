use Rattle.std.proofs.Common.{◌≡◌, drop}
use Rattle.db_state.specs.Columns.{first_unknown}
use Rattle.db_select.specs.Predicates.{columns_among}
use Rattle.db_select.proofs.predicates.unknown_item.Given as goal

abbrev pub invariant-loop-item : goal.invariant-loop-item
invariant-loop-item l = first_unknown (columns_among (drop l.item-index l.items)) l.columns ≡ first_unknown (columns_among l.items) l.columns
