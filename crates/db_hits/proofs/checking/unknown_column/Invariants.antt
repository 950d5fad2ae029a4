use Rattle.std.proofs.Common.{◌≡◌, drop}
use Rattle.std.specs.List.{flat_map}
use Rattle.db_state.specs.Columns.{first_unknown}
use Rattle.db_hits.specs.Descriptors.{part_columns}
use Rattle.db_hits.proofs.checking.unknown_column.Given as goal

abbrev pub invariant-loop-part : goal.invariant-loop-part
invariant-loop-part l = first_unknown (flat_map part_columns (drop l.part-index l.parts)) l.columns ≡ first_unknown (flat_map part_columns l.parts) l.columns
