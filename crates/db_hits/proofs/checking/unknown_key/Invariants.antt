use Rattle.std.proofs.Common.{◌≡◌, drop}
use Rattle.std.specs.List.{flat_map}
use Rattle.db_state.specs.Columns.{first_unknown}
use Rattle.db_hits.specs.Descriptors.{key_column}
use Rattle.db_hits.proofs.checking.unknown_key.Given as goal

abbrev pub invariant-loop-key : goal.invariant-loop-key
invariant-loop-key l = first_unknown (flat_map key_column (drop l.key-index l.keys)) l.columns ≡ first_unknown (flat_map key_column l.keys) l.columns
