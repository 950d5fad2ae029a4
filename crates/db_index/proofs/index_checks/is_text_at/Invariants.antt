use Rattle.std.proofs.Common.{◌≡◌, drop}
use Rattle.ix_kinds.specs.Targets.{is_text_at}
use Rattle.db_index.proofs.index_checks.is_text_at.Given as goal

abbrev pub invariant-loop-column : goal.invariant-loop-column
invariant-loop-column l = is_text_at (drop l.column-index l.columns) l.before ≡ is_text_at l.columns l.place
