use Rattle.std.proofs.Common.{◌≡◌, ◌++◌}
use Rattle.ct_entry.specs.Changes.{spell}
use Rattle.ct_entry.specs.Each.{each}
use Rattle.ix_rows.specs.Growing.{grown_rows}
use Rattle.ix_rows.specs.RowMaps.{row_changes, seen_terms}
use Rattle.ix_rows.proofs.row_maps.TermRows.into_changes.Given as goal

abbrev pub invariant-loop-term : goal.invariant-loop-term
invariant-loop-term l =
    l.batch ++ spell (each (λ e. row_changes l.fn.kind l.fn.index e.0 (grown_rows e.1)) (seen_terms l.term-iterator))
    ≡ l.fn.batch ++ spell (each (λ e. row_changes l.fn.kind l.fn.index e.0 (grown_rows e.1)) (seen_terms l.initial.term-iterator))
