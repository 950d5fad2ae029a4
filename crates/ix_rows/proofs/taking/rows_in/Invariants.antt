use Rattle.std.proofs.Common.{map}
use Rattle.ix_rows.proofs.TakeSteps.{SoFar}
use Rattle.ix_rows.proofs.taking.rows_in.Given as goal

abbrev pub invariant-loop-value : goal.invariant-loop-value
invariant-loop-value g l = SoFar g.P.Place.form (map (λ e. (e.0.items, e.1.items)) l.fn.entries.items) (map (λ e. (e.0.items, e.1.items)) l.value-iterator.rest.items) l.rows.items l.last
