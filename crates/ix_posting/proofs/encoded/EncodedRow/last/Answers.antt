use Rattle.std.proofs.Common.{ap, sym, subst, ◌∙◌}
use Rattle.std.proofs.Math.Logic.{∥∥₁_elim}
use Rattle.ix_posting.specs.Rows.{DocumentsRise}
use Rattle.ix_posting.specs.Passed.{last_number, NoneBehind}
use Rattle.ix_posting.proofs.RowSteps.{none_behind, one_none_behind}
use Rattle.ix_posting.proofs.encoded.EncodedRow.last.Goals as goal

pub returns-clause-value : goal.returns-clause-value
returns-clause-value g c = c.self.invariant ∙ ap (last_number 0) c.self.view_is

pub returns-clause-each : goal.returns-clause-each
returns-clause-each g c =
    ∥∥₁_elim c.self.inside.row.1 (one_none_behind _ _)
    (λ h. subst (λ n. NoneBehind n c.args.self.now) (sym (c.self.invariant ∙ ap (last_number 0) c.self.view_is)) (none_behind g.P.Place.form 0 c.args.self.now (subst (λ ds. DocumentsRise g.P.Place.form 0 ds) c.self.view_is h.0.rise)))
