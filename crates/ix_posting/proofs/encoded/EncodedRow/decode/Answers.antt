use Rattle.std.proofs.Common.{◌∙◌, sym, ap, Err}
use Rattle.std.proofs.Math.Logic.{∥∥₁_elim}
use Rattle.ix_posting.specs.Encoded.{same_row}
use Rattle.ix_posting.proofs.encoded.EncodedRow.decode.Goals as goal

pub unreachable-requires : goal.unreachable-requires
unreachable-requires g c = ∥∥₁_elim c.self.inside.row.1 (λ x y. absurd x) (λ h. c.decode.ensures.bad (c.in-Err-BadRow.is ∙ ap Err c.in-Err-BadRow.field-0-is) c.self.inside.row.0 h.0 (h.1 ∙ sym c.as_slice.ensures.value))

pub returns-in-Ok : goal.returns-in-Ok
returns-in-Ok g c = ∥∥₁_elim c.self.inside.row.1 (same_row g.P.Place.form g.P.Place.lawful c.in-Ok.row c.args.self.now) (λ h. c.in-Ok.ensures.read_back c.self.inside.row.0 h.0 (h.1 ∙ sym c.as_slice.ensures.value) ∙ c.self.view_is)
