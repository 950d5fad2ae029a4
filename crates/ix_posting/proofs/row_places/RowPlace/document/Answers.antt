use Rattle.std.proofs.Common.{sym, ap, ◌∙◌}
use Rattle.std.proofs.Math.Logic.{∥∥₁_elim}
use Rattle.std.specs.Coded.{Coded-set, coded_option, coded_ℕ}
use Rattle.ix_posting.specs.RowPlaces.{first_number}
use Rattle.ix_posting.proofs.RowSteps.{from_number}
use Rattle.ix_posting.proofs.row_places.RowPlace.document.Goals as goal

pub returns : goal.returns
returns g c =
    sym (∥∥₁_elim c.self.inside.from.1 (Coded-set (coded_option coded_ℕ) _ _) (λ from. from_number g.P.Place.form g.P.Place.lawful _ c.self.inside.head c.self.inside.left c.self.inside.from.0 from))
    ∙ ap first_number c.self.view_is
