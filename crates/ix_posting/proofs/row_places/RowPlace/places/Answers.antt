use Rattle.std.proofs.Common.{ℕ, List, ap, subst, ◌∙◌, Err}
use Rattle.std.proofs.Math.Logic.{∥∥₁_elim}
use Rattle.std.specs.Coded.{Coded-set, coded_list}
use Rattle.ix_posting.specs.RowPlaces.{AreFrom, places_of_first}
use Rattle.ix_posting.proofs.RowSteps.{no_next, places_from}
use Rattle.ix_posting.proofs.row_places.RowPlace.places.Goals as goal

pub unreachable-requires : goal.unreachable-requires
unreachable-requires g c =
    ∥∥₁_elim c.self.inside.from.1 (λ x y. absurd x)
    (λ from. no_next g.P.Place.form g.P.Place.lawful c.bytes_at-bytes.result.now c.self.inside.head c.self.inside.left c.self.inside.from.0
    (subst (λ (b : List ℕ). AreFrom g.P.Place.form b c.self.inside.head c.self.inside.left c.self.inside.from.0) c.bytes_at-bytes.ensures.spelt from)
    (c.in-Err-BadRow.ensures.bad (ap Err c.in-Err-BadRow.field-0-is)))

pub returns-in-Ok : goal.returns-in-Ok
returns-in-Ok g c =
    ap (λ v. v.items) c.in-Ok.places-is
    ∙ ∥∥₁_elim c.self.inside.from.1 (Coded-set (coded_list g.P.Place.lawful.code) _ _)
    (λ from. places_from g.P.Place.form g.P.Place.lawful c.bytes_at-bytes.result.now c.self.inside.head c.self.inside.left _ c.self.inside.from.0 _
    (subst (λ (b : List ℕ). AreFrom g.P.Place.form b c.self.inside.head c.self.inside.left c.self.inside.from.0) c.bytes_at-bytes.ensures.spelt from) c.in-Ok.ensures.ok)
    ∙ ap places_of_first c.self.view_is
