use Rattle.std.proofs.Common.{[], get_or, List, ap, ◌∙◌}
use Rattle.ix_posting.specs.Rows.{posting_bytes_of}
use Rattle.ix_posting.specs.declared.rows.RowDocument.{RowDocument}
use Rattle.ix_posting.proofs.RowSteps.{alone_kept}
use Rattle.ix_posting.proofs.row_places.RowPlace.share.Goals as goal

pub returns : goal.returns
returns g c =
    alone_kept g.P.Place.form g.P.Place.lawful _ _ (ap (λ (rs : List (List (RowDocument g.row.P.Denot))). posting_bytes_of g.P.Place.form (get_or rs c.self.inside.index [])) c.in_ok-share.ensures) c.self.inside.head c.self.inside.left
    c.result-3-1.given.0 c.self.inside.from
    ∙ c.self.view_is
