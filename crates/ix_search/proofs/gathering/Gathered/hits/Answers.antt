use Rattle.std.proofs.Common.{◌∙◌}
use Rattle.std.specs.FinMap.{get}
use Rattle.std.proofs.lemmas.Result.{IfOk-weaker}
use Rattle.ix_cursor.specs.Cursors.{remaining}
use Rattle.ix_search.specs.Gathering.{gathered_score}
use Rattle.ix_search.proofs.Giving.{scores_same}
use Rattle.ix_search.proofs.gathering.Gathered.hits.Goals as goal

pub returns : goal.returns
returns c =
    let g = c.args.self.now in
    IfOk-weaker c.into_hits.result _ _
    (λ hits same rows gives. same
    ∙ gives.scores c.in_ok-scores.scores (scores_same (get g.rows) (remaining c.in_ok-cursor.cursor) (gathered_score g) c.in_ok-scores.scores c.in_ok-cursor.ensures.scores (c.in_ok-scores.ensures gives.one)))
    c.into_hits.ensures
