use Rattle.std.proofs.Common.{◌∙◌}
use Rattle.ct_keep.specs.laws.Composing.{reads_hold}
use Rattle.q_tree.specs.ReducedQueries.{reduced_of}
use Rattle.ix_cursor.specs.Cursors.{remaining}
use Rattle.ix_search.proofs.Found.{fed_by_content, one_to_one, finds}
use Rattle.ix_search.proofs.searching.search.Goals as goal

pub returns-clause-found : goal.returns-clause-found
returns-clause-found g c = λ m t x holds only stand fit prefs.
    let i = c.args.index.now in
    let q = reduced_of c.args.flat.now in
    let sound = c.requires.sound in
    let feeds = fed_by_content m t x i only stand fit prefs q sound c.in_ok-feeds.feeds (c.in_ok-feeds.ensures.rows m holds) in
    let are = c.in_ok-scores.ensures.scores m (reads_hold _ _ m c.in_ok-feeds.ensures.reads holds) (one_to_one m t x i only stand fit prefs q sound) in
    c.in_ok-into_hits.ensures
    ∙ finds m t x i only stand fit prefs q sound c.in_ok-feeds.ensures.named c.in_ok-feeds.feeds feeds (remaining c.in_ok-cursor.cursor) c.in_ok-scores.scores c.in_ok-cursor.ensures.scores are
