use Rattle.std.proofs.Common.{ap}
use Rattle.ct_keep.specs.laws.Composing.{reads_hold}
use Rattle.q_tree.specs.declared.flats.Flat.{Flat}
use Rattle.q_tree.specs.ReducedQueries.{reduced_of}
use Rattle.ix_cursor.specs.Candidates.{ahead}
use Rattle.ix_search.proofs.Found.{fed_by_content}
use Rattle.ix_search.proofs.Giving.{gives_found}
use Rattle.ix_search.proofs.searching.gather.Goals as goal

pub returns-clause-gathered : goal.returns-clause-gathered
returns-clause-gathered g c = λ m t x holds only stand fit prefs.
    let i = c.args.index.now in
    let q = reduced_of c.args.flat.now in
    let sound = c.requires.sound in
    let feeds = fed_by_content m t x i only stand fit prefs q sound c.in_ok-feeds.feeds (c.in_ok-feeds.ensures.rows m holds) in
    gives_found m t x i only stand fit prefs q sound c.in_ok-feeds.ensures.named (ahead c.in_ok-candidates.candidates) c.in_ok-feeds.feeds c.in_ok-rows.rows c.of.result
    feeds c.in_ok-candidates.ensures (c.in_ok-rows.ensures.rows m (reads_hold _ _ m c.in_ok-feeds.ensures.reads holds))
    (ap (λ (f : Flat). reduced_of f) c.of.ensures.flat) c.of.ensures.feeds c.of.ensures.rows
