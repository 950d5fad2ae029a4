use Rattle.std.proofs.Common.{rules}
use Rattle.std.specs.Option.{option_map}
use Rattle.ct_entry.specs.Keys.{IsRow}
use Rattle.q_tree.specs.ReducedQueries.{reduced_of}
use Rattle.rule_index.specs.Matching.{postings_of_all}
use Rattle.rule_index.proofs.MatchSteps.{held_read}
use Rattle.rule_index.proofs.matching.holds.Goals as goal

pub returns-clause-holds : goal.returns-clause-holds
returns-clause-holds g c = λ m ts x holds told.
    let row : IsRow c.args.row.0 = search rules in
    held_read m ts c.args.index.now x c.args.row.0 (postings_of_all c.args.entries.now) (option_map reduced_of c.in_ok-query.query) c.in_ok-holds.holds told row (c.in_ok-query.ensures.query m holds) c.in_ok-holds.ensures
