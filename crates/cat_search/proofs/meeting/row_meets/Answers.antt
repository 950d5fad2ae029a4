use Rattle.std.proofs.Common.{◌<◌, rules, sym, ap, subst, ◌∙◌}
use Rattle.ct_entry.specs.Keys.{IsRow}
use Rattle.q_tree.specs.ReducedQueries.{reduced_of}
use Rattle.ix_context.specs.Postings.{IsShortOrNone}
use Rattle.ix_context.specs.laws.Reading.{target_read}
use Rattle.ix_context.specs.laws.Texts.{target_has_short}
use Rattle.cat_search.specs.Meeting.{some_meets}
use Rattle.cat_search.proofs.meeting.row_meets.Goals as goal

pub returns-clause-met : goal.returns-clause-met
returns-clause-met g c = λ m ts holds told.
    let few : c.args.catalogue.now.target.column < 256 = search rules in
    let row : IsRow c.args.row.0 = search rules in
    let target = c.args.catalogue.now.target in
    let read = target_read m ts told target c.args.row.0 few row c.in_ok-text.text (c.in_ok-text.ensures.value m holds) in
    c.in_ok-some_meets.ensures (subst IsShortOrNone (sym read) (target_has_short ts told.rules target c.args.row.0))
    ∙ ap (some_meets c.args.catalogue.now.prefs (reduced_of c.args.flat.now)) read
