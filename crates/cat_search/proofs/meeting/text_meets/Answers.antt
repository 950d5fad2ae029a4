use Rattle.std.proofs.Common.{ap, ◌∙◌}
use Rattle.tx_document.specs.Entries.{entries}
use Rattle.q_tree.specs.ReducedQueries.{reduced_of}
use Rattle.cat_search.proofs.TextSteps.{can_be_scored, score_tells}
use Rattle.cat_search.proofs.meeting.text_meets.Goals as goal

pub score_alone-requires-clause-entries : goal.score_alone-requires-clause-entries
score_alone-requires-clause-entries c =
    can_be_scored c.args.prefs.now c.args.text.now c.keep_rules.ensures c.requires.short c.deref.result.now (c.deref.ensures.value ∙ c.in_ok-entries.ensures ∙ ap entries c.in_ok-document.ensures)

pub returns : goal.returns
returns c =
    score_tells c.args.prefs.now c.args.text.now c.keep_rules.ensures c.requires.short c.deref.result.now (c.deref.ensures.value ∙ c.in_ok-entries.ensures ∙ ap entries c.in_ok-document.ensures)
    (reduced_of c.args.flat.now) c.requires.query.boolean c.requires.query.sound c.in_ok-score.score c.in_ok-score.ensures
