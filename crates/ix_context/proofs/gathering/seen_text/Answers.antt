use Rattle.std.proofs.Common.{◌<◌, ap, ◌∙◌, rules}
use Rattle.ct_entry.specs.Keys.{IsRow}
use Rattle.ix_context.specs.Postings.{if_short}
use Rattle.ix_context.specs.Indexes.{target_text}
use Rattle.ix_context.specs.laws.Reading.{target_read}
use Rattle.ix_context.specs.laws.Texts.{target_has_short, short_kept}
use Rattle.ix_context.proofs.gathering.seen_text.Goals as goal

pub returns-clause-text : goal.returns-clause-text
returns-clause-text g c = λ m ts holds told.
    let few : c.args.target.now.column < 256 = search rules in
    let row : IsRow c.args.row.0 = search rules in
    let read = target_read m ts told c.args.target.now c.args.row.0 few row c.in_ok-text.text (c.in_ok-text.ensures.value m holds) in
    c.if_short.ensures ∙ ap if_short read ∙ short_kept (target_text ts c.args.target.now c.args.row.0) (target_has_short ts told.rules c.args.target.now c.args.row.0)
