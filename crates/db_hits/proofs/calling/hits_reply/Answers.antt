use Rattle.std.proofs.Common.{ap, sym, ◌∙◌}
use Rattle.db_find.specs.laws.Looking.{rises_still}
use Rattle.db_hits.specs.Descriptors.{named_texts}
use Rattle.db_hits.specs.Parts.{text_or_none}
use Rattle.db_hits.specs.Rows.{sources_of}
use Rattle.db_hits.proofs.CallSteps.{lines_are, texts_read}
use Rattle.db_hits.proofs.calling.hits_reply.Goals as goal

pub returns-clause-reply : goal.returns-clause-reply
returns-clause-reply g c = λ m k x holds stands there same rise.
    c.in_ok-or_none.ensures
    ∙ ap text_or_none
    (lines_are m.tables c.args.table.now x c.args.columns.now c.args.parts.now c.deref-3.result.now c.deref-2.result.now c.args.hits.now c.in_ok-rows.rows.items c.in_ok-lines.lines.items
    stands.state.tables there same (c.deref-3.ensures.value ∙ c.in_ok-names.ensures)
    (c.deref-2.ensures.value ∙ c.in_ok-sources.ensures ∙ ap (sources_of c.args.columns.now) (c.deref.ensures.value ∙ sym c.deref-3.ensures.value))
    (c.in_ok-rows.ensures.rows m k holds stands) rise c.in_ok-lines.ensures)

-- ---- each text once

pub returns-in_err-names-clause-at_most : goal.returns-in_err-names-clause-at_most
returns-in_err-names-clause-at_most g c = rises_still _ _

pub returns-in_err-sources-clause-at_most : goal.returns-in_err-sources-clause-at_most
returns-in_err-sources-clause-at_most g c = rises_still _ _

pub returns-in_err-rows-clause-at_most : goal.returns-in_err-rows-clause-at_most
returns-in_err-rows-clause-at_most g c = c.in_err-rows.ensures.within (named_texts c.args.parts.now c.args.columns.now) (texts_read c.args.parts.now c.args.columns.now _ _ _ _ c.in_ok-names.ensures c.deref.ensures.value c.in_ok-sources.ensures c.deref-2.ensures.value)

pub returns-in_err-lines-clause-at_most : goal.returns-in_err-lines-clause-at_most
returns-in_err-lines-clause-at_most g c = c.in_ok-rows.ensures.within (named_texts c.args.parts.now c.args.columns.now) (texts_read c.args.parts.now c.args.columns.now _ _ _ _ c.in_ok-names.ensures c.deref.ensures.value c.in_ok-sources.ensures c.deref-2.ensures.value)

pub returns-in_err-or_none-clause-at_most : goal.returns-in_err-or_none-clause-at_most
returns-in_err-or_none-clause-at_most g c = c.in_ok-rows.ensures.within (named_texts c.args.parts.now c.args.columns.now) (texts_read c.args.parts.now c.args.columns.now _ _ _ _ c.in_ok-names.ensures c.deref.ensures.value c.in_ok-sources.ensures c.deref-2.ensures.value)

pub returns-clause-at_most : goal.returns-clause-at_most
returns-clause-at_most g c = c.in_ok-rows.ensures.within (named_texts c.args.parts.now c.args.columns.now) (texts_read c.args.parts.now c.args.columns.now _ _ _ _ c.in_ok-names.ensures c.deref.ensures.value c.in_ok-sources.ensures c.deref-2.ensures.value)
