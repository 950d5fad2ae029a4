use Rattle.std.proofs.Common.{sym, subst, ◌∙◌}
use Rattle.ix_indexes.specs.Noting.{HasShortTexts}
use Rattle.db_change.proofs.NoteSteps.{row_short}
use Rattle.db_change.proofs.noting.values_needed.Goals as goal

pub returns-clause-values : goal.returns-clause-values
returns-clause-values g c = λ m k x holds stands here columns matter vs row.
    let read = c.in_ok-values.ensures.values k m.tables holds stands.only stands.tables stands.state.tables x vs here columns row in
    c.short_or_none-2.ensures.same (subst HasShortTexts (sym read) (row_short m.tables c.args.table.now x c.args.row.0 vs stands.state.tables here row)) ∙ read
