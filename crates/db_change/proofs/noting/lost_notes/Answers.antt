use Rattle.std.proofs.Common.{[], length, sym, ◌∙◌}
use Rattle.std.proofs.lemmas.Bool.{eqb-false, eqb-true}
use Rattle.ix_indexes.specs.Noting.{noted_indexes}
use Rattle.db_change.proofs.NoteSteps.{holds_indexes, lost_none, lost_some, none_light, none_shaped, notes_shaped}
use Rattle.db_change.proofs.noting.lost_notes.Goals as goal

pub returns-then-is_empty-clause-changes : goal.returns-then-is_empty-clause-changes
returns-then-is_empty-clause-changes g c = λ m k holds stands of.
    lost_none k m (noted_indexes c.args.indexes.now) c.args.rows.now c.new.result (eqb-true (length c.args.rows.now) 0 (sym c.is_empty.ensures ∙ c.if-is_empty.true)) c.new.ensures

pub returns-then-is_empty-clause-light : goal.returns-then-is_empty-clause-light
returns-then-is_empty-clause-light g c = λ k holds. none_light k c.new.result c.new.ensures

pub returns-then-is_empty-clause-shaped : goal.returns-then-is_empty-clause-shaped
returns-then-is_empty-clause-shaped g c = none_shaped c.new.result c.new.ensures

pub returns-clause-changes : goal.returns-clause-changes
returns-clause-changes g c = λ m k holds stands of.
    lost_some k m (noted_indexes c.args.indexes.now) c.args.rows.now c.in_ok-notes.notes (eqb-false (length c.args.rows.now) 0 (sym c.is_empty.ensures ∙ c.if-is_empty.false))
    (c.in_ok-notes.ensures.changes k holds m.tables m.indexes (holds_indexes k m [] stands) of)

pub returns-clause-shaped : goal.returns-clause-shaped
returns-clause-shaped g c = notes_shaped c.in_ok-notes.notes c.in_ok-notes.ensures.shaped
