use Rattle.std.proofs.Common.{true, sym, subst}
use Rattle.std.specs.Prelude.{IfOk}
use Rattle.ix_indexes.specs.declared.noting.RowEvent.{RowEvent}
use Rattle.ix_indexes.specs.Noting.{AreNotes, catalogue_by, changes_in_catalogue}
use Rattle.ix_indexes.proofs.NoteSteps.{comes_filed, is_filed_anew, goes_filed}
use Rattle.ix_indexes.proofs.noting.catalogue_notes.Goals as goal

pub returns-in-Comes-clause-changes : goal.returns-in-Comes-clause-changes
returns-in-Comes-clause-changes c =
    subst (λ (e : RowEvent). IfOk c.filed_notes.result (AreNotes e true c.args.row.0 (changes_in_catalogue c.args.index.now (catalogue_by c.args.catalogue.now c.args.places.now)))) (sym c.in-Comes.is)
    (comes_filed c.args.index.now (catalogue_by c.args.catalogue.now c.args.places.now) c.args.row.0 c.in-Comes.new c.filed_notes.result c.filed_notes.ensures.changes)

pub returns-in-Changes-clause-changes : goal.returns-in-Changes-clause-changes
returns-in-Changes-clause-changes c =
    subst (λ (e : RowEvent). IfOk c.set_notes.result (AreNotes e true c.args.row.0 (changes_in_catalogue c.args.index.now (catalogue_by c.args.catalogue.now c.args.places.now)))) (sym c.in-Changes.is)
    (is_filed_anew c.args.index.now (catalogue_by c.args.catalogue.now c.args.places.now) c.args.row.0 c.in-Changes.old c.in-Changes.new c.set_notes.result c.set_notes.ensures.changes)

pub returns-in-Goes-clause-changes : goal.returns-in-Goes-clause-changes
returns-in-Goes-clause-changes c =
    subst (λ (e : RowEvent). IfOk c.filed_notes-in-Goes.result (AreNotes e true c.args.row.0 (changes_in_catalogue c.args.index.now (catalogue_by c.args.catalogue.now c.args.places.now)))) (sym c.in-Goes.is)
    (goes_filed c.args.index.now (catalogue_by c.args.catalogue.now c.args.places.now) c.args.row.0 c.in-Goes.old c.filed_notes-in-Goes.result c.filed_notes-in-Goes.ensures.changes)
