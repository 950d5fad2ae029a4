use Rattle.db_looks.specs.laws.Composing.{over_still}
use Rattle.db_state.specs.States.{StandsForState}
use Rattle.db_console.proofs.Responding.{replied_past, no_text_given, looks_given, replied_given, halted_given}
use Rattle.db_console.proofs.responses.respond.Goals as goal

pub returns-in_default-clause-replied : goal.returns-in_default-clause-replied
returns-in_default-clause-replied g c = λ limit ended shown was w.
    replied_past limit ended was _ w c.requires.ready (g.met.K.Keeper.settled c.args.keeper.now c.requires.ready) (rw c.in_default.is at shown)

pub returns-in_default-text_of-clause-replied : goal.returns-in_default-text_of-clause-replied
returns-in_default-text_of-clause-replied g c =
    no_text_given c.args.text c.in-Some.bytes c.in-Some.is _ c.requires.ready (g.met.K.Keeper.settled c.args.keeper.now c.requires.ready) (rw c.in_default-text_of.is at c.text_of.ensures)

pub returns-clause-replied : goal.returns-clause-replied
returns-clause-replied g c = replied_given c.args.text c.in-Some.bytes c.in-Some.is c.in-Some-text_of.text.now c.in-Some-text_of.ensures _ _ c.respond_to_text.result c.respond_to_text.ensures.responds

pub returns-clause-halted : goal.returns-clause-halted
returns-clause-halted g c = halted_given c.args.text c.in-Some.bytes c.in-Some.is c.in-Some-text_of.text.now c.in-Some-text_of.ensures _ _ c.respond_to_text.result c.respond_to_text.ensures.responds

pub returns-in_default-clause-looks : goal.returns-in_default-clause-looks
returns-in_default-clause-looks g c = λ limit ended shown. over_still StandsForState _ _

pub returns-in_default-text_of-clause-looks : goal.returns-in_default-text_of-clause-looks
returns-in_default-text_of-clause-looks g c = λ limit ended shown. over_still StandsForState _ _

pub returns-clause-looks : goal.returns-clause-looks
returns-clause-looks g c = looks_given c.args.text c.in-Some.bytes c.in-Some.is c.in-Some-text_of.text.now c.in-Some-text_of.ensures _ _ _ c.respond_to_text.ensures.looks
