use Rattle.db_looks.specs.laws.Composing.{over_still}
use Rattle.db_state.specs.States.{StandsForState}
use Rattle.db_console.proofs.LookLaws.{looks_found}
use Rattle.db_console.proofs.Responding.{responds_blank, responds_found, responds_unread}
use Rattle.db_console.proofs.responses.respond_to_text.Goals as goal

pub returns-in-Ok-Some-clause-responds : goal.returns-in-Ok-Some-clause-responds
returns-in-Ok-Some-clause-responds g c = responds_found _ _ _ _ _ _ c.in-Ok-Some.field-0-is c.in-Ok-Some.ensures.reads c.respond_to_statement.ensures.responds

pub returns-in-Ok-None-clause-responds : goal.returns-in-Ok-None-clause-responds
returns-in-Ok-None-clause-responds g c = responds_blank _ _ c.requires.ready (g.met.K.Keeper.settled c.args.keeper.now c.requires.ready) (rw c.in-Ok-None.field-0-is at c.in-Ok-None.ensures.reads)

pub returns-in-Err-clause-responds : goal.returns-in-Err-clause-responds
returns-in-Err-clause-responds g c = responds_unread _ _ c.in-Err.fault _ c.response_to_unread.ensures c.requires.ready (g.met.K.Keeper.settled c.args.keeper.now c.requires.ready) c.in-Err.ensures.reads

pub returns-in-Ok-Some-clause-looks : goal.returns-in-Ok-Some-clause-looks
returns-in-Ok-Some-clause-looks g c = looks_found _ _ _ _ _ _ c.in-Ok-Some.field-0-is c.in-Ok-Some.ensures.reads c.respond_to_statement.ensures.looks

pub returns-in-Ok-None-clause-looks : goal.returns-in-Ok-None-clause-looks
returns-in-Ok-None-clause-looks g c = over_still StandsForState _ _

pub returns-in-Err-clause-looks : goal.returns-in-Err-clause-looks
returns-in-Err-clause-looks g c = over_still StandsForState _ _
