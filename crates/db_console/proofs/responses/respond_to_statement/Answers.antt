use Rattle.db_console.proofs.LookLaws.{looks_stop}
use Rattle.db_console.proofs.Responding.{responds_reply, responds_stop}
use Rattle.db_console.proofs.responses.respond_to_statement.Goals as goal

pub returns-in-Ok-clause-responds : goal.returns-in-Ok-clause-responds
returns-in-Ok-clause-responds g c = responds_reply c.args.statement.now _ _ c.in-Ok.reply _ c.response_to.ensures c.in-Ok.ensures.executes

pub returns-in-Err-clause-responds : goal.returns-in-Err-clause-responds
returns-in-Err-clause-responds g c = responds_stop c.args.statement.now _ _ c.in-Err.stop c.in-Err.ensures.executes

pub returns-in-Ok-clause-looks : goal.returns-in-Ok-clause-looks
returns-in-Ok-clause-looks g c = c.in-Ok.ensures.looks

pub returns-in-Err-clause-looks : goal.returns-in-Err-clause-looks
returns-in-Err-clause-looks g c = looks_stop c.args.statement.now _ _ c.in-Err.stop c.in-Err.ensures.looks
