use Rattle.db_find.proofs.MatchSteps.{gives_rules}
use Rattle.db_find.proofs.matching.found_rules.Goals as goal

pub returns-clause-found : goal.returns-clause-found
returns-clause-found g c = λ m k x holds stands there same.
    gives_rules m.tables x c.args.document.now c.in_ok-rows.rows c.in_ok-hits.hits _ (c.in_ok-rows.ensures.rows m k x holds stands there same) c.in_ok-hits.ensures c.nothing_asked.ensures

pub returns-in_err-rows-clause-rules : goal.returns-in_err-rows-clause-rules
returns-in_err-rows-clause-rules g c = c.rules_held.ensures.rules

pub returns-in_err-hits-clause-rules : goal.returns-in_err-hits-clause-rules
returns-in_err-hits-clause-rules g c = c.in_ok-rows.ensures.rules

pub returns-clause-rules : goal.returns-clause-rules
returns-clause-rules g c = c.in_ok-rows.ensures.rules
