use Rattle.console_tests.proofs.HistoryLaws.{says_history}
use Rattle.console_tests.proofs.histories.HistoryKeeperKeeper.say.Goals as goal

pub returns-clause-says : goal.returns-clause-says
returns-clause-says c = says_history c.say.result c.args.bytes.now _ _ _ _ c.say.ensures.all c.say.ensures.ok c.say.ensures.err
