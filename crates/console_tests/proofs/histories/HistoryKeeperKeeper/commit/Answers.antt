use Rattle.console_tests.proofs.HistoryLaws.{kept_made, goes_made}
use Rattle.console_tests.proofs.histories.HistoryKeeperKeeper.commit.Goals as goal

pub returns-clause-kept : goal.returns-clause-kept
returns-clause-kept c = rw (c.push_reserved.ensures.items, c.copy_for.ensures.log, c.in_ok-changes.ensures.copy, c.said-by_then.ensures)
    (kept_made _ _ _ c.in_ok-commit.ensures.state _ c.args.batch c.in_ok-commit.ensures.content c.requires.ready _ _)

pub returns-clause-goes : goal.returns-clause-goes
returns-clause-goes c = λ m holds. rw (c.push_reserved.ensures.items, c.copy_for.ensures.log, c.in_ok-changes.ensures.copy, c.said-by_then.ensures)
    (goes_made _ _ _ c.in_ok-commit.ensures.state _ c.args.batch c.in_ok-commit.ensures.content c.requires.ready _ _ m holds)
