use Rattle.std.proofs.Common.{ap, ◌∙◌}
use Rattle.ct_base.specs.laws.Options.{same_value}
use Rattle.ct_keep.specs.Counting.{count_under}
use Rattle.console_tests.proofs.histories.HistoryKeeperKeeper.count.Goals as goal

pub returns : goal.returns
returns c = λ m holds. c.count.ensures ∙ ap (count_under c.args.owner.now) (c.requires.ready.content ∙ same_value _ m holds)
