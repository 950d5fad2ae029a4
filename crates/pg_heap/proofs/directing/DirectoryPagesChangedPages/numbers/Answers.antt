use Rattle.std.proofs.Common.{◌∙◌}
use Rattle.pg_heap.proofs.DirectCommits.{numbers_there}
use Rattle.pg_heap.proofs.directing.DirectoryPagesChangedPages.numbers.Goals as goal

pub returns-clause-numbers : goal.returns-clause-numbers
returns-clause-numbers c = c.args.self.now.are ∙ numbers_there c.args.self.now.homes c.args.self.now.made.now
