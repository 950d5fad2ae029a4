use Rattle.std.proofs.Common.{◌+◌, ◌^◌, length, ◌∙◌, arith}
use Rattle.pg_change.specs.BatchCommits.{commit_pages}
use Rattle.pg_change.specs.laws.BatchCommits.{between_wider}
use Rattle.pg_change.proofs.BatchEnds.{batch_numbers}
use Rattle.pg_change.proofs.batch_commits.BatchPagesChangedPages.numbers.Goals as goal

pub returns-clause-numbers : goal.returns-clause-numbers
returns-clause-numbers c = let s = c.args.self.now in c.all.ensures ∙ batch_numbers s.draft.now.now s.images.now s.numbers.now s.top

pub returns-clause-between : goal.returns-clause-between
returns-clause-between c =
    let s = c.args.self.now in
    between_wider 2 (3 + length s.draft.now.now) (2 ^ 32) (commit_pages s.draft.now.now s.images.now s.numbers.now s.top) (omega (arith, s.count)) s.between
