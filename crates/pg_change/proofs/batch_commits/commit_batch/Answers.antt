use Rattle.std.proofs.Common.{◌∙◌, arith}
use Rattle.pg_change.proofs.BatchEnds.{batch_between, may_commit, batch_leaves, batch_holds, batch_within, homes_now}
use Rattle.pg_change.proofs.batch_commits.commit_batch.Goals as goal

pub invariant_of-pages-clause-between : goal.invariant_of-pages-clause-between
invariant_of-pages-clause-between g c = batch_between c.args.draft.now c.args.images.now c.args.numbers.now c.args.journal.now c.args.top c.requires.end c.keep_shape.ensures.grown

pub commit-requires-clause-may : goal.commit-requires-clause-may
commit-requires-clause-may g c =
    may_commit c.args.draft.now c.args.images.now c.args.numbers.now c.args.journal.now c.args.top c.requires.end c.keep_shape.ensures.grown (omega (arith, c.ranges.top))

pub returns-in_default-clause-moments : goal.returns-in_default-clause-moments
returns-in_default-clause-moments g c = λ top0 pages held.
    batch_leaves c.args.draft.now c.args.images.now c.args.numbers.now c.args.journal.now c.args.top c.requires.end c.keep_shape.ensures.grown
    (g.D.Disk.disk c.args.disk.now) top0 pages held (g.D.Disk.disk c.commit.new.disk) c.commit.ensures.moments

pub returns-clause-moments : goal.returns-clause-moments
returns-clause-moments g c = λ top0 pages held.
    batch_leaves c.args.draft.now c.args.images.now c.args.numbers.now c.args.journal.now c.args.top c.requires.end c.keep_shape.ensures.grown
    (g.D.Disk.disk c.args.disk.now) top0 pages held (g.D.Disk.disk c.commit.new.disk) c.commit.ensures.moments

pub returns-clause-holds : goal.returns-clause-holds
returns-clause-holds g c = λ top0 pages held.
    batch_holds c.args.draft.now c.args.images.now c.args.numbers.now c.args.journal.now c.args.top c.requires.end c.keep_shape.ensures.grown
    (g.D.Disk.disk c.args.disk.now) top0 pages held (g.D.Disk.disk c.commit.new.disk) c.commit.new.journal
    (c.in-Ok.ensures.homes ∙ homes_now c.args.draft.now c.args.images.now c.args.numbers.now c.args.journal.now c.args.top c.requires.end c.keep_shape.ensures.grown)
    c.in-Ok.ensures.stands

pub returns-clause-homes : goal.returns-clause-homes
returns-clause-homes g c = c.in-Ok.ensures.homes ∙ homes_now c.args.draft.now c.args.images.now c.args.numbers.now c.args.journal.now c.args.top c.requires.end c.keep_shape.ensures.grown

pub returns-in_default-clause-length : goal.returns-in_default-clause-length
returns-in_default-clause-length g c =
    batch_within c.args.draft.now c.args.images.now c.args.numbers.now c.args.journal.now c.args.top c.requires.end c.keep_shape.ensures.grown
    (g.D.Disk.disk c.args.disk.now) (g.D.Disk.disk c.commit.new.disk) c.commit.ensures.length

pub returns-clause-length : goal.returns-clause-length
returns-clause-length g c =
    batch_within c.args.draft.now c.args.images.now c.args.numbers.now c.args.journal.now c.args.top c.requires.end c.keep_shape.ensures.grown
    (g.D.Disk.disk c.args.disk.now) (g.D.Disk.disk c.commit.new.disk) c.commit.ensures.length
