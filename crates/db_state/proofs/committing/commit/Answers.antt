use Rattle.std.proofs.Common.{ap, inr}
use Rattle.std.proofs.lemmas.Result.{err_from_is_err_and}
use Rattle.ct_keep.specs.Content.{after}
use Rattle.ct_keep.specs.laws.Changes.{well_weaker}
use Rattle.db_state.specs.Shapes.{IsStoreEntry}
use Rattle.db_state.proofs.Committed.{always_fits, gives_committed, gives_uncommitted}
use Rattle.db_state.specs.Plans.{line_for_all}
use Rattle.db_state.specs.laws.Returning.{returns_uncommitted, returns_committed}
use Rattle.ct_keep.specs.KeeperViews.{Counts}
use Rattle.db_state.proofs.committing.commit.Goals as goal

pub commit-requires-clause-well : goal.commit-requires-clause-well
commit-requires-clause-well g c =
    well_weaker IsStoreEntry (g.K.Keeper.view c.args.keeper.now).well c.requires.accepts.takes c.args.batch c.requires.entries

pub returns-in_err-commit-clause-gives : goal.returns-in_err-commit-clause-gives
returns-in_err-commit-clause-gives g c = λ m e k holds leads.
    let p = err_from_is_err_and c.from_residual.result c.from_residual.ensures.1 in
    rw (p.1, p.2) (gives_uncommitted m e c.args.reply.items k (after c.args.batch k) _ _ c.in_err-commit.field-0.0 leads (c.in_err-commit.ensures.goes k holds) (c.in_err-commit.ensures.answers k holds))

pub returns-clause-gives : goal.returns-clause-gives
returns-clause-gives g c = λ m e k holds leads.
    gives_committed m e c.args.reply k (after c.args.batch k) _ _ leads (c.in_ok-commit.ensures.goes k holds) (c.in_ok-commit.ensures.answers k holds)

-- ---- what it tells over any content

pub returns-in_err-commit-clause-tells : goal.returns-in_err-commit-clause-tells
returns-in_err-commit-clause-tells g c =
    returns_uncommitted (line_for_all c.args.reply.items) (g.K.Keeper.view c.args.keeper.now) (g.K.Keeper.view c.commit.new.self) (after c.args.batch) c.from_residual.result c.in_err-commit.field-0.0 c.in_err-commit.ensures.goes (err_from_is_err_and c.from_residual.result c.from_residual.ensures.1)

pub returns-clause-tells : goal.returns-clause-tells
returns-clause-tells g c =
    returns_committed (g.K.Keeper.view c.args.keeper.now) (g.K.Keeper.view c.commit.new.self) (after c.args.batch) c.args.reply c.in_ok-commit.ensures.goes

-- ---- how many commits it made

pub returns-in_err-commit-clause-once : goal.returns-in_err-commit-clause-once
returns-in_err-commit-clause-once g c = inr (ap (λ (n : Counts). n.commits) c.in_err-commit.ensures.counts, c.commit.ensures.syncs)

pub returns-clause-once : goal.returns-clause-once
returns-clause-once g c = inr (ap (λ (n : Counts). n.commits) c.in_ok-commit.ensures.counts, c.commit.ensures.syncs)

-- ---- how often one was refused

pub returns-in_err-commit-clause-fulls : goal.returns-in_err-commit-clause-fulls
returns-in_err-commit-clause-fulls g c = let p = err_from_is_err_and c.from_residual.result c.from_residual.ensures.1 in rw (p.1, p.2) (ap (λ (n : Counts). n.fulls) c.in_err-commit.ensures.counts)

pub returns-clause-fulls : goal.returns-clause-fulls
returns-clause-fulls g c = ap (λ (n : Counts). n.fulls) c.in_ok-commit.ensures.counts

-- ---- what makes nothing heavier

pub returns-in_err-commit-clause-light : goal.returns-in_err-commit-clause-light
returns-in_err-commit-clause-light g c = λ m holds light.
    always_fits (g.K.Keeper.view c.args.keeper.now).fixed.limit c.args.batch m c.from_residual.result c.in_err-commit.field-0.0 light (err_from_is_err_and c.from_residual.result c.from_residual.ensures.1) (c.in_err-commit.ensures.answers m holds)
