use Rattle.ix_optimize.proofs.OptimizeSteps.{all_repacked}
use Rattle.ix_optimize.proofs.optimizing.repack_all.Goals as goal

pub returns-clause-changes : goal.returns-clause-changes
returns-clause-changes g c = λ m holds only rows has.
    all_repacked m c.args.index.now c.args.mapped rows _ c.args.batch.now c.repack_terms.new.batch c.in_ok-done.done (c.in_ok-done.ensures.changes m holds only tt rows has) c.if-done.false
