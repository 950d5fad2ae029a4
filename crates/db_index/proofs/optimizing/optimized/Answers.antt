use Rattle.std.proofs.Common.{Option, refl, sym, subst}
use Rattle.ct_keep.specs.Content.{after}
use Rattle.ix_indexes.specs.Indexes.{Index}
use Rattle.db_state.specs.Entries.{IsOptimisedIn}
use Rattle.db_state.specs.laws.Contexts.{holds_index}
use Rattle.ix_optimize.specs.Optimising.{level_of, resumed}
use Rattle.ix_optimize.specs.laws.Optimised.{rows_stand}
use Rattle.ix_optimize.specs.laws.Parts.{rows_of}
use Rattle.db_index.proofs.OptimizeSteps.{optimised_content, optimised_whole}
use Rattle.db_index.proofs.PlanShapes.{of_contexts}
use Rattle.db_index.proofs.SyncSteps.{context_of}
use Rattle.db_index.proofs.optimizing.optimized.Goals as goal

pub returns-clause-changes : goal.returns-clause-changes
returns-clause-changes g c = λ m k x holds stands there of.
    let i = c.args.index.now in
    let y = context_of m i x there of in
    let told = holds_index k m stands i y.0 y.2 in (
      refl,
      optimised_content k m (level_of c.args.level) i y.0 stands y.2 told _ c.new-batch.result c.optimize.new.batch c.new-batch.ensures c.in_ok-_progress.ensures.shaped
          (c.in_ok-_progress.ensures.optimised k m.tables y.0 holds told (rows_of told.stands) (rows_stand k i _ _ _ told.stands stands.only)),
      subst (λ (o : Option Index). IsOptimisedIn m (level_of c.args.level) i o k (after c.optimize.new.batch k)) (sym y.2)
          (λ it rows has. optimised_whole k i (level_of c.args.level) (resumed it.entry.resumes) rows y.0 _ c.new-batch.result c.optimize.new.batch c.new-batch.ensures (c.in_ok-_progress.ensures.optimised k m.tables y.0 holds it rows has)),
    )

pub returns-clause-entries : goal.returns-clause-entries
returns-clause-entries g c = of_contexts c.new-batch.result c.optimize.new.batch c.new-batch.ensures c.in_ok-_progress.ensures.shaped
