use Rattle.std.proofs.Common.{refl}
use Rattle.ix_context.specs.Levels.{Full}
use Rattle.ix_optimize.specs.Optimising.{rows_renewed}
use Rattle.ix_optimize.specs.laws.Shapes.{puts_shaped}
use Rattle.ix_optimize.proofs.OptimizeSteps.{entry_behind}
use Rattle.ix_optimize.proofs.optimizing.optimize_full.Goals as goal

pub returns-clause-optimised : goal.returns-clause-optimised
returns-clause-optimised g c = λ m holds only rows has. record {
  changes =
      entry_behind c.args.batch.now c.repack_all.new.batch c.put_tidied.new.batch (rows_renewed m c.args.index.now Full c.args.entry.now.place rows) _ _ (c.in_ok-repack_all.ensures.changes m holds only rows has)
      c.in_ok-put_tidied.ensures.adds refl;
  told = refl;
}

pub returns-clause-shaped : goal.returns-clause-shaped
returns-clause-shaped g c = λ are. c.in_ok-put_tidied.ensures.shaped (puts_shaped c.args.index.now c.as_str-named.ensures.name c.args.batch.now c.repack_all.new.batch c.in_ok-repack_all.ensures.puts are)
