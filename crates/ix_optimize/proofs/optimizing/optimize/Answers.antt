use Rattle.std.proofs.Common.{ap}
use Rattle.ct_keep.specs.laws.Composing.{reads_hold}
use Rattle.ix_context.specs.Levels.{Fast, Full, FullUpTo}
use Rattle.ix_optimize.specs.Optimising.{level_of}
use Rattle.ix_optimize.proofs.OptimizeSteps.{index_told, entry_there, not_there}
use Rattle.ix_optimize.proofs.optimizing.optimize.Goals as goal

pub returns-in_default-clause-optimised : goal.returns-in_default-clause-optimised
returns-in_default-clause-optimised g c = λ m ts x holds told. absurd (entry_there m ts c.args.index.now x told c.in_ok-entry.field-0 (c.in_ok-entry.ensures.value m holds) c.in_default.is)

pub returns-in-Fast-clause-optimised : goal.returns-in-Fast-clause-optimised
returns-in-Fast-clause-optimised g c = λ m ts x holds told.
    index_told m ts c.args.index.now x told (level_of c.args.level) Fast c.in_ok-entry.field-0 c.in-Some.entry c.args.batch.now c.optimize_fast.new.batch c.optimize_fast.result (c.in_ok-entry.ensures.value m holds) c.in-Some.is
    (ap level_of c.in-Fast.is) (c.optimize_fast.ensures.optimised m (reads_hold _ _ m c.in_ok-entry.ensures.reads holds))

pub returns-in-Fast-clause-no_entry : goal.returns-in-Fast-clause-no_entry
returns-in-Fast-clause-no_entry g c = λ m holds none. absurd (not_there m c.args.index.now c.in_ok-entry.field-0 c.in-Some.entry none (c.in_ok-entry.ensures.value m holds) c.in-Some.is)

pub returns-in-Full-clause-optimised : goal.returns-in-Full-clause-optimised
returns-in-Full-clause-optimised g c = λ m ts x holds told.
    index_told m ts c.args.index.now x told (level_of c.args.level) Full c.in_ok-entry.field-0 c.in-Some.entry c.args.batch.now c.optimize_full.new.batch c.optimize_full.result (c.in_ok-entry.ensures.value m holds) c.in-Some.is
    (ap level_of c.in-Full.is) (c.optimize_full.ensures.optimised m (reads_hold _ _ m c.in_ok-entry.ensures.reads holds))

pub returns-in-Full-clause-no_entry : goal.returns-in-Full-clause-no_entry
returns-in-Full-clause-no_entry g c = λ m holds none. absurd (not_there m c.args.index.now c.in_ok-entry.field-0 c.in-Some.entry none (c.in_ok-entry.ensures.value m holds) c.in-Some.is)

pub returns-clause-optimised : goal.returns-clause-optimised
returns-clause-optimised g c = λ m ts x holds told.
    index_told m ts c.args.index.now x told (level_of c.args.level) (FullUpTo c.in-FullUpTo.most) c.in_ok-entry.field-0 c.in-Some.entry c.args.batch.now c.optimize_some.new.batch c.optimize_some.result (c.in_ok-entry.ensures.value m holds) c.in-Some.is
    (ap level_of c.in-FullUpTo.is) (c.optimize_some.ensures.optimised m (reads_hold _ _ m c.in_ok-entry.ensures.reads holds))
