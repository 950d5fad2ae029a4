use Rattle.ix_optimize.specs.declared.levels.Progress.TheVariants.{Done, More}
use Rattle.ix_optimize.specs.Optimising.{term_at}
use Rattle.ix_optimize.specs.laws.Places.{term_at_is}
use Rattle.ix_optimize.specs.laws.Shapes.{puts_shaped}
use Rattle.ix_optimize.proofs.OptimizeSteps.{limited, not_more, more_behind, from_place}
use Rattle.ix_optimize.proofs.optimizing.optimize_some.Goals as goal

pub returns-then-not-done-clause-optimised : goal.returns-then-not-done-clause-optimised
returns-then-not-done-clause-optimised g c = λ m holds only rows has.
    let e = c.args.entry.now in
    let i = c.args.index.now in
    let done = c.in_ok-done.done in
    let are = from_place m i rows c.in_ok-from.from (term_at e.place) c.from.result c.args.most c.args.batch.now c.repack_terms.new.batch done c.in_ok-from.ensures c.from.ensures (term_at_is e.place c.requires.place)
    (λ is. c.in_ok-done.ensures.changes m holds only is rows has) in
    limited m i rows e c.args.most c.args.batch.now c.repack_terms.new.batch c.put_tidied.new.batch done Done are (not_more done.more _ c.if-not-done.true) c.in_ok-put_tidied.ensures.adds

pub returns-then-not-done-clause-shaped : goal.returns-then-not-done-clause-shaped
returns-then-not-done-clause-shaped g c = λ are. c.in_ok-put_tidied.ensures.shaped (puts_shaped c.args.index.now c.as_str-named.ensures.name c.args.batch.now c.repack_terms.new.batch c.in_ok-done.ensures.puts are)

pub returns-clause-optimised : goal.returns-clause-optimised
returns-clause-optimised g c = λ m holds only rows has.
    let e = c.args.entry.now in
    let i = c.args.index.now in
    let done = c.in_ok-done.done in
    let are = from_place m i rows c.in_ok-from.from (term_at e.place) c.from.result c.args.most c.args.batch.now c.repack_terms.new.batch done c.in_ok-from.ensures c.from.ensures (term_at_is e.place c.requires.place)
    (λ is. c.in_ok-done.ensures.changes m holds only is rows has) in
    limited m i rows e c.args.most c.args.batch.now c.repack_terms.new.batch c.put_tidied-2.new.batch done (More c.in_ok-place.place) are (more_behind done.more c.in_ok-place.place done.last c.if-not-done.false c.in_ok-place.ensures) c.in_ok-put_tidied-2.ensures.adds

pub returns-clause-shaped : goal.returns-clause-shaped
returns-clause-shaped g c = λ are. c.in_ok-put_tidied-2.ensures.shaped (puts_shaped c.args.index.now c.as_str-named.ensures.name c.args.batch.now c.repack_terms.new.batch c.in_ok-done.ensures.puts are)
