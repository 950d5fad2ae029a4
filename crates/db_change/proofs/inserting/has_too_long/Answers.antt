use Rattle.std.proofs.Common.{◌+◌, Bool, drop, refl, sym, ap, ◌∙◌}
use Rattle.std.specs.Prelude.{◌||◌}
use Rattle.db_change.specs.Inserting.{has_too_long}
use Rattle.db_change.proofs.NewValues.{long_at}
use Rattle.db_change.proofs.ShapeSteps.{short_more, short_all}
use Rattle.db_change.proofs.inserting.has_too_long.Goals as goal

pub loop-place-preserved : goal.loop-place-preserved
loop-place-preserved c =
    let cs = c.args.columns.now in
    let vs = c.args.values.now in
    let place = c.loop-place.place in
    let less = c.loop-place-test.true in
    let within = c.in-Some.ensures.lookup.3.0 in
    let value = c.in-Some.ensures.lookup.1 in
    let column = c.index-columns-place.is in
    record {
      long =
          sym (long_at cs vs place c.index-columns-place.result c.in-Some.value.now less within column value ∙ ap (λ (b : Bool). b || has_too_long (drop (place + 1) cs) (drop (place + 1) vs)) (sym c.if-is_too_long.ensures.long))
          ∙ c.loop-place.invariant.long;
      short = short_more cs vs place c.index-columns-place.result c.in-Some.value.now less within column value c.loop-place.invariant.short (λ sort. c.if-is_too_long.ensures.short sort refl);
    }

pub returns-clause-short : goal.returns-clause-short
returns-clause-short c = λ sorts _. short_all c.args.columns.now c.args.values.now c.loop-place.place c.loop-place-test.false c.loop-place.invariant.short sorts
