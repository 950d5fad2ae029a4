use Rattle.std.proofs.Common.{sym, ◌∙◌}
use Rattle.q_tree.specs.ReducedQueries.{reduced_of}
use Rattle.cat_search.specs.Contents.{is_met_row}
use Rattle.cat_search.proofs.WalkSteps.{not_taken, tried, untried}
use Rattle.cat_search.proofs.gathering.try_place.Goals as goal

pub returns-then-not-taken-clause-rows : goal.returns-then-not-taken-clause-rows
returns-then-not-taken-clause-rows g c = λ m ts told holds.
    not_taken (is_met_row c.args.exact c.args.catalogue.now (reduced_of c.args.flat.now) ts) c.args.place.now c.args.rows.now.items (g.R.PlaceRange.takes c.args.range.now c.args.place.now)
    (sym c.in_ok-taken.ensures ∙ c.if-not-taken.true)

pub returns-in_default-clause-rows : goal.returns-in_default-clause-rows
returns-in_default-clause-rows g c = λ m ts told holds.
    untried (is_met_row c.args.exact c.args.catalogue.now (reduced_of c.args.flat.now) ts) c.args.place.now c.args.rows.now.items (g.R.PlaceRange.takes c.args.range.now c.args.place.now) c.row_at.result c.row_at.ensures c.in_default.is
    (sym c.in_ok-taken.ensures ∙ c.if-not-taken.false)

pub returns-clause-rows : goal.returns-clause-rows
returns-clause-rows g c = λ m ts told holds.
    tried (is_met_row c.args.exact c.args.catalogue.now (reduced_of c.args.flat.now) ts) c.args.place.now c.args.rows.now.items (g.R.PlaceRange.takes c.args.range.now c.args.place.now) c.row_at.result c.in-Some.row
    c.in_ok-met.met c.put_if.new.rows.items c.row_at.ensures c.in-Some.is (c.in_ok-met.ensures.met m ts told holds) c.in_ok-put_if.ensures (sym c.in_ok-taken.ensures ∙ c.if-not-taken.false)
