use Rattle.std.proofs.Common.{arith, sym, ◌∙◌}
use Rattle.db_range.proofs.Steps.{column_last, column_more, no_more, none_begun}
use Rattle.db_range.proofs.ranges.along_columns.Goals as goal

pub each-init : goal.each-init
each-init c = none_begun c.args.columns.now c.args.conds.now c.args.names.now c.new-low.result.items c.new-high.result.items c.new-low.ensures.items c.new-high.ensures.items

pub each-preserved : goal.each-preserved
each-preserved c =
    column_more c.args.columns.now c.args.conds.now c.args.names.now c.each.rest.now c.in-Some.name.now c.in-Some.later.now c.each.low.items c.each.high.items c.in_ok-first.first
    c.in-Some.ensures.cases.0 c.each.invariant c.in_ok-first.ensures _ _ c.in_ok-known.ensures.low c.in_ok-known.ensures.high (sym c.in_ok-known.ensures.known ∙ c.if-not-known.false)

pub returns-then-not-known : goal.returns-then-not-known
returns-then-not-known c =
    column_last c.args.columns.now c.args.conds.now c.args.names.now c.each.rest.now c.in-Some.name.now c.in-Some.later.now c.each.low.items c.each.high.items c.in_ok-first.first
    c.in-Some.ensures.cases.0 c.each.invariant c.in_ok-first.ensures c.range_between.result
    (c.range_between.ensures.low ∙ c.in_ok-known.ensures.low) (c.range_between.ensures.high ∙ c.in_ok-known.ensures.high) (sym c.in_ok-known.ensures.known ∙ c.if-not-known.true)

pub returns : goal.returns
returns c =
    no_more c.args.columns.now c.args.conds.now c.args.names.now c.each.rest.now c.each.low.items c.each.high.items c.range_between-2.result
    (omega (arith, c.in_default.ensures.cases)) c.each.invariant c.range_between-2.ensures.low c.range_between-2.ensures.high
