use Rattle.std.proofs.Common.{ap, ◌∙◌, arith}
use Rattle.ct_entry.specs.Maps.{Rows}
use Rattle.rule_index.proofs.FoundSteps.{is_left, put_end, put_next}
use Rattle.rule_index.proofs.found_rows.FoundRows.put_all.Goals as goal

pub each-preserved : goal.each-preserved
each-preserved c = λ r.
    ap (λ (rows : Rows (Unit {0})). is_left rows c.in-Some.later.now r) c.in_ok-put.ensures
    ∙ put_next c.each.self c.in-Some.row.now c.each.rest.now c.in-Some.later.now r _ c.in-Some.ensures.cases.0 (c.each.invariant r)

pub returns : goal.returns
returns c = λ r. put_end c.each.self c.each.rest.now r _ (omega (arith, c.in_default.ensures.cases)) (c.each.invariant r)
