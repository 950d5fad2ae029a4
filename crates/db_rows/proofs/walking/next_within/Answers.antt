use Rattle.std.proofs.Common.{◌≡◌, ◌≤ℤ◌, ◌<ℤ◌, rules, sym, ap, ◌∙◌}
use Rattle.ct_entry.specs.Listings.{number_of, first_of, rows_above}
use Rattle.tb_table.specs.Tables.{row_keys}
use Rattle.db_rows.proofs.Walks.{none_after}
use Rattle.db_rows.proofs.NextSteps.{next_of, none_next, far_next}
use Rattle.db_rows.proofs.walking.next_within.Goals as goal

pub returns-then-is_past_greatest-clause-next : goal.returns-then-is_past_greatest-clause-next
returns-then-is_past_greatest-clause-next g c = λ m k holds stands place.
    none_after (number_of c.args.after) c.args.bounds.greatest.0 (row_keys m.tables c.args.table.now) (sym c.is_past_greatest.ensures ∙ c.if-is_past_greatest.true)

pub returns-in_default-clause-next : goal.returns-in_default-clause-next
returns-in_default-clause-next g c = λ m k holds stands place.
    let t = c.args.table.now in
    let next : number_of c.in_ok-row.field-0 ≡ first_of (rows_above (number_of c.args.after) (row_keys m.tables t)) = next_of m k stands t (number_of c.args.after) place (number_of c.in_ok-row.field-0) (c.in_ok-row.ensures.row k holds) in
    none_next (row_keys m.tables t) (number_of c.args.after) c.args.bounds.greatest.0 (sym (ap number_of c.in_default.is) ∙ next)

pub returns-then-row-bounds-clause-next : goal.returns-then-row-bounds-clause-next
returns-then-row-bounds-clause-next g c = λ m k holds stands place.
    let t = c.args.table.now in
    let high : c.args.bounds.greatest.0 <ℤ c.in-Some.row.0 = search rules in
    let next : number_of c.in_ok-row.field-0 ≡ first_of (rows_above (number_of c.args.after) (row_keys m.tables t)) = next_of m k stands t (number_of c.args.after) place (number_of c.in_ok-row.field-0) (c.in_ok-row.ensures.row k holds) in
    far_next m.tables t (number_of c.args.after) c.args.bounds.greatest.0 c.in-Some.row.0 (sym (ap number_of c.in-Some.is) ∙ next) high

pub returns-clause-next : goal.returns-clause-next
returns-clause-next g c = λ m k holds stands place.
    let t = c.args.table.now in
    let low : c.in-Some.row.0 ≤ℤ c.args.bounds.greatest.0 = search rules in
    let next : number_of c.in_ok-row.field-0 ≡ first_of (rows_above (number_of c.args.after) (row_keys m.tables t)) = next_of m k stands t (number_of c.args.after) place (number_of c.in_ok-row.field-0) (c.in_ok-row.ensures.row k holds) in
    (sym next ∙ ap number_of c.in-Some.is, low)
