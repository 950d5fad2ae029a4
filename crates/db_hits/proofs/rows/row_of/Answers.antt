use Rattle.std.proofs.Common.{List, Option, ap}
use Rattle.ct_base.specs.declared.lists.Value.{Value}
use Rattle.rs_result.specs.Comparing.{Ranked}
use Rattle.db_hits.proofs.rows.row_of.Goals as goal

pub returns-clause-row : goal.returns-clause-row
returns-clause-row g c = λ m k holds stands.
    let with_values : List (Option Value) → Ranked = λ vs. record { key = c.args.hit.key.0; score = c.args.hit.score; values = vs } in
    ap with_values (c.in_ok-values.ensures.values m k holds stands)

pub returns-in_err-values-clause-within : goal.returns-in_err-values-clause-within
returns-in_err-values-clause-within g c = c.in_err-values.ensures.within

pub returns-clause-within : goal.returns-clause-within
returns-clause-within g c = c.in_ok-values.ensures.within
