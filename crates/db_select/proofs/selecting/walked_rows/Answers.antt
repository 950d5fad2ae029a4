use Rattle.std.proofs.lemmas.Result.{IfOk-weaker}
use Rattle.ct_keep.specs.laws.Composing.{reads_hold}
use Rattle.db_select.proofs.AskedLaws.{walked_are}
use Rattle.db_select.proofs.selecting.walked_rows.Goals as goal

pub returns-clause-rows : goal.returns-clause-rows
returns-clause-rows g c = λ m k x holds stands there same.
    IfOk-weaker c.put_in_order.result _ _
    (λ rows ordered.
    walked_are m c.args.table.now x c.args.conds.now c.args.order.now c.in_ok-rows.rows.items rows.items (c.in_ok-rows.ensures.hits m k x holds stands there same)
    (c.in_ok-rows.ensures.own m k holds stands) ordered)
    (c.put_in_order.ensures.rows m k x (reads_hold _ _ k c.in_ok-rows.ensures.reads holds) stands there same)

pub returns-clause-own : goal.returns-clause-own
returns-clause-own g c = λ m k holds stands.
    IfOk-weaker c.put_in_order.result _ _ (λ rows own. own (c.in_ok-rows.ensures.own m k holds stands))
    (c.put_in_order.ensures.own m k (reads_hold _ _ k c.in_ok-rows.ensures.reads holds) stands)
