use Rattle.std.proofs.Common.{List, subst}
use Rattle.ct_keep.specs.laws.Composing.{reads_hold, reads_on}
use Rattle.tb_table.specs.declared.columns.Column.{Column}
use Rattle.db_state.specs.laws.Serving.{serves_err, serves_then, plan_then}
use Rattle.db_index.specs.Asking.{AsksForIndex, requests_in}
use Rattle.db_index.proofs.indexing.create_index.Goals as goal

pub returns-in-Err : goal.returns-in-Err
returns-in-Err g c = serves_err _ _ _ _ _ c.in-Err.ensures.reads

pub returns-in-Err-read_asked : goal.returns-in-Err-read_asked
returns-in-Err-read_asked g c = serves_then _ _ _ _ _ _ c.in-Ok.ensures.reads (serves_err _ _ _ _ _ c.in-Err-read_asked.ensures.reads)

pub returns-in-Ok-index_plan : goal.returns-in-Ok-index_plan
returns-in-Ok-index_plan g c =
    let first = c.in-Ok.ensures.reads in
    let reads = reads_on _ _ _ _ first c.in-Ok-read_asked.ensures.reads in
    let all = reads_on _ _ _ _ reads c.in-Ok-index_plan.ensures.reads in
    let columns = c.in-Ok.ensures.columns in
    let asked = c.in-Ok-read_asked.ensures.asked in
    let made = c.in-Ok-index_plan.ensures.plan in
    serves_then _ _ _ _ _ _ all
    (c.carry_out.ensures.done _ (plan_then _ _ _ _ _ all (record {
      made = λ m k holds stands. made m k (reads_hold _ _ k reads holds) stands c.args.parameters.now (columns m k holds stands)
          (subst (λ (cs : List Column). AsksForIndex m.preferences cs (requests_in c.args.kind c.args.parameters.now) c.in-Ok-read_asked.asked) c.columns_or_none.ensures (asked m k (reads_hold _ _ k first holds) stands));
    })))

pub returns : goal.returns
returns g c =
    serves_then _ _ _ _ _ _ (reads_on _ _ _ _ c.in-Ok.ensures.reads c.in-Ok-read_asked.ensures.reads) (serves_err _ _ _ _ _ c.in-Err-index_plan.ensures.reads)
