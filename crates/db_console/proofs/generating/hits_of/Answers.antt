use Rattle.std.proofs.lemmas.Result.{IfOk-weaker}
use Rattle.db_console.proofs.Hits.{counted_hits}
use Rattle.db_console.proofs.generating.hits_of.Goals as goal

pub returns : goal.returns
returns g c =
    IfOk-weaker c.hits_in.result _ _
    (λ hits counts. counted_hits c.args.script.items c.said.result.now _ _ c.serve-status.result hits c.in_ok-keeper.keeper c.serve-status.new.keeper c.in_ok-keeper.ensures c.serve-status.ensures.table c.if-status-ne0.false c.said.ensures counts)
    c.hits_in.ensures
