use Rattle.ct_keep.specs.laws.Composing.{same_lender}
use Rattle.std.proofs.Common.{sym, ◌∙◌}
use Rattle.db_console.proofs.StoreLaws.{served_over, same_name}
use Rattle.db_console.proofs.running.serve_heap.Goals as goal

pub returns-clause-table : goal.returns-clause-table
returns-clause-table g c =
    let t = c.serve-status.ensures.table in
    let o = rw (c.over-keeper.ensures.heap, c.over-keeper.ensures.limit, c.over-keeper.ensures.counts, c.over-keeper.ensures.site) at t.2 in
    let lent = same_name _ _ (same_lender t.2.fixed) in
    let ended = c.site-1.given.1 (sym (c.finish-site.ensures.lender ∙ lent ∙ c.over-keeper.ensures.lender)) ∙ c.finish-site.ensures.site in
    (t.0, t.1, rw ended (served_over _ _ _ _ _ _ _ _ _ _ c.serve-status.new.keeper.counts t.0 o))
