use Rattle.std.proofs.Common.{List, map, sym, ap, subst, ◌∙◌}
use Rattle.rs_result.specs.declared.rows.OrderBy.{OrderBy}
use Rattle.rs_result.specs.Orders.{cut}
use Rattle.db_hits.specs.Rows.{OrderAlike, key_by}
use Rattle.db_hits.proofs.PrintLaws.{cut_printed}
use Rattle.db_hits.proofs.listing.push_cut.Goals as goal

pub returns-clause-lines : goal.returns-clause-lines
returns-clause-lines c =
    let alike = subst (λ (ks : List OrderBy). OrderAlike ks (map (key_by c.args.names.now) c.args.keys.now)) (sym c.deref.ensures.value) c.in_ok-by.ensures in
    cut_printed c.args.names.now c.args.keys.now c.args.first c.args.last c.deref.result.now c.args.rows.now.items c.put_in_order.new.rows.items c.between.result.now c.push_hits.result
    c.args.lines.now.items c.push_hits.new.lines.items alike c.put_in_order.ensures.moved c.put_in_order.ensures.order (c.between.ensures ∙ ap (cut c.args.first c.args.last) c.deref-2.ensures.value) c.push_hits.ensures
