use Rattle.std.proofs.Common.{ℤ, FitsSigned, w64, rules, ap, ◌∙◌}
use Rattle.std.specs.BTreeMap.{insert_entry}
use Rattle.std.specs.Ordering.{nat_cmp}
use Rattle.std.specs.Cmp.{nat_cmp_total}
use Rattle.std.specs.FinMap.{FinMap, insert}
use Rattle.std.proofs.lemmas.Int.{to_z-of_z}
use Rattle.ct_base.specs.laws.SortedMaps.{sorted-insert}
use Rattle.ix_search.proofs.document_rows.DocumentRows.put.Goals as goal

pub returns : goal.returns
returns c =
    let fits : FitsSigned w64 c.args.row.0 = search rules in
    let old = c.self.inside.rows.entries in
    sorted-insert nat_cmp nat_cmp_total old c.insert.new.self.entries c.args.document.0 c.args.row.0 c.self.invariant c.in_ok-insert.ensures.ordered
    (c.in_ok-insert.ensures.entries ∙ ap (λ (r : ℤ). insert_entry nat_cmp old c.args.document.0 r) (to_z-of_z w64 c.args.row.0 fits))
    ∙ ap (λ (m : FinMap nat_cmp ℤ). insert m c.args.document.0 c.args.row.0) c.self.view_is
