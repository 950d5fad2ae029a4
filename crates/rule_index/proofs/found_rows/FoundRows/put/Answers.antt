use Rattle.std.proofs.Common.{ℤ, FitsSigned, w64, rules, ap, ◌∙◌}
use Rattle.std.specs.BTreeMap.{insert_entry}
use Rattle.std.specs.Ordering.{int_cmp}
use Rattle.std.specs.FinMap.{FinMap, insert}
use Rattle.std.proofs.lemmas.Cmp.{int_cmp_total}
use Rattle.std.proofs.lemmas.Int.{to_z-of_z}
use Rattle.ct_base.specs.laws.SortedMaps.{sorted-insert}
use Rattle.rule_index.proofs.found_rows.FoundRows.put.Goals as goal

pub returns : goal.returns
returns c =
    let fits : FitsSigned w64 c.args.row.0 = search rules in
    let old = c.self.inside.rows.entries in
    sorted-insert int_cmp int_cmp_total old c.insert.new.self.entries c.args.row.0 tt c.self.invariant c.in_ok-insert.ensures.ordered
    (c.in_ok-insert.ensures.entries ∙ ap (λ (r : ℤ). insert_entry int_cmp old r tt) (to_z-of_z w64 c.args.row.0 fits))
    ∙ ap (λ (m : FinMap int_cmp (Unit {0})). insert m c.args.row.0 tt) c.self.view_is
