use Rattle.std.proofs.Common.{ℤ, ℕ, FitsSigned, w64, rules, ap, ◌∙◌}
use Rattle.std.specs.BTreeMap.{insert_entry}
use Rattle.std.specs.Ordering.{int_cmp}
use Rattle.std.specs.FinMap.{FinMap, insert}
use Rattle.std.proofs.lemmas.Cmp.{int_cmp_total}
use Rattle.std.proofs.lemmas.Int.{to_z-of_z}
use Rattle.ct_base.specs.laws.SortedMaps.{sorted-insert}
use Rattle.ix_search.proofs.scores.Scores.put.Goals as goal

pub returns : goal.returns
returns c =
    let fits : FitsSigned w64 c.args.row.0 = search rules in
    let old = c.self.inside.scores.entries in
    sorted-insert int_cmp int_cmp_total old c.insert.new.self.entries c.args.row.0 c.args.score c.self.invariant c.in_ok-insert.ensures.ordered
    (c.in_ok-insert.ensures.entries ∙ ap (λ (r : ℤ). insert_entry int_cmp old r c.args.score) (to_z-of_z w64 c.args.row.0 fits))
    ∙ ap (λ (m : FinMap int_cmp ℕ). insert m c.args.row.0 c.args.score) c.self.view_is
