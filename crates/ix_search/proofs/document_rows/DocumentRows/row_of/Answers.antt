use Rattle.std.proofs.Common.{ℤ, FitsSigned, w64, rules, Some, ap, ◌∙◌}
use Rattle.std.specs.Ordering.{nat_cmp}
use Rattle.std.specs.FinMap.{FinMap, get}
use Rattle.std.proofs.lemmas.Int.{to_z-of_z}
use Rattle.ix_search.proofs.MapSteps.{get_by_lookup}
use Rattle.ix_search.proofs.document_rows.DocumentRows.row_of.Goals as goal

pub returns-in-Some : goal.returns-in-Some
returns-in-Some c =
    let d = c.args.document.0 in
    let fits : FitsSigned w64 c.in-Some.key.now = search rules in
    ap (λ (r : ℤ). Some r) (to_z-of_z w64 c.in-Some.key.now fits) ∙ c.in-Some.ensures.value
    ∙ get_by_lookup d c.self.inside.rows.entries c.self.invariant ∙ ap (λ (m : FinMap nat_cmp ℤ). get m d) c.self.view_is

pub returns-in-None : goal.returns-in-None
returns-in-None c =
    let d = c.args.document.0 in
    c.in-None.ensures.value ∙ get_by_lookup d c.self.inside.rows.entries c.self.invariant ∙ ap (λ (m : FinMap nat_cmp ℤ). get m d) c.self.view_is
