use Rattle.std.proofs.Common.{ℕ, List, drop, ap, subst, ◌∙◌}
use Rattle.std.proofs.lemmas.List.{drop_min}
use Rattle.pg_change.specs.Resting.{IsResting}
use Rattle.pg_heap.proofs.directing.sheets_with.Goals as goal

pub returns : goal.returns
returns c =
    let left = c.without_first.ensures ∙ ap (λ (n : ℕ). drop n c.args.free.now) c.min-taken.ensures ∙ drop_min c.pages_taken.result c.args.free.now ∙ ap (λ (n : ℕ). drop n c.args.free.now) c.pages_taken.ensures in
    subst (λ (f : List ℕ). IsResting c.in_ok-sheets.sheets.items c.args.homes f) left c.in_ok-sheets.ensures
