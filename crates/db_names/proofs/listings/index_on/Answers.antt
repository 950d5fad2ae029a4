use Rattle.std.proofs.Common.{ℕ, List, [], ◌∷◌, ap, subst, ◌∙◌}
use Rattle.std.specs.FinMap.{entries}
use Rattle.ct_keep.specs.Tail.{tail}
use Rattle.db_names.specs.Parts.{FirstOn}
use Rattle.db_names.proofs.ListSteps.{on_found, seen}
use Rattle.db_names.proofs.listings.index_on.Goals as goal

pub returns-clause-value : goal.returns-clause-value
returns-clause-value g c = λ m holds.
    on_found m c.args.target.now c.args.kind c.in_ok-first.first
    (subst (λ (es : List (List ℕ × List ℕ)). FirstOn (record { kind = c.args.kind; target = c.args.target.now }) es c.in_ok-first.first)
    (ap seen c.deref.ensures.value ∙ c.in_ok-found.ensures.entries m holds ∙ ap (λ (n : ℕ). entries (tail (n ∷ []) m)) c.code.ensures)
    c.in_ok-first.ensures)
