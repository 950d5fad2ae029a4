use Rattle.std.proofs.Common.{ℕ, List, [], ◌∷◌, ap, subst, ◌∙◌}
use Rattle.std.specs.FinMap.{entries}
use Rattle.ct_keep.specs.Tail.{tail}
use Rattle.db_names.specs.Parts.{Listed, PairOf}
use Rattle.db_names.proofs.ListSteps.{of_found, seen}
use Rattle.db_names.proofs.listings.indexes_of.Goals as goal

pub returns-clause-value : goal.returns-clause-value
returns-clause-value g c = λ m holds.
    of_found m c.args.table.now c.in_ok-pairs.pairs.items
    (subst (λ (es : List (List ℕ × List ℕ)). Listed (PairOf c.args.table.now) es c.in_ok-pairs.pairs.items)
    (ap seen c.deref.ensures.value ∙ c.in_ok-found.ensures.entries m holds ∙ ap (λ (n : ℕ). entries (tail (n ∷ []) m)) c.code.ensures)
    c.in_ok-pairs.ensures)
