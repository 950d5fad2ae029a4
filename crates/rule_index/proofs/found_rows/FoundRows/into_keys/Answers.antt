use Rattle.std.proofs.Common.{◌≡◌, ◌++◌, ℤ, List, [], map, sym, ap, ◌∙◌}
use Rattle.std.proofs.lemmas.List.{append-nil}
use Rattle.std.specs.Ordering.{int_cmp}
use Rattle.std.specs.FinMap.{entries}
use Rattle.ct_base.specs.laws.SortedMaps.{entries-sorted}
use Rattle.rule_index.proofs.FoundSteps.{with_nothing, keys_of_found}
use Rattle.rule_index.proofs.found_rows.FoundRows.into_keys.Goals as goal

pub returns : goal.returns
returns c =
    let all = c.self.inside.rows.entries in
    let done : c.loop-key.key-iterator ≡ [] = c.in-None.ensures.steps.0 in
    sym (keys_of_found c.loop-key.keys.items)
    ∙ ap (λ (l : List (ℤ × Unit {0})). map (λ (e : ℤ × Unit {0}). e.0) l)
    (sym (append-nil (with_nothing c.loop-key.keys.items))
    ∙ ap (λ (l : List (ℤ × Unit {0})). with_nothing c.loop-key.keys.items ++ l) (sym done)
    ∙ c.loop-key.invariant ∙ c.into_iter-key-iterator.ensures.into_iter_gives.0
    ∙ sym (entries-sorted int_cmp all c.self.invariant) ∙ ap entries c.self.view_is)
