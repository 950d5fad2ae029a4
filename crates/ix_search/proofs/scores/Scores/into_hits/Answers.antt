use Rattle.std.proofs.Common.{◌≡◌, ◌++◌, ℤ, ℕ, List, [], map, sym, ap, ◌∙◌}
use Rattle.std.proofs.lemmas.List.{append-nil}
use Rattle.std.specs.Ordering.{int_cmp}
use Rattle.std.specs.FinMap.{entries}
use Rattle.ix_search.specs.declared.hits.Hit.{Hit}
use Rattle.ct_base.specs.laws.SortedMaps.{entries-sorted}
use Rattle.ix_search.proofs.scores.Scores.into_hits.Goals as goal

pub returns : goal.returns
returns c =
    let scored : List Hit → List (ℤ × ℕ) = λ hs. map (λ h. (h.key.0, h.score)) hs in
    let all = c.self.inside.scores.entries in
    let done : c.loop-key.key-iterator ≡ [] = c.in-None.ensures.steps.0 in
    sym (append-nil (scored c.loop-key.hits.items))
    ∙ ap (λ (l : List (ℤ × ℕ)). scored c.loop-key.hits.items ++ l) (sym done)
    ∙ c.loop-key.invariant ∙ c.into_iter-key-iterator.ensures.into_iter_gives.0
    ∙ sym (entries-sorted int_cmp all c.self.invariant) ∙ ap entries c.self.view_is
