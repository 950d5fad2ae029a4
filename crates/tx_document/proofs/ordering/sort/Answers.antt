use Rattle.std.proofs.Common.{rules, is_lt}
use Rattle.std.proofs.lemmas.List.MinMax.{ranks_by}
use Rattle.std.proofs.lemmas.List.Sorted.{answers_always}
use Rattle.tx_document.specs.Documents.{section_cmp}
use Rattle.tx_document.specs.laws.Instances.{section_cmp_total}
use Rattle.tx_document.proofs.ordering.sort.Goals as goal

pub returns-clause-sorted : goal.returns-clause-sorted
returns-clause-sorted c =
    c.in_ok-sort_by.ensures.sorted (λ x y. is_lt (section_cmp x y)) (ranks_by section_cmp_total (λ x. x)) (answers_always _ _ _ (λ f a r f' h. search rules))
