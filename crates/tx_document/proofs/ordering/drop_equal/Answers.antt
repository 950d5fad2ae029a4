use Rattle.std.proofs.Common.{rules}
use Rattle.std.proofs.lemmas.Fn.{dedup_same}
use Rattle.tx_document.proofs.SortedInstances.{same_instance}
use Rattle.tx_document.proofs.ordering.drop_equal.Goals as goal

pub returns : goal.returns
returns c = dedup_same _ same_instance _ (λ x y b f' x' y' k. search rules) _ _ c.dedup_by.ensures.filtered
