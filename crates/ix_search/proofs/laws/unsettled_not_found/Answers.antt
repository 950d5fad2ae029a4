use Rattle.std.proofs.Common.{Some, None}
use Rattle.ix_context.specs.Contexts.{context_after}
use Rattle.ix_context.specs.laws.ContextRows.{lost_unsettled}
use Rattle.ix_search.proofs.FoundLaws.{not_found}
use Rattle.ix_search.proofs.laws.unsettled_not_found.Goals as goal

pub returns : goal.returns
returns c = record {
  unsettled = not_found;
  gone = λ t x old cost q n r score. not_found t (record x { body = context_after r (Some old) None cost x.body }) q n r score (lost_unsettled r old None cost x.body);
  changed = λ t x old new cost q n r score. not_found t (record x { body = context_after r (Some old) (Some new) cost x.body }) q n r score (lost_unsettled r old (Some new) cost x.body);
}
