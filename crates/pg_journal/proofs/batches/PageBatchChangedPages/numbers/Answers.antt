use Rattle.std.proofs.Common.{sym, ap, ◌∙◌}
use Rattle.pg_journal.specs.BatchStates.{BatchState, numbers_in}
use Rattle.pg_journal.proofs.BatchPages.{numbers_of_pages}
use Rattle.pg_journal.proofs.batches.PageBatchChangedPages.numbers.Goals as goal

pub returns-clause-numbers : goal.returns-clause-numbers
returns-clause-numbers c = c.deref.ensures.value ∙ sym (numbers_of_pages c.self.inside.numbers.items c.self.inside.bytes.items) ∙ ap (λ (b : BatchState). numbers_in b.pages) c.self.view_is
