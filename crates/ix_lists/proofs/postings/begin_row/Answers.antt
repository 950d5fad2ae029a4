use Rattle.std.proofs.Common.{sym, ap, ◌∙◌}
use Rattle.ix_lists.specs.Documents.{from_on}
use Rattle.ix_lists.proofs.Passing.{none_from}
use Rattle.ix_lists.proofs.postings.begin_row.Goals as goal

pub returns-then-last-to-clause-left : goal.returns-then-last-to-clause-left
returns-then-last-to-clause-left g c = sym (none_from c.last_at-last.result c.args.to _ c.last_at-last.ensures c.if-last-to.true)

pub returns-clause-left : goal.returns-clause-left
returns-clause-left g c = c.seek_in_row.ensures.left ∙ ap (from_on c.args.to) c.in_ok-place.ensures
