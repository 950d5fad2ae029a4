use Rattle.std.proofs.Common.{ap, ◌∙◌}
use Rattle.std.specs.Ordering.{nat_cmp}
use Rattle.std.specs.FinMap.{from_sorted}
use Rattle.ct_base.specs.laws.SortedMaps.{sorted-none}
use Rattle.ix_search.proofs.document_rows.DocumentRows.new.Goals as goal

pub returns : goal.returns
returns c = ap (from_sorted {R = nat_cmp}) c.new.ensures.empty ∙ sorted-none nat_cmp
