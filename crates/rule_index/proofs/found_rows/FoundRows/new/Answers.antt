use Rattle.std.proofs.Common.{ap, ◌∙◌}
use Rattle.std.specs.Ordering.{int_cmp}
use Rattle.std.specs.FinMap.{from_sorted}
use Rattle.ct_base.specs.laws.SortedMaps.{sorted-none}
use Rattle.rule_index.proofs.found_rows.FoundRows.new.Goals as goal

pub returns : goal.returns
returns c = ap (from_sorted {R = int_cmp}) c.new.ensures.empty ∙ sorted-none int_cmp
