use Rattle.std.proofs.Common.{ℕ, List, ap, ◌∙◌}
use Rattle.std.specs.Ordering.{nat_cmp}
use Rattle.std.specs.Cmp.Lexicographic.{slice_cmp}
use Rattle.ct_base.specs.laws.SortedMaps.{seen-none}
use Rattle.ix_rows.specs.Growing.{Growing}
use Rattle.ix_rows.specs.RowMaps.{row_map_of}
use Rattle.ix_rows.proofs.row_maps.TermRows.new.Goals as goal

pub returns : goal.returns
returns c = ap row_map_of c.new.ensures.empty ∙ seen-none (slice_cmp nat_cmp) (λ (t : List ℕ). t) (λ (g : Growing). g)
