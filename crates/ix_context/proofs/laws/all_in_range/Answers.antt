use Rattle.std.proofs.Common.{refl}
use Rattle.ix_context.specs.laws.Ranges.{whole_range}
use Rattle.ix_context.proofs.laws.all_in_range.Goals as goal

pub returns : goal.returns
returns c = whole_range _ refl refl
