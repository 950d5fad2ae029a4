use Rattle.rs_result.specs.laws.Orders.{rank_cmp_total}
use Rattle.rs_result.proofs.laws.rank_laws.Goals as goal

pub returns : goal.returns
returns c = rank_cmp_total
