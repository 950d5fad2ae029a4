use Rattle.std.proofs.Common.{length, ap, ◌∙◌}
use Rattle.std.specs.Prelude.{nat_le}
use Rattle.std.specs.FinMap.{entries}
use Rattle.th_graph.specs.Relating.{pair_limit}
use Rattle.th_store.proofs.Scans.{all_listed, count_listed}
use Rattle.th_store.proofs.lookups.is_at_pair_limit.Goals as goal

pub returns : goal.returns
returns g c = λ m told ts holds ps is. ap (nat_le pair_limit) (c.in_ok-count.ensures m told ∙ ap length (all_listed m ts holds c.args.name.now ps is) ∙ count_listed (entries ps))
