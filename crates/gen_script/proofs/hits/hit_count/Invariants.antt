use Rattle.std.proofs.Common.{◌≡◌, ◌+◌, length}
use Rattle.gen_script.specs.Hits.{hit_count, hits_from}
use Rattle.gen_script.proofs.hits.hit_count.Given as goal

abbrev pub invariant-loop-rest : goal.invariant-loop-rest
invariant-loop-rest l = l.hits + hits_from l.begins l.rest ≡ hit_count l.text

abbrev pub decreases-loop-rest : goal.decreases-loop-rest
decreases-loop-rest l = length l.rest
