use Rattle.std.proofs.Common.{ℕ, ◌*◌, take, drop, ap, ◌∙◌}
use Rattle.pg_cache.proofs.caches.Frame.load.Goals as goal

pub returns-clause-bytes : goal.returns-clause-bytes
returns-clause-bytes g c = λ image told. c.in_ok-read.ensures.bytes image told ∙ ap (λ (n : ℕ). take n (drop (4096 * c.args.number) image)) c.self.told
