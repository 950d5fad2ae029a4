use Rattle.std.specs.Prelude.{map}
use Rattle.std.proofs.Common.{ℕ, ◌+◌, ◌-◌, ap, ◌∙◌}
use Rattle.ct_keep.specs.SeenChanges.{change_of}
use Rattle.pg_batch.specs.laws.Weights.{weight_is}
use Rattle.pg_batch.proofs.weighing.weight_after.Goals as goal

pub returns : goal.returns
returns c = λ m rise total old.
    c.saturating_sub.ensures ∙ ap (λ (n : ℕ). (c.args.total + n) - c.args.old) c.new_weights.ensures.weight
    ∙ weight_is (map change_of c.args.changes.now) m c.args.total c.args.old rise total old
