use Rattle.std.proofs.Common.{ℕ, Option, ap, ◌∙◌}
use Rattle.std.specs.Prelude.{unwrap_or}
use Rattle.ct_keep.specs.Counting.{PrefixCounts, prefix_count}
use Rattle.ct_keep.specs.laws.CountedPairs.{get-counts_of}
use Rattle.ct_keep.proofs.owner_counts.OwnerCounts.at.Goals as goal

pub returns : goal.returns
returns c = c.unwrap_or.ensures ∙ ap (λ (o : Option ℕ). unwrap_or o 0) (c.copied.ensures ∙ c.value_of.ensures ∙ get-counts_of c.self.inside.counts.entries c.args.owner.now c.self.invariant.ordered)
    ∙ ap (λ (k : PrefixCounts). prefix_count c.args.owner.now k) c.self.view_is
