use Rattle.std.proofs.Common.{ap, ◌∙◌, Option, Vec, ℕ}
use Rattle.std.specs.Option.{option_map}
use Rattle.std.specs.declared.alloc.Global.{Global}
use Rattle.std.specs.FinMap.{get}
use Rattle.ct_keep.specs.Content.{Content}
use Rattle.ct_keep.specs.laws.Pairs.{get-lookup}
use Rattle.ct_keep.proofs.SortedPairs.{copied_items}
use Rattle.ct_keep.proofs.sorted_entries.SortedEntries.value_at.Goals as goal

pub returns : goal.returns
returns c = copied_items c.value_of.result ∙ ap (λ (o : Option (Vec ℕ Global)). option_map (λ v. v.items) o) c.value_of.ensures
    ∙ get-lookup c.self.inside.entries.entries c.args.key.now c.self.invariant.keyed.ordered ∙ ap (λ (m : Content). get m c.args.key.now) c.self.view_is
