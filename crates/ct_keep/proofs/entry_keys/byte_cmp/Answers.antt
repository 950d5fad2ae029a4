use Rattle.std.proofs.Common.{Option, ap, refl, ◌∙◌}
use Rattle.std.specs.declared.cmp.Ordering.{Ordering}
use Rattle.std.specs.declared.cmp.Ordering.TheVariants.{Equal}
use Rattle.std.specs.Option.{unwrap_or}
use Rattle.std.specs.Cmp.Lexicographic.{lists_agrees}
use Rattle.ct_keep.proofs.entry_keys.byte_cmp.Goals as goal

pub returns : goal.returns
returns c =
    c.unwrap_or.ensures
    ∙ ap (λ (o : Option Ordering). unwrap_or o Equal) (c.partial_cmp.ensures ∙ lists_agrees (λ x y. refl) c.args.a.now c.args.b.now)
