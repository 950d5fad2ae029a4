use Rattle.std.proofs.Common.{◌∷◌, ℕ, List, Option, refl, ap, ◌∙◌}
use Rattle.std.specs.declared.cmp.Ordering.{Ordering}
use Rattle.std.specs.declared.cmp.Ordering.TheVariants.{Equal}
use Rattle.std.specs.Option.{unwrap_or}
use Rattle.std.specs.Ordering.{nat_cmp, ordering_then}
use Rattle.std.specs.Cmp.Lexicographic.{lists_agrees, slice_cmp}
use Rattle.tx_document.proofs.place_names.name_cmp.Goals as goal

pub returns : goal.returns
returns c =
    let first = nat_cmp c.a.inside.stream c.b.inside.stream in
    c.then.ensures
    ∙ ap (λ (o : Ordering). ordering_then o c.unwrap_or.result) c.cmp.ensures
    ∙ ap (λ (o : Ordering). ordering_then first o)
    (c.unwrap_or.ensures
    ∙ ap (λ (o : Option Ordering). unwrap_or o Equal) (c.partial_cmp-tokens.ensures ∙ lists_agrees (λ x y. refl) c.as_slice.result.now c.as_slice-2.result.now)
    ∙ ap (λ (l : List ℕ). slice_cmp nat_cmp l c.as_slice-2.result.now) c.as_slice.ensures.value
    ∙ ap (λ (l : List ℕ). slice_cmp nat_cmp c.a.inside.token.items l) c.as_slice-2.ensures.value)
    ∙ ap (λ (n : List ℕ). slice_cmp nat_cmp n (c.b.inside.stream ∷ c.b.inside.token.items)) c.a.view_is
    ∙ ap (λ (n : List ℕ). slice_cmp nat_cmp c.args.a.now n) c.b.view_is
