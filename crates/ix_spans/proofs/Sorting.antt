-- A sort keeps the pairs.
use Rattle.std.proofs.Common.{◌≡◌, ◌||◌, List, [], ◌∷◌, refl, sym, ap, ◌∙◌}
use Rattle.std.specs.List.{list_any}
use Rattle.std.specs.List.Sorted.{IsPermutation}
use Rattle.std.proofs.lemmas.List.Sorted.{list_any-IsPermutation}
use Rattle.ct_base.specs.declared.numbers.Pair.{Pair}
use Rattle.ix_spans.specs.Occurrences.{same_pair, has_pair}
use Rattle.ix_spans.specs.InOrder.{SamePairs}

has_any : (ps : List Pair) (p : Pair) → has_pair ps p ≡ list_any (λ q. same_pair q p) ps
has_any [] p = refl
has_any (q ∷ ps) p = ap (λ t. same_pair q p || t) (has_any ps p)

pub same_by_permutation : (ps qs : List Pair) → IsPermutation ps qs → SamePairs qs ps
same_by_permutation ps qs h p = has_any qs p ∙ sym (list_any-IsPermutation (λ q. same_pair q p) ps qs h) ∙ sym (has_any ps p)
