-- The pairs of operands, one operand after the other.
use Rattle.std.proofs.Common.{ℕ, ◌≡◌, ◌<◌, ◌+◌, List, [], ◌∷◌, ◌++◌, map, take, get_or, length, sym, ap, ◌∙◌}
use Rattle.std.proofs.lemmas.List.{map_more, map-append}
use Rattle.std.specs.Global.{Vec}
use Rattle.ct_base.specs.declared.numbers.Pair.{Pair}
use Rattle.ix_spans.specs.InOrder.{SamePairs, EachSame}
use Rattle.ix_spans.specs.Occurrences.{Slots}
use Rattle.ix_spans.specs.Views.{pairs_view}
use Rattle.ix_spans.specs.laws.Nearness.{pairs_push, each_same_push}
use Rattle.ix_cursor.specs.declared.feeds.TermFeed.{TermFeed}
use Rattle.ix_cursor.specs.Seen.{seen_term, seen_operands}

-- what the operands so far have, with one operand more
pub pairs_more : (f : List Slots → List Pair) (os : List TermFeed) (i : ℕ) (o : TermFeed) → i < length os → o ≡ get_or os i o → map f (seen_operands (take (i + 1) os)) ≡ map f (seen_operands (take i os)) ++ f (seen_term o) ∷ []
pairs_more f os i o within is =
    let so_far = seen_operands (take i os) in
    ap (map f) (map_more (λ t. seen_term t) os i o within)
    ∙ map-append f so_far (seen_term (get_or os i o) ∷ [])
    ∙ ap (λ (t : TermFeed). map f so_far ++ f (seen_term t) ∷ []) (sym is)

pub same_more : (f : List Slots → List Pair) (vs : List (Vec Pair)) (v : Vec Pair) (os : List TermFeed) (i : ℕ) (o : TermFeed) → i < length os → o ≡ get_or os i o → EachSame (pairs_view vs) (map f (seen_operands (take i os))) → SamePairs v.items (f (seen_term o)) → EachSame (pairs_view (vs ++ v ∷ [])) (map f (seen_operands (take (i + 1) os)))
same_more f vs v os i o within is h k = rw (pairs_push vs v, pairs_more f os i o within is) (each_same_push (pairs_view vs) (map f (seen_operands (take i os))) v.items (f (seen_term o)) h k)
