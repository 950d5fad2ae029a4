-- What the feeds of a query's parts have of the document that was seen last.
use Rattle.std.specs.Prelude.{ℕ, ◌≡◌, max, List, [], ◌∷◌, map, Option, Some, None, refl}
use Rattle.std.specs.Bool.{if◌then◌else◌}
use Rattle.std.specs.Global.{Vec}
use Rattle.ct_base.specs.declared.numbers.Pair.{Pair}
use Rattle.ix_spans.specs.Occurrences.{Slots, is_pair_inside}
use Rattle.ix_cursor.specs.declared.feeds.TokenFeeds.{TokenFeeds}
use Rattle.ix_cursor.specs.declared.feeds.PhraseFeed.{PhraseFeed}
use Rattle.ix_cursor.specs.declared.feeds.TermFeed.{TermFeed}

-- the positions that each slot takes
abbrev pub seen_phrase : PhraseFeed → Slots
seen_phrase p = p.seen

abbrev pub seen_phrases : List PhraseFeed → List Slots
seen_phrases ps = map (λ p. seen_phrase p) ps

abbrev pub seen_term : TermFeed → List Slots
seen_term t = seen_phrases t.phrases.items

abbrev pub seen_operands : List TermFeed → List (List Slots)
seen_operands os = map (λ o. seen_term o) os

-- ---- the scores of a part of WITHIN, which stand beside the pairs of its section

abbrev pub score_inside : ℕ → ℕ → Pair → ℕ → ℕ
score_inside lo hi p score = if is_pair_inside lo hi p then score else 0

-- the greatest over the pairs that lie within lo to hi
abbrev pub greatest_inside : ℕ → ℕ → List Pair → List ℕ → ℕ
greatest_inside lo hi [] scores = 0
greatest_inside lo hi (p ∷ ps) [] = 0
greatest_inside lo hi (p ∷ ps) (score ∷ scores) = max (score_inside lo hi p score) (greatest_inside lo hi ps scores)

-- ---- computed examples: the pairs 1 to 3 and 4 to 9, with the scores 2 and 5

abbrev two_pairs : List Pair
two_pairs = record { first = 1; last = 3 } ∷ record { first = 4; last = 9 } ∷ []

the_greater : greatest_inside 1 9 two_pairs (2 ∷ 5 ∷ []) ≡ 5
the_greater = refl

the_other_ends_later : greatest_inside 1 8 two_pairs (2 ∷ 5 ∷ []) ≡ 2
the_other_ends_later = refl

-- whatever documents are left of its slots, a phrase has what was seen of them
as_seen : (slots : Vec (Option TokenFeeds)) → seen_phrases (record { slots = slots; seen = Some (4 ∷ []) ∷ None ∷ [] } ∷ []) ≡ (Some (4 ∷ []) ∷ None ∷ []) ∷ []
as_seen slots = refl
