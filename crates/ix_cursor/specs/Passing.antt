-- Whether the documents before a number were passed, in each list of a query's parts.
use Rattle.std.specs.Prelude.{ℕ, ◌≡◌, nat_le, Bool, true, false, ◌&&◌, ◌||◌, List, [], ◌∷◌, Option, Some, None, refl}
use Rattle.std.specs.List.{list_all}
use Rattle.ix_posting.specs.declared.rows.RowDocument.{RowDocument}
use Rattle.ix_posting.specs.Rows.{WordDocument}
use Rattle.ix_lists.specs.Documents.{first_document}
use Rattle.ix_cursor.specs.declared.tokens.Tokens.{Tokens}
use Rattle.ix_cursor.specs.declared.tokens.Tokens.TheVariants.{Nothing, One, Both'}
use Rattle.ix_cursor.specs.declared.feeds.TokenFeeds.{TokenFeeds}
use Rattle.ix_cursor.specs.declared.feeds.PhraseFeed.{PhraseFeed}
use Rattle.ix_cursor.specs.declared.feeds.TermFeed.{TermFeed}
use Rattle.ix_cursor.specs.declared.feeds.SpanFeed.{SpanFeed}
use Rattle.ix_cursor.specs.declared.nodes.Node.{Node}
use Rattle.ix_cursor.specs.declared.nodes.Node.TheVariants.{Term, And', Or', Not', Minus', Weight', Above', Near, Within', Define, Done}

-- the first document that is left, if any is, doesn't stand before a number
abbrev pub none_before : ℕ → Option ℕ → Bool
none_before to None = true
none_before to (Some first) = nat_le to first

-- the documents of a token or of a section
abbrev pub list_passed : {P : Type 0} → ℕ → List (RowDocument P) → Bool
list_passed to documents = none_before to (first_document documents)

-- the tokens of a slot; two parts that count from a document on have passed those before it
abbrev pub tokens_passed : ℕ → Tokens → Bool
tokens_passed to Nothing = true
tokens_passed to (One p) = list_passed to p
tokens_passed to (Both' from p a q b) = none_before to from || (tokens_passed to a && tokens_passed to b)

abbrev pub slot_passed : ℕ → Option TokenFeeds → Bool
slot_passed to None = true
slot_passed to (Some t) = tokens_passed to t.tokens.value

abbrev pub phrase_passed : ℕ → PhraseFeed → Bool
phrase_passed to p = list_all (slot_passed to) p.slots.items

abbrev pub term_passed : ℕ → TermFeed → Bool
term_passed to t = list_all (phrase_passed to) t.phrases.items

abbrev pub section_passed : ℕ → SpanFeed → Bool
section_passed to s = list_passed to s.documents

-- WHETHER A NODE HAS PASSED the documents before a number: each list of each of its parts has, whatever its score needs
abbrev pub node_passed : ℕ → Node → Bool
node_passed to (Term t) = term_passed to t
node_passed to (And' p a q b) = node_passed to a && node_passed to b
node_passed to (Or' p a q b) = node_passed to a && node_passed to b
node_passed to (Not' p a q b) = node_passed to a && node_passed to b
node_passed to (Minus' p a q b) = node_passed to a && node_passed to b
node_passed to (Weight' w p a) = node_passed to a
node_passed to (Above' n p a) = node_passed to a
node_passed to (Near n) = list_all (term_passed to) n.operands.items
node_passed to (Within' s p a) = section_passed to s.value && node_passed to a
node_passed to (Define t) = term_passed to t.term
node_passed to Done = true

-- ---- computed examples

abbrev in_5 : List WordDocument
in_5 = record { document = 5; places = 1 ∷ [] } ∷ []

passed_as_far_as_it : list_passed 5 in_5 ≡ true
passed_as_far_as_it = refl

not_passed : list_passed 6 in_5 ≡ false
not_passed = refl

nothing_left : node_passed 6 Done ≡ true
nothing_left = refl
