-- Queries of CATSEARCH, and whether they hold of a document.
use Rattle.std.specs.Prelude.{ℕ, ◌≡◌, nat_lt, Some, Bool, true, false, not, ◌&&◌, ◌||◌, List, [], ◌∷◌, length, codes, refl}
use Rattle.std.specs.List.{list_any}
use Rattle.q_tree.specs.declared.flats.Slot.{Slot}
use Rattle.q_tree.specs.declared.flats.Slot.TheVariants.{Takes}
use Rattle.q_tree.specs.declared.queries.Op.TheVariants.{Or, And, Not, Minus}
use Rattle.q_tree.specs.ReducedQueries.{Reduced, Term, Both, Weight, Above, Near, Within, Define}
use Rattle.q_tree.specs.Scores.{DocPostings, occurrences, last_position, whole_score}
use Rattle.q_tree.specs.Documents.{postings_of_words}

-- ---- by truth

-- A phrase holds of a document where its occurrences in the main stream aren't empty.
abbrev pub phrase_holds : DocPostings → List Slot → Bool
phrase_holds d phrase = nat_lt 0 (length (occurrences phrase d 0 1 last_position))

-- WHETHER A QUERY HOLDS of a document: a term where one of its phrases does, and AND, OR and NOT as truth has them. CATSEARCH has nothing else.
abbrev pub holds : Reduced → DocPostings → Bool
holds (Term phrases) d = list_any (phrase_holds d) phrases
holds (Both And a b) d = holds a d && holds b d
holds (Both Or a b) d = holds a d || holds b d
holds (Both Not a b) d = holds a d && not (holds b d)
holds (Both Minus a b) d = false
holds (Weight w a) d = false
holds (Above n a) d = false
holds (Near operands span ordered) d = false
holds (Within place a) d = false
holds (Define phrases sum) d = false

-- whether a query has terms, AND, OR and NOT alone
abbrev pub is_boolean : Reduced → Bool
is_boolean (Term phrases) = true
is_boolean (Both And a b) = is_boolean a && is_boolean b
is_boolean (Both Or a b) = is_boolean a && is_boolean b
is_boolean (Both Not a b) = is_boolean a && is_boolean b
is_boolean (Both Minus a b) = false
is_boolean (Weight w a) = false
is_boolean (Above n a) = false
is_boolean (Near operands span ordered) = false
is_boolean (Within place a) = false
is_boolean (Define phrases sum) = false

-- A query holds of a document exactly where it has a score there.
abbrev pub HoldsByScore : Type 0
HoldsByScore = (q : Reduced) (d : DocPostings) → is_boolean q ≡ true → holds q d ≡ nat_lt 0 (whole_score q d)

-- ---- queries for examples

abbrev pub key_slot : List ℕ → Slot
key_slot key = Takes (key ∷ []) []

abbrev pub key_term : List ℕ → Reduced
key_term key = Term ((key_slot key ∷ []) ∷ [])

-- the phrase `red hat`
abbrev pub red_hat : Reduced
red_hat = Term ((key_slot (codes "red") ∷ key_slot (codes "hat") ∷ []) ∷ [])

-- computed examples: the words `hat red` of a document
abbrev pub hat_red : DocPostings
hat_red = postings_of_words (record { position = 1; key = Some (codes "hat"); streams = 0 ∷ [] } ∷ record { position = 2; key = Some (codes "red"); streams = 0 ∷ [] } ∷ []) []

both_words : holds (Both And (key_term (codes "red")) (key_term (codes "hat"))) hat_red ≡ true
both_words = refl

not_the_phrase : holds red_hat hat_red ≡ false
not_the_phrase = refl

without_the_phrase : holds (Both Not (key_term (codes "red")) red_hat) hat_red ≡ true
without_the_phrase = refl

is_a_query : is_boolean (Both Not (key_term (codes "red")) red_hat) ≡ true
is_a_query = refl

no_minus : is_boolean (Both Minus (key_term (codes "red")) red_hat) ≡ false
no_minus = refl
