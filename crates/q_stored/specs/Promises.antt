-- What the functions of `src/laws.rt` promise.
use Rattle.std.specs.Prelude.{ℕ, ◌≡◌, ◌<◌, true, List, [], ◌∷◌, ◌++◌, Option, codes, refl}
use Rattle.q_tree.specs.declared.queries.Op.TheVariants.{And}
use Rattle.q_tree.specs.ReducedQueries.{Reduced, Both}
use Rattle.q_tree.specs.Soundness.{is_sound}
use Rattle.q_tree.specs.Scores.{whole_score}
use Rattle.q_tree.specs.Documents.{DocWord, DocSection, postings_of_words}
use Rattle.q_stored.specs.QueryBytes.{query_bytes, a_term, b_term}
use Rattle.q_stored.specs.Storing.{SpellsQuery}
use Rattle.q_stored.specs.Anchoring.{anchors, is_found, document_keys}

-- No two queries have the same bytes,
abbrev pub QueriesHaveTheirBytes : Type 0
QueriesHaveTheirBytes = (bytes : List ℕ) (p q : Option Reduced) → SpellsQuery bytes p → SpellsQuery bytes q → p ≡ q

-- and the bytes of none begin those of another.
abbrev pub NoQueryBeginsAnother : Type 0
NoQueryBeginsAnother = (p q : Reduced) (r s : List ℕ) → query_bytes p ++ r ≡ query_bytes q ++ s → (p ≡ q) × (r ≡ s)

-- A query with a score above 0 on a document has one of its anchors among the document's keys, or is looked for everywhere.
abbrev pub AnchorsFind : Type 0
AnchorsFind = (q : Reduced) (ws : List DocWord) (ss : List DocSection) → is_sound q ≡ true → 0 < whole_score q (postings_of_words ws ss) → is_found (anchors q) (document_keys ws) ≡ true

-- ---- computed example: a AND b, on a document that has both

found_by_its_first_word : is_found (anchors (Both And a_term b_term)) (codes "b" ∷ codes "a" ∷ []) ≡ true
found_by_its_first_word = refl
