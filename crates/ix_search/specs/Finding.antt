-- What a reduced query finds: defined by scanning every row.
use Rattle.std.specs.Prelude.{ℕ, ℤ, pos, ◌≡◌, nat_lt, List, [], ◌∷◌, Option, Some, None, codes, refl}
use Rattle.std.specs.Bool.{if◌then◌else◌}
use Rattle.std.specs.List.{filter_map, cons_option}
use Rattle.std.specs.Str.{chars}
use Rattle.std.specs.Ordering.{int_cmp}
use Rattle.std.specs.FinMap.{entries, from_sorted, entries-from_sorted}
use Rattle.std.proofs.Common.{ap, ◌∙◌}
use lib.Utf8.{encode}
use Rattle.ucd_category.proofs.Computing.{ucd_category}
use Rattle.caseless.proofs.Computing.{caseless}
use Rattle.tx_chars.specs.Keys.{key_text}
use Rattle.tx_tags.specs.Groups.{zones}
use Rattle.tb_table.specs.Tables.{Table}
use Rattle.tx_settings.specs.declared.preferences.Prefs.{Prefs}
use Rattle.tx_settings.specs.Defaults.{default_prefs, plain}
use Rattle.tx_document.specs.Documents.{sentences}
use Rattle.q_tree.specs.declared.flats.Slot.{Slot}
use Rattle.q_tree.specs.declared.flats.Slot.TheVariants.{Takes}
use Rattle.q_tree.specs.declared.flats.Place.TheVariants.{Sentence}
use Rattle.q_tree.specs.declared.queries.Op.TheVariants.{And}
use Rattle.q_tree.specs.ReducedQueries.{Reduced, Term, Both, Within}
use Rattle.q_tree.specs.Scores.{whole_score}
use Rattle.ix_docmap.specs.Marks.{Mark, Pending, Settled}
use Rattle.ix_kinds.specs.Indextypes.{IndexOf}
use Rattle.ix_context.specs.Indexes.{ContextIndex, texts_in, no_part, three_marks}
use Rattle.ix_search.specs.Texts.{scanned_postings, with_tags}

-- the score of a query on a text, by its words and sections
abbrev pub query_score : Prefs → Reduced → List ℕ → ℕ
query_score p q text = whole_score q (scanned_postings p text)

-- a row with its score, where the score is above n
abbrev pub scored_above : ℕ → ℤ → ℕ → Option (ℤ × ℕ)
scored_above n r score = if nat_lt n score then Some (r, score) else None

abbrev pub scored : Prefs → Reduced → ℕ → ℤ → Option (List ℕ) → Option (ℤ × ℕ)
scored p q n r None = None
scored p q n r (Some text) = scored_above n r (query_score p q text)

abbrev pub found_at : Table → IndexOf ContextIndex → Reduced → ℕ → ℤ → Mark (Unit {0}) → Option (ℤ × ℕ)
found_at t x q n r Pending = None
found_at t x q n r (Settled _) = scored x.prefs q n r (texts_in t x.column r)

-- WHAT A QUERY FINDS: the settled rows whose text has a score above n, with their scores, in order of their keys.
abbrev pub found : Table → IndexOf ContextIndex → Reduced → ℕ → List (ℤ × ℕ)
found t x q n = filter_map (λ e. found_at t x q n e.0 e.1) (entries x.body.marks)

-- the query that is one key
abbrev pub key_query : List ℕ → Reduced
key_query key = Term ((Takes (key ∷ []) [] ∷ []) ∷ [])

-- ---- computed examples

above : scored_above 1 (pos 7) 2 ≡ Some (pos 7, 2)
above = refl

only_as_high : scored_above 2 (pos 7) 2 ≡ None
only_as_high = refl

fox_and_dog : query_score default_prefs (Both And (key_query (codes "fox")) (key_query (codes "dog"))) (codes "fox dog fox") ≡ 1
unfolding encode chars caseless ucd_category key_text
fox_and_dog = refl

abbrev only : List ℕ → Slot
only key = Takes (key ∷ []) []

a_phrase : query_score default_prefs (Term ((only (codes "big") ∷ only (codes "fox") ∷ []) ∷ [])) (codes "big fox, fox big fox") ≡ 2
unfolding encode chars caseless ucd_category key_text
a_phrase = refl

in_one_sentence : query_score (plain sentences) (Within Sentence (Both And (key_query (codes "a")) (key_query (codes "b")))) (codes "a. b") ≡ 0
unfolding encode chars caseless ucd_category key_text
in_one_sentence = refl

in_a_sentence : query_score (plain sentences) (Within Sentence (Both And (key_query (codes "a")) (key_query (codes "b")))) (codes "a b. c") ≡ 1
unfolding encode chars caseless ucd_category key_text
in_a_sentence = refl

-- what an invisible field encloses isn't found in the main stream, and what a zone encloses is
hidden : query_score (plain zones) (key_query (codes "alpha")) with_tags ≡ 0
unfolding encode chars caseless ucd_category key_text
hidden = refl

shown : query_score (plain zones) (key_query (codes "beta")) with_tags ≡ 1
unfolding encode chars caseless ucd_category key_text
shown = refl

not_yet : (t : Table) (x : IndexOf ContextIndex) (q : Reduced) → found_at t x q 0 (pos 1) Pending ≡ None
not_yet t x q = refl

-- an index with two rows that are settled, and one that waits
abbrev pub three_rows : IndexOf ContextIndex
three_rows = record { table = codes "docs"; column = 1; prefs = default_prefs; body = record { part = no_part; marks = from_sorted three_marks } }

abbrev pub big_fox : Reduced
big_fox = Term ((only (codes "big") ∷ only (codes "fox") ∷ []) ∷ [])

one_found : (t : Table) → texts_in t three_rows.column (pos 1) ≡ Some (codes "a big fox") → texts_in t three_rows.column (pos 2) ≡ Some (codes "fox, big") → found t three_rows big_fox 0 ≡ (pos 1, 1) ∷ []
unfolding encode chars caseless ucd_category key_text
one_found t one two =
    ap (λ (es : List (ℤ × Mark (Unit {0}))). filter_map (λ e. found_at t three_rows big_fox 0 e.0 e.1) es) (entries-from_sorted int_cmp three_marks tt)
    ∙ ap (λ (o : Option (List ℕ)). cons_option (scored default_prefs big_fox 0 (pos 1) o) (cons_option (scored default_prefs big_fox 0 (pos 2) (texts_in t three_rows.column (pos 2))) [])) one
    ∙ ap (λ (o : Option (List ℕ)). (pos 1, 1) ∷ cons_option (scored default_prefs big_fox 0 (pos 2) o) []) two
