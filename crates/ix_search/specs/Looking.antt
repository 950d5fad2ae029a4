-- How much the reading of a query's rows looks at.
use Rattle.std.specs.Prelude.{ℕ, ◌≡◌, ◌+◌, sum_by, List, [], ◌∷◌, ◌++◌, length, codes, refl}
use Rattle.std.proofs.Common.{ap}
use Rattle.ct_keep.specs.Content.{Content}
use Rattle.ct_keep.specs.KeeperViews.{Counts}
use Rattle.ct_keep.specs.Looks.{no_looks, plus, scan_looks}
use Rattle.ct_entry.specs.declared.kinds.Kind.TheVariants as kind
use Rattle.ct_entry.specs.Keys.{prefix_of}
use Rattle.ct_entry.specs.Listings.{owner_entries}
use Rattle.q_tree.specs.declared.flats.PatternBit.{PatternBit}
use Rattle.q_tree.specs.declared.flats.PatternBit.TheVariants.{Chars, Many}
use Rattle.q_tree.specs.declared.flats.Place.TheVariants.{Zone}
use Rattle.q_tree.specs.declared.flats.Slot.TheVariants.{Any, Takes}
use Rattle.q_tree.specs.declared.queries.Op.TheVariants.{And}
use Rattle.q_tree.specs.ReducedQueries.{Reduced, Term, Both, Within}
use Rattle.ix_search.specs.declared.wanting.Wanted.{Wanted}
use Rattle.ix_rows.specs.SpanRows.{section_term}
use Rattle.ix_tokens.specs.Looking.{key_looks, key_rows, pattern_looks, pattern_rows, foxes_behind, four_of_a_pattern, three_of_fox}
pub use Rattle.ix_tokens.specs.Looking.{foxes}
use Rattle.ix_tokens.specs.Promises.{AreFewLooks}
use Rattle.ix_search.specs.Finding.{key_query}
use Rattle.ix_search.specs.Parts.{keys_of, patterns_of}
use Rattle.ix_search.specs.Reading.{wanted_slots, section_names}

-- ---- by scans

-- a scan of the rows of a section
abbrev pub name_looks : Content → List ℕ → List ℕ → Counts
name_looks m i name = scan_looks (prefix_of kind.Spans i ++ section_term name) m

-- of each of some keys and patterns, of those of each of some slots, and of each of some sections
abbrev pub keys_looks : Content → List ℕ → ℕ → List (List ℕ) → Counts
keys_looks m i stream [] = no_looks
keys_looks m i stream (k ∷ ks) = plus (key_looks m i stream k) (keys_looks m i stream ks)

abbrev pub patterns_looks : Content → List ℕ → ℕ → List (List PatternBit) → Counts
patterns_looks m i stream [] = no_looks
patterns_looks m i stream (p ∷ ps) = plus (pattern_looks m i stream p) (patterns_looks m i stream ps)

abbrev pub slot_looks : Content → List ℕ → Wanted → Counts
slot_looks m i w = plus (keys_looks m i w.stream (keys_of w.slot)) (patterns_looks m i w.stream (patterns_of w.slot))

abbrev pub slots_looks : Content → List ℕ → List Wanted → Counts
slots_looks m i [] = no_looks
slots_looks m i (w ∷ ws) = plus (slot_looks m i w) (slots_looks m i ws)

abbrev pub names_looks : Content → List ℕ → List (List ℕ) → Counts
names_looks m i [] = no_looks
names_looks m i (n ∷ ns) = plus (name_looks m i n) (names_looks m i ns)

-- WHAT A QUERY LOOKS AT: one scan for each key of each of its slots, where equal slots of a stream count once, those of each of their patterns, and one for each of its sections
abbrev pub query_looks : Content → List ℕ → Reduced → Counts
query_looks m i q = plus (slots_looks m i (wanted_slots q)) (names_looks m i (section_names q))

-- ---- by rows

-- of each key one look-up more than it has rows, and of each pattern 256 more than the tokens have that begin with its leading literal
abbrev pub keys_allowance : Content → List ℕ → ℕ → List (List ℕ) → ℕ
keys_allowance m i stream keys = sum_by (λ key. 1 + key_rows m i stream key) keys

abbrev pub patterns_allowance : Content → List ℕ → ℕ → List (List PatternBit) → ℕ
patterns_allowance m i stream ps = sum_by (λ p. 256 + pattern_rows m i stream p) ps

abbrev pub slot_allowance : Content → List ℕ → Wanted → ℕ
slot_allowance m i w = keys_allowance m i w.stream (keys_of w.slot) + patterns_allowance m i w.stream (patterns_of w.slot)

-- how many rows a section has
abbrev pub name_rows : Content → List ℕ → List ℕ → ℕ
name_rows m i name = length (owner_entries kind.Spans i (section_term name) m)

-- HOW MANY ROWS A QUERY MAY LOOK UP: so many for each slot of each stream, and of each section one more than it has rows
abbrev pub query_allowance : Content → List ℕ → Reduced → ℕ
query_allowance m i q = sum_by (slot_allowance m i) (wanted_slots q) + sum_by (λ name. 1 + name_rows m i name) (section_names q)

-- EACH QUERY looks up no more rows than it may, and no text.
abbrev pub QueriesLookFew : Type 0
QueriesLookFew = (m : Content) (i : List ℕ) (q : Reduced) → AreFewLooks (query_allowance m i q) (query_looks m i q)

-- ---- computed examples

-- a slot that takes any word is looked for nowhere
any_is_not_read : (m : Content) → query_looks m (codes "di") (Term ((Any ∷ []) ∷ [])) ≡ no_looks
any_is_not_read m = refl

any_costs_nothing : (m : Content) → query_allowance m (codes "di") (Term ((Any ∷ []) ∷ [])) ≡ 0
any_costs_nothing m = refl

-- in a content that has three rows of `fox`, four whose tokens begin with `fo`, and one of the section `t`
pub four_for_fox : keys_allowance foxes (codes "di") 0 (codes "fox" ∷ []) ≡ 4
four_for_fox = ap (λ (n : ℕ). 0 + (1 + n)) three_of_fox

for_a_pattern : patterns_allowance foxes (codes "di") 0 ((Chars (codes "fo") ∷ Many ∷ []) ∷ []) ≡ 260
for_a_pattern = ap (λ (n : ℕ). 0 + (256 + n)) four_of_a_pattern

one_of_t : name_rows foxes (codes "di") (codes "t") ≡ 1
one_of_t = ap length (foxes_behind (prefix_of kind.Spans (codes "di") ++ section_term (codes "t")))

-- the query `fox`, which costs the same where it has the word twice
pub query_of_fox : query_allowance foxes (codes "di") (key_query (codes "fox")) ≡ 4
query_of_fox = ap (λ (n : ℕ). 0 + (n + 0) + 0) four_for_fox

fox_and_fox : query_allowance foxes (codes "di") (Both And (key_query (codes "fox")) (key_query (codes "fox"))) ≡ 4
fox_and_fox = ap (λ (n : ℕ). 0 + (n + 0) + 0) four_for_fox

-- `fox = fo%`, and `fox WITHIN t`
fox_or_a_pattern : query_allowance foxes (codes "di") (Term ((Takes (codes "fox" ∷ []) ((Chars (codes "fo") ∷ Many ∷ []) ∷ []) ∷ []) ∷ [])) ≡ 264
fox_or_a_pattern = λ i. 0 + (four_for_fox i + for_a_pattern i) + 0

fox_in_a_section : query_allowance foxes (codes "di") (Within (Zone (codes "t")) (key_query (codes "fox"))) ≡ 6
fox_in_a_section = λ i. 0 + (four_for_fox i + 0) + (0 + (1 + one_of_t i))
