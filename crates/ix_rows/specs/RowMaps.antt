-- The growing rows of terms, and what is put into a batch once all documents have come.
use Rattle.std.specs.Prelude.{ℕ, ◌≡◌, List, [], ◌∷◌, ◌++◌, map, Option, Some, None, codes, refl}
use Rattle.std.specs.Ordering.{nat_cmp}
use Rattle.std.specs.Cmp.Lexicographic.{slice_cmp}
use Rattle.std.specs.Coded.{Coded, coded_list, coded_ℕ}
use Rattle.std.specs.FinMap.{FinMap, get, insert, entries, code}
use Rattle.ct_base.specs.laws.SortedMaps.{seen_map}
use Rattle.ct_entry.specs.declared.kinds.Kind.{Kind}
use Rattle.ct_entry.specs.declared.kinds.Kind.TheVariants as kind
use Rattle.ct_entry.specs.Keys.{Key, key}
use Rattle.ct_entry.specs.Changes.{put_value, spell}
use Rattle.ct_entry.specs.Each.{each}
use Rattle.ix_rows.specs.declared.growing.SpeltRow.{SpeltRow}
use Rattle.ix_rows.specs.Spelling.{row_key}
use Rattle.ix_rows.specs.Growing.{Growing, growing_code, nothing_yet, with_grown_document, grown_rows}

-- the rows of terms, in the order of the terms' bytes
abbrev pub TermRowsView : Type 0
TermRowsView = FinMap (slice_cmp nat_cmp) Growing

abbrev pub row_map_code : Coded TermRowsView
row_map_code = code (coded_list coded_ℕ) growing_code

-- the rows that a term has, none where it has none yet
abbrev pub or_nothing : Option Growing → Growing
or_nothing None = nothing_yet
or_nothing (Some g) = g

abbrev pub growing_at : TermRowsView → List ℕ → Growing
growing_at m t = or_nothing (get m t)

-- a document comes to a term, with the bytes of its places
abbrev pub with_posting : TermRowsView → List ℕ → ℕ → List ℕ → TermRowsView
with_posting m t d places = insert m t (with_grown_document (growing_at m t) d places)

-- ---- changes

-- a row as it is put: its first document, and its bytes
abbrev pub seen_row : SpeltRow → ℕ × List ℕ
seen_row r = (r.first, r.bytes.items)

-- the rows of a term, each put under the term and its first document
abbrev pub row_changes : Kind → List ℕ → List ℕ → List (ℕ × List ℕ) → List (Key × Option (List ℕ))
row_changes kind i t rows = map (λ r. put_value (key kind i (row_key t r.0)) r.1) rows

-- those of all terms, in their order
abbrev pub row_map_changes : Kind → List ℕ → TermRowsView → List (Key × Option (List ℕ))
row_map_changes kind i m = each (λ e. row_changes kind i e.0 (grown_rows e.1)) (entries m)

-- ---- a map in memory

abbrev pub HeldRows : Type 0
HeldRows = List ℕ × Growing

abbrev pub row_map_of : List HeldRows → TermRowsView
row_map_of es = seen_map (slice_cmp nat_cmp) (λ (t : List ℕ). t) (λ g. g) es

-- the terms with their rows, as a list
abbrev pub seen_terms : List HeldRows → List (List ℕ × Growing)
seen_terms es = map (λ e. (e.0, e.1)) es

-- computed example: a row of the section `title` that begins with the document 7
a_row_is_put : spell (row_changes kind.Spans (codes "di") (5 ∷ codes "title") ((7, 1 ∷ 7 ∷ 1 ∷ 1 ∷ 2 ∷ []) ∷ []))
    ≡ (0x25 ∷ 2 ∷ codes "di" ++ 5 ∷ codes "title" ++ 0 ∷ 0 ∷ 0 ∷ 7 ∷ [], Some (1 ∷ 7 ∷ 1 ∷ 1 ∷ 2 ∷ [])) ∷ []
a_row_is_put = refl
