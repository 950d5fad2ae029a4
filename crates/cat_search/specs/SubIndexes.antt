-- Where the rows of a table stand in the sub-indexes of a catalogue, and what a search along one finds.
use Rattle.std.specs.Prelude.{ℕ, ℤ, pos, ◌≡◌, ◌-◌, ◌≤◌, Bool, true, false, List, [], ◌∷◌, ◌++◌, length, drop, filter, map, Option, Some, None, Vec, codes, refl}
use Rattle.std.specs.List.{list_any}
use Rattle.std.specs.Ordering.{int_cmp, eq_by_cmp}
use Rattle.std.specs.declared.alloc.Global.{Global}
use Rattle.std.proofs.Common.{arith}
use Rattle.ct_base.specs.declared.numbers.RowKey.{RowKey}
use Rattle.ct_bytes.specs.RowKeys.{row_bytes}
use Rattle.ct_entry.specs.Listings.{row_of}
use Rattle.tb_table.specs.Tables.{Table}
use Rattle.q_tree.specs.declared.flats.Flat.{Flat}
use Rattle.q_tree.specs.ReducedQueries.{Reduced, reduced_of}
use Rattle.ix_kinds.specs.Indextypes.{IndexOf}
use Rattle.cat_index.specs.declared.filings.Filing.{Filing}
use Rattle.cat_index.specs.Filings.{at_place}
use Rattle.cat_index.specs.Catalogues.{CatalogueBody, docs_catalogue, filing_in}
use Rattle.cat_walk.specs.Places.{IsFirstAfter, comes_before}
use Rattle.cat_search.specs.Meeting.{met_rows}

-- ---- places

abbrev pub or_empty : Option (List ℕ) → List ℕ
or_empty None = []
or_empty (Some values) = values

-- the values of a row in the columns of a sub-index, as its keys have them; none in the plain one
abbrev pub values_in : ℕ → Filing → List ℕ
values_in sub w = or_empty (at_place sub w.values)

-- THE PLACE OF A ROW in a sub-index: its values in the columns of that, and its key
abbrev pub sub_place : Table → IndexOf CatalogueBody → ℕ → ℤ → List ℕ
sub_place t x sub r = values_in sub (filing_in x t r) ++ row_bytes r

-- the key of the row that has a place: its last eight bytes; none where it has fewer
abbrev pub place_row : List ℕ → Option ℤ
place_row place = row_of (drop (length place - 8) place)

-- The catalogue has a sub-index of this number: the plain one, which is 0, or one of its own.
abbrev pub HasSub : IndexOf CatalogueBody → ℕ → Type 0
HasSub x sub = sub ≤ length x.body.places

-- ---- what is found

-- WHAT A SEARCH ALONG A SUB-INDEX FINDS: the rows that the query finds, whose place there is taken, in the order of their keys
abbrev pub taken_rows : (List ℕ → Bool) → Table → IndexOf CatalogueBody → ℕ → Reduced → List ℤ
taken_rows taken t x sub q = filter (λ r. taken (sub_place t x sub r)) (met_rows t x q)

-- the rows that a call gave are these
abbrev pub AreTakenRows : (List ℕ → Bool) → ℕ → Flat → Table → IndexOf CatalogueBody → Vec RowKey Global → Type 0
AreTakenRows taken sub flat t x rows = map (λ (r : RowKey). r.0) rows.items ≡ taken_rows taken t x sub (reduced_of flat)

-- whether a row is one of a list
abbrev pub is_row_among : ℤ → List ℤ → Bool
is_row_among r rows = list_any (eq_by_cmp int_cmp r) rows

-- It is the next place at which a test holds; where there is none, it holds at none that is taken.
abbrev pub IsNextWithin : (List ℕ → Bool) → (List ℕ → Bool) → List ℕ → Option (List ℕ) → Type 0
IsNextWithin taken holds after (Some place) = IsFirstAfter holds after place
IsNextWithin taken holds after None = (p : List ℕ) → comes_before after p ≡ true → taken p ≡ true → holds p ≡ false

-- ---- computed examples

abbrev a_filing : Filing
a_filing = record { words = codes "hat" ∷ []; values = [] ∷ (3 ∷ codes "hat") ∷ [] }

none_in_the_plain_one : values_in 0 a_filing ≡ []
none_in_the_plain_one = refl

its_kind : values_in 1 a_filing ≡ 3 ∷ codes "hat"
its_kind = refl

the_last_eight_bytes : place_row ((3 ∷ codes "hat") ++ row_bytes (pos 7)) ≡ Some (pos 7)
unfolding row_bytes
the_last_eight_bytes = refl

too_short : place_row (codes "hat") ≡ None
too_short = refl

has_two : HasSub docs_catalogue 2
has_two = omega arith

it_is_among : is_row_among (pos 2) (pos 1 ∷ pos 2 ∷ []) ≡ true
it_is_among = refl

the_third_is_not : is_row_among (pos 3) (pos 1 ∷ pos 2 ∷ []) ≡ false
the_third_is_not = refl
