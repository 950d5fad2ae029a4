-- A CONTEXT index: the marks of its rows, the texts that it sees, and what statements make of the marks.
use Rattle.std.specs.Prelude.{ℕ, ℤ, zero, suc, ◌+◌, ◌-◌, ◌^◌, Bool, true, not, ◌&&◌, List, map, filter, Option, Some, None, pos, negsuc, ◌≡◌, [], ◌∷◌, refl}
use Rattle.std.specs.Option.{option_and_then}
use Rattle.std.specs.Ordering.{int_cmp, is_lt}
use Rattle.std.specs.FinMap.{get, entries, from_entries, from_sorted, entries-from_sorted}
use Rattle.ct_entry.specs.Keys.{IsRow}
use Rattle.ct_entry.specs.Listings.{keys_where}
use Rattle.ct_entry.specs.Maps.{Rows, each_value}
use Rattle.tb_table.specs.declared.columns.Target.{Target}
use Rattle.tb_table.specs.Tables.{Table, Tables, text_in_column}
use Rattle.ix_kinds.specs.Rows.{table_at}
use Rattle.ix_rows.specs.Stores.{Tidiness, Untidy, Packed}
use Rattle.ix_docmap.specs.Marks.{Mark, Pending, Settled, queued}
use Rattle.ix_context.specs.declared.ranges.KeyRange.{KeyRange}
use Rattle.std.proofs.Common.{ap}

-- ---- what an index has by its kind

-- What a CONTEXT index has beside its marks: how many it ever made, how tidy its rows of postings are, and what its dead postings cost at most.
pub record Part : Type 0 where
  pub given : ℕ
  pub tidiness : Tidiness
  pub waste : ℕ

-- a CONTEXT index: of each row whether it waits or is settled
pub record ContextIndex : Type 0 where
  pub part : Part
  pub marks : Rows (Mark (Unit {0}))

-- how many marks an index can ever make
abbrev pub mark_limit : ℕ
mark_limit = 2 ^ 32 - 2

-- as an index begins
abbrev pub no_part : Part
no_part = record { given = 0; tidiness = Untidy; waste = 0 }

-- the rows that wait, in order of their keys
abbrev pub in_queue : Mark (Unit {0}) → Option (List ℕ)
in_queue m = queued (Some m)

abbrev pub waiting_rows : Rows (Mark (Unit {0})) → List ℤ
waiting_rows ms = keys_where in_queue (entries ms)

-- ---- what it sees

-- the texts of the rows in a column
abbrev pub texts_in : Table → ℕ → ℤ → Option (List ℕ)
texts_in t column r = option_and_then (λ vs. text_in_column vs column) (get t.rows r)

-- the texts in a column of the table of a name
abbrev pub target_text : Tables → Target → ℤ → Option (List ℕ)
target_text ts target r = texts_in (table_at ts target.table) target.column r

-- the row key lies in the range, both ends included
abbrev pub is_key_in : KeyRange → ℤ → Bool
is_key_in range r = not (is_lt (int_cmp r range.from.0)) && not (is_lt (int_cmp range.to.0 r))

-- the keys of the rows that lie in a range, in order
abbrev pub rows_within : Table → KeyRange → List ℤ
rows_within t range = filter (is_key_in range) (map (λ e. e.0) (entries t.rows))

-- the range has every row key
abbrev pub HasAllRows : KeyRange → Type 0
HasAllRows range = (r : ℤ) → IsRow r → is_key_in range r ≡ true

-- ---- what statements make of it

-- A row's mark is lost: the index is tidy no more, and if the row was settled, what its document costs is wasted.
abbrev pub part_after_loss : Option (Mark (Unit {0})) → ℕ → Part → Part
part_after_loss None cost p = record p { tidiness = Untidy }
part_after_loss (Some Pending) cost p = record p { tidiness = Untidy }
part_after_loss (Some (Settled _)) cost p = record p { tidiness = Untidy; waste = p.waste + cost }

-- where some rows wait, that many marks are made, and the index is tidy no more
abbrev pub part_with_marks : ℕ → Part → Part
part_with_marks zero p = p
part_with_marks (suc n) p = record p { given = p.given + suc n; tidiness = Untidy }

-- each row that waits is settled
abbrev pub all_settled : Rows (Mark (Unit {0})) → Rows (Mark (Unit {0}))
all_settled ms = each_value (λ (m : Mark (Unit {0})). Settled tt) ms

-- these rows are settled, and no other has a mark
abbrev pub settled_rows : List ℤ → Rows (Mark (Unit {0}))
settled_rows rows = from_entries (map (λ r. (r, Settled tt)) rows)

-- computed examples
the_most : mark_limit ≡ 4294967294
the_most = refl

-- three rows, of which the last waits
abbrev pub three_marks : List (ℤ × Mark (Unit {0}))
three_marks = (pos 1, Settled tt) ∷ (pos 2, Settled tt) ∷ (pos 3, Pending) ∷ []

abbrev two_given : Part
two_given = record { given = 2; tidiness = Untidy; waste = 64 }

one_waits : waiting_rows (from_sorted three_marks) ≡ pos 3 ∷ []
one_waits = ap (λ (es : List (ℤ × Mark (Unit {0}))). keys_where in_queue es) (entries-from_sorted int_cmp three_marks tt)

-- what is lost of a settled row, and of one that waits
a_lost_mark : part_after_loss (Some (Settled tt)) 128 (record two_given { tidiness = Packed }) ≡ record { given = 2; tidiness = Untidy; waste = 192 }
a_lost_mark = refl

one_that_waited : part_after_loss (Some Pending) 128 (record two_given { tidiness = Packed }) ≡ two_given
one_that_waited = refl

three_more : part_with_marks 3 two_given ≡ record { given = 5; tidiness = Untidy; waste = 64 }
three_more = refl

none_more : part_with_marks 0 two_given ≡ two_given
none_more = refl

-- both ends of a range belong to it
abbrev some_range : KeyRange
some_range = record { from = record { 0 = negsuc 1 }; to = record { 0 = pos 5 } }

its_rows : filter (is_key_in some_range) (negsuc 2 ∷ negsuc 1 ∷ pos 0 ∷ pos 5 ∷ pos 6 ∷ []) ≡ negsuc 1 ∷ pos 0 ∷ pos 5 ∷ []
its_rows = refl
