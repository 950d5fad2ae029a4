-- The keys of a table, one after the other.
use Rattle.std.specs.Prelude.{ℤ, pos, ◌≡◌, ◌≤ℤ◌, ℕ, Bool, true, false, not, List, [], ◌∷◌, ◌++◌, map, Option, Some, None, Result, IfOk, refl}
use Rattle.std.specs.Bool.{if◌then◌else◌}
use Rattle.std.specs.List.{list_all}
use Rattle.std.specs.Ordering.{int_cmp, is_lt}
use Rattle.std.proofs.Common.{arith}
use Rattle.std.proofs.lemmas.Int.{ints}
use Rattle.ct_base.specs.declared.numbers.RowKey.{RowKey}
use Rattle.ct_keep.specs.declared.keepers.KeepFault.{KeepFault}
use Rattle.ct_keep.specs.Content.{Content}
use Rattle.ct_keep.specs.KeeperViews.{Counts}
use Rattle.ct_keep.specs.Looks.{next_looks}
use Rattle.ct_entry.specs.declared.kinds.Kind.TheVariants.{RowNumbers}
use Rattle.ct_entry.specs.Keys.{prefix_of}
use Rattle.ct_entry.specs.Lists.{EachIs}
use Rattle.ct_entry.specs.Listings.{first_of, number_of, rows_above, start_after}
use Rattle.tb_table.specs.Tables.{Table, Tables, row_keys}
use Rattle.ct_entry.specs.laws.Rows.{IsPlace}
use Rattle.st_parse.specs.declared.statements.Cond.{Cond}
use Rattle.db_rows.specs.Bounds.{IsWithinBounds}
use Rattle.db_rows.specs.Meeting.{key_meets}
use Rattle.db_rows.specs.Reading.{IsOwn}
use Rattle.db_rows.specs.declared.bounds.KeyBounds.{KeyBounds}
use Rattle.db_rows.specs.declared.walking.MetRow.{MetRow}

-- above a key, or anywhere
abbrev pub is_above : Option ℤ → ℤ → Bool
is_above None r = true
is_above (Some a) r = is_lt (int_cmp a r)

-- whether all that is above is greater than this
abbrev pub is_past_greatest : Option ℤ → ℤ → Bool
is_past_greatest None greatest = false
is_past_greatest (Some a) greatest = not (is_lt (int_cmp a greatest))

-- what lies within is above
abbrev pub IsStart : KeyBounds → Option ℤ → Type 0
IsStart b after = (r : ℤ) → IsWithinBounds b r → is_above after r ≡ true

-- The next key after one, where it is at most the greatest; or each that is left is greater.
abbrev pub IsNext : Option ℤ → ℤ → List ℤ → Option ℤ → Type 0
IsNext after greatest keys (Some r) = (first_of (rows_above after keys) ≡ Some r) × (r ≤ℤ greatest)
IsNext after greatest keys None = list_all (λ r. is_lt (int_cmp greatest r)) (rows_above after keys) ≡ true

-- A call that didn't fail found the next key of the table after a place, up to the greatest.
abbrev pub FindsNext : Tables → List ℕ → Option ℤ → ℤ → Result (Option RowKey) KeepFault → Type 0
FindsNext ts t after greatest result = IsPlace after → IfOk result (λ row. IsNext after greatest (row_keys ts t) (number_of row))

-- the look-ups for the next key of a table after a place
abbrev pub next_row_looks : List ℕ → Option RowKey → Content → Counts
next_row_looks table after m = next_looks (prefix_of RowNumbers table ++ start_after after) m

-- a row comes behind the rows before, if it meets the conditions
abbrev pub with_met : {T : Type 0} → Bool → T → List T → List T
with_met met row rows = rows ++ (if met then row ∷ [] else [])

-- ---- the rows that meet conditions

abbrev pub met_keys : List MetRow → List RowKey
met_keys rows = map (λ row. row.key) rows

abbrev pub met_numbers : List MetRow → List ℤ
met_numbers rows = map (λ key. key.0) (met_keys rows)

-- what was read of each of them is its own
abbrev pub AreOwn : Tables → List ℕ → List MetRow → Type 0
AreOwn ts t rows = EachIs (λ row. IsOwn ts t row.key row.read) rows

-- The key of a row is added to those before, if the row of this table meets the conditions.
abbrev pub AddsIfMet : Table → List Cond → RowKey → List MetRow → List MetRow → Type 0
AddsIfMet x conds key old new = met_keys new ≡ with_met (key_meets x conds key.0) key (met_keys old)

-- computed examples: up to 7, and then of the keys 3, 5 and 9, after 3
past_the_greatest : is_past_greatest (Some (pos 7)) (pos 7) ≡ true
past_the_greatest = refl

not_past : is_past_greatest (Some (pos 6)) (pos 7) ≡ false
not_past = refl

not_above_itself : is_above (Some (pos 3)) (pos 3) ≡ false
not_above_itself = refl

the_second : IsNext (Some (pos 3)) (pos 5) (pos 3 ∷ pos 5 ∷ pos 9 ∷ []) (Some (pos 5))
the_second = (refl, omega (arith, ints))

with_one_met : with_met true (pos 5) (pos 3 ∷ []) ≡ pos 3 ∷ pos 5 ∷ []
with_one_met = refl

none_is_left : IsNext (Some (pos 3)) (pos 4) (pos 3 ∷ pos 5 ∷ pos 9 ∷ []) None
none_is_left = refl
