-- The next key of a table.
use Rattle.std.proofs.Common.{◌≡◌, ◌<ℤ◌, ℤ, true, List, [], Option, Some, None, refl, sym, ap, ◌∙◌, arith}
use Rattle.std.proofs.lemmas.Int.{ints}
use Rattle.std.specs.List.{list_all}
use Rattle.std.specs.Ordering.{int_cmp, is_lt}
use Rattle.std.specs.FinMap.{get, entries}
use Rattle.ct_keep.specs.Content.{Content}
use Rattle.ct_keep.specs.laws.RisingKeys.{entries_rise}
use Rattle.ct_entry.specs.declared.kinds.Kind.TheVariants as kind
use Rattle.ct_entry.specs.Listings.{first_of, rows_above, row_after}
use Rattle.ct_entry.specs.laws.Rows.{IsPlace}
use Rattle.tb_table.specs.Tables.{Table, Tables, keys_in, row_keys}
use Rattle.tb_table.specs.laws.Reading.{next_read}
use Rattle.db_state.specs.States.{StoreState, StandsForState}
use Rattle.db_rows.proofs.Walks.{none_at_all, none_within}

pub next_of : (m : StoreState) (c : Content) → StandsForState c m → (t : List _) (after : Option ℤ) → IsPlace after → (next : Option ℤ)
    → next ≡ row_after after kind.RowNumbers t c → next ≡ first_of (rows_above after (row_keys m.tables t))
next_of m c stands t after place next is = is ∙ next_read c m.tables stands.only stands.tables stands.state.tables t after place

over : (g r : ℤ) → g <ℤ r → is_lt (int_cmp g r) ≡ true
over g r p = grind (arith, ints)

-- where there is none, and where it is greater than the greatest
pub none_next : (keys : List ℤ) (after : Option ℤ) (g : ℤ) → None ≡ first_of (rows_above after keys) → list_all (λ r. is_lt (int_cmp g r)) (rows_above after keys) ≡ true
none_next keys after g none = none_at_all (rows_above after keys) g (sym none)

pub far_next : (ts : Tables) (t : List _) (after : Option ℤ) (g r : ℤ) → Some r ≡ first_of (rows_above after (row_keys ts t)) → g <ℤ r
    → list_all (λ r. is_lt (int_cmp g r)) (rows_above after (row_keys ts t)) ≡ true
far_next ts t after g r is high = go (get ts t) is
  where
    go : (o : Option Table) → Some r ≡ first_of (rows_above after (keys_in o)) → list_all (λ r. is_lt (int_cmp g r)) (rows_above after (keys_in o)) ≡ true
    go None is = ap (list_all (λ r. is_lt (int_cmp g r))) (none_above after)
      where
        none_above : (after : Option ℤ) → rows_above after [] ≡ []
        none_above None = refl
        none_above (Some a) = refl
    go (Some x) is = none_within after g (entries x.rows) r (entries_rise int_cmp x.rows) (sym is) (over g r high)
