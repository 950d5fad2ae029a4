-- A walk over the rows of a table, for those that meet conditions.
use Rattle.std.proofs.Common.{◌≡◌, ◌≤ℤ◌, ℕ, ℤ, Bool, true, false, List, [], ◌∷◌, ◌++◌, map, Option, Some, refl, sym, ap, subst, ◌∙◌}
use Rattle.std.specs.Bool.{if◌then◌else◌}
use Rattle.std.specs.List.{list_all, AllByRecursion}
use Rattle.std.specs.Ordering.{int_cmp, is_lt}
use Rattle.std.specs.FinMap.{get, entries, get-entries}
use Rattle.std.proofs.lemmas.Cmp.{int_cmp_total}
use Rattle.std.proofs.lemmas.List.{map-append}
use Rattle.ct_base.specs.declared.lists.Value.{Value}
use Rattle.ct_base.specs.declared.numbers.RowKey.{RowKey}
use Rattle.ct_keep.specs.laws.RisingKeys.{entries_rise}
use Rattle.ct_keep.specs.laws.FoundKeys.{found_listed}
use Rattle.ct_entry.specs.Keys.{IsRow}
use Rattle.ct_entry.specs.Listings.{first_of, rows_above}
use Rattle.st_parse.specs.declared.statements.Cond.{Cond}
use Rattle.tb_table.specs.declared.columns.Column.{Column}
use Rattle.tb_table.specs.Tables.{Table, Tables, keys_in, row_keys}
use Rattle.tb_table.specs.Rules.{IsTable}
use Rattle.db_rows.specs.Values.{values_behind_key}
use Rattle.db_rows.specs.Meeting.{row_meets, key_meets, meeting_keys}
use Rattle.db_rows.specs.Bounds.{IsWithinBounds, BoundRows, meets_by}
use Rattle.db_rows.specs.Walking.{IsStart, is_above}
use Rattle.db_rows.specs.declared.bounds.KeyBounds.{KeyBounds}
use Rattle.db_rows.proofs.MeetSteps.{meets_read}
use Rattle.db_rows.proofs.Walks.{left, keys_left, IsFirst, first_left, IsWalked, walk_begins, walk_step, walk_ends}

all_weaker : {X : Type 0} (P Q : X → Type 0) → ((x : X) → P x → Q x) → (xs : List X) → AllByRecursion P xs → AllByRecursion Q xs
all_weaker P Q weaker [] all = tt
all_weaker P Q weaker (x ∷ xs) all = (weaker x all.0, all_weaker P Q weaker xs all.1)

module _ (x : Table) (conds : List Cond) where
  -- whether an entry of the table meets the conditions
  abbrev pub entry_meets : ℤ × List Value → Bool
  entry_meets e = row_meets x.columns conds e.0 e.1

  has_read : IsTable x → (r : ℤ) (vs : List Value) → get x.rows r ≡ Some vs → row_meets x.columns conds r vs ≡ meets_by x.columns conds r vs
  has_read is r vs here = subst (λ (o : Option (List Value)). row_meets x.columns conds r (values_behind_key o) ≡ meets_by x.columns conds r (values_behind_key o)) here (meets_read x is conds r)

  within_bounds : IsTable x → (columns : List Column) → x.columns ≡ columns → (b : KeyBounds) → BoundRows columns conds b
      → AllByRecursion (λ e. entry_meets e ≡ true → IsWithinBounds b e.0) (entries x.rows)
  within_bounds is columns same b bounds =
      found_listed int_cmp int_cmp_total (λ e. entry_meets e ≡ true → IsWithinBounds b e.0) (entries x.rows) (entries_rise int_cmp x.rows)
      (λ r vs found. let here = get-entries x.rows r ∙ found in λ met.
      bounds r vs (is.keys r vs here) (ap (λ (cs : List Column). meets_by cs conds r vs) (sym same) ∙ sym (has_read is r vs here) ∙ met))

  pub table_begins : IsTable x → (columns : List Column) → x.columns ≡ columns → (b : KeyBounds) → BoundRows columns conds b → (after : Option ℤ)
      → IsStart b after → (rows : List RowKey) → rows ≡ [] → IsWalked entry_meets (entries x.rows) after (map (λ row. row.0) rows)
  table_begins is columns same b bounds after start rows none =
      subst (λ (rows : List RowKey). IsWalked entry_meets (entries x.rows) after (map (λ row. row.0) rows)) (sym none)
      (walk_begins entry_meets (entries x.rows) after
      (all_weaker (λ e. entry_meets e ≡ true → IsWithinBounds b e.0) (λ e. entry_meets e ≡ true → is_above after e.0 ≡ true) (λ e within met. start e.0 (within met)) (entries x.rows) (within_bounds is columns same b bounds)))

  keys_are : (ts : Tables) (t : List ℕ) (after : Option ℤ) → get ts t ≡ Some x → rows_above after (row_keys ts t) ≡ map (λ e. e.0) (left after (entries x.rows))
  keys_are ts t after here = ap (λ (o : Option Table). rows_above after (keys_in o)) here ∙ keys_left after (entries x.rows)

  pub next_entry : (ts : Tables) (t : List ℕ) (after : Option ℤ) (r : ℤ) → get ts t ≡ Some x → first_of (rows_above after (row_keys ts t)) ≡ Some r → IsFirst after (entries x.rows) r
  next_entry ts t after r here next = first_left after (entries x.rows) r (entries_rise int_cmp x.rows) (ap first_of (sym (keys_are ts t after here)) ∙ next)

  pub entry_is_row : IsTable x → (after : Option ℤ) (r : ℤ) → IsFirst after (entries x.rows) r → IsRow r
  entry_is_row is after r first = is.keys r first.value (get-entries x.rows r ∙ first.found)

  shown : (b : Bool) (row : RowKey) → map (λ (row : RowKey). row.0) (if b then row ∷ [] else []) ≡ (if b then row.0 ∷ [] else [])
  shown true row = refl
  shown false row = refl

  pub table_step : (after : Option ℤ) (row : RowKey) (rows more : List RowKey) → IsFirst after (entries x.rows) row.0
      → IsWalked entry_meets (entries x.rows) after (map (λ row. row.0) rows) → more ≡ rows ++ (if key_meets x conds row.0 then row ∷ [] else [])
      → IsWalked entry_meets (entries x.rows) (Some row.0) (map (λ row. row.0) more)
  table_step after row rows more first walked pushed =
      let met = key_meets x conds row.0 in
      walk_step entry_meets (entries x.rows) after (map (λ row. row.0) rows) (map (λ row. row.0) more) row.0 met walked first
      (ap (λ (o : Option (List Value)). row_meets x.columns conds row.0 (values_behind_key o)) (get-entries x.rows row.0 ∙ first.found))
      (ap (map (λ (row : RowKey). row.0)) pushed ∙ map-append (λ (row : RowKey). row.0) rows (if met then row ∷ [] else []) ∙ ap (λ (l : List ℤ). map (λ (row : RowKey). row.0) rows ++ l) (shown met row))

  pub table_ends : IsTable x → (columns : List Column) → x.columns ≡ columns → (b : KeyBounds) → BoundRows columns conds b
      → (ts : Tables) (t : List ℕ) (after : Option ℤ) (rows : List RowKey) → get ts t ≡ Some x
      → IsWalked entry_meets (entries x.rows) after (map (λ row. row.0) rows)
      → list_all (λ r. is_lt (int_cmp b.greatest.0 r)) (rows_above after (row_keys ts t)) ≡ true → map (λ row. row.0) rows ≡ meeting_keys x conds
  table_ends is columns same b bounds ts t after rows here walked over =
      walk_ends entry_meets (entries x.rows) after (map (λ row. row.0) rows) b.greatest.0 walked
      (all_weaker (λ e. entry_meets e ≡ true → IsWithinBounds b e.0) (λ e. entry_meets e ≡ true → e.0 ≤ℤ b.greatest.0) (λ e within met. (within met).high) (entries x.rows) (within_bounds is columns same b bounds))
      (ap (list_all (λ r. is_lt (int_cmp b.greatest.0 r))) (sym (keys_are ts t after here)) ∙ over)
