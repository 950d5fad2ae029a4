-- The rows that meet conditions: each is in the table, and none is met twice.
use Rattle.std.proofs.Common.{◌≡◌, ℕ, ℤ, Bool, true, false, cond, List, [], ◌∷◌, map, Option, Some, refl, ap, ◌∙◌}
use Rattle.std.specs.Prelude.{filter, is_some}
use Rattle.std.specs.Ordering.{int_cmp, is_lt}
use Rattle.std.specs.FinMap.{get, entries}
use Rattle.std.proofs.lemmas.Bool.{and_parts, and_from}
use Rattle.std.proofs.lemmas.Cmp.{int_cmp_total}
use Rattle.ct_base.specs.declared.lists.Value.{Value}
use Rattle.ct_keep.specs.laws.RisingKeys.{below, rises, entries_rise}
use Rattle.ct_entry.specs.Lists.{IsIn, AreApart}
use Rattle.ct_entry.specs.laws.Lists.{in_map, in_filter}
use Rattle.ct_entry.specs.laws.MapEntries.{in_get}
use Rattle.ct_entry.specs.laws.Rows.{keys_below, keys_rise_by}
use Rattle.st_parse.specs.declared.statements.Cond.{Cond}
use Rattle.tb_table.specs.Tables.{Table, Tables, row_at, row_in}
use Rattle.ix_kinds.specs.laws.Turns.{rising_apart}
use Rattle.db_rows.specs.Meeting.{row_meets, meeting, meeting_keys}

-- ---- entries that pass a test have keys that rise

keys_below-filter : {X : Type 0} (p : ℤ × X → Bool) (k : ℤ) (es : List (ℤ × X)) → below int_cmp k es ≡ true → keys_below int_cmp k (map (λ e. e.0) (filter p es)) ≡ true
keys_below-filter p k [] h = refl
keys_below-filter {X} p k (e ∷ es) h = let b = and_parts (is_lt (int_cmp k e.0)) (below int_cmp k es) h in go (p e) b.0 (keys_below-filter p k es b.1)
  where
    go : (b : Bool) → is_lt (int_cmp k e.0) ≡ true → keys_below int_cmp k (map (λ (e : ℤ × X). e.0) (filter p es)) ≡ true
        → keys_below int_cmp k (map (λ (e : ℤ × X). e.0) (cond b (e ∷ filter p es) (filter p es))) ≡ true
    go true less rest = and_from _ _ less rest
    go false less rest = rest

keys_rise_by-filter : {X : Type 0} (p : ℤ × X → Bool) (es : List (ℤ × X)) → rises int_cmp es ≡ true → keys_rise_by int_cmp (map (λ e. e.0) (filter p es)) ≡ true
keys_rise_by-filter p [] h = refl
keys_rise_by-filter {X} p (e ∷ es) h = let b = and_parts (below int_cmp e.0 es) (rises int_cmp es) h in go (p e) (keys_below-filter p e.0 es b.0) (keys_rise_by-filter p es b.1)
  where
    go : (b : Bool) → keys_below int_cmp e.0 (map (λ (e : ℤ × X). e.0) (filter p es)) ≡ true
        → keys_rise_by int_cmp (map (λ (e : ℤ × X). e.0) (filter p es)) ≡ true
        → keys_rise_by int_cmp (map (λ (e : ℤ × X). e.0) (cond b (e ∷ filter p es) (filter p es))) ≡ true
    go true less rest = and_from _ _ less rest
    go false less rest = rest

-- ---- the rows of a table

pub met_apart : (x : Table) (conds : List Cond) → AreApart (meeting_keys x conds)
met_apart x conds = rising_apart (meeting_keys x conds) (keys_rise_by-filter (λ e. row_meets x.columns conds e.0 e.1) (entries x.rows) (entries_rise int_cmp x.rows))

pub met_there : (ts : Tables) (t : List ℕ) (x : Table) (conds : List Cond) → get ts t ≡ Some x → (r : ℤ) → IsIn r (meeting_keys x conds) → is_some (row_at ts t r) ≡ true
met_there ts t x conds here r among =
    let found = in_map (λ (e : ℤ × List Value). e.0) r (meeting x conds) among in
    let listed = in_filter (λ (e : ℤ × List Value). row_meets x.columns conds e.0 e.1) found.0 (entries x.rows) found.1 in
    ap (λ (o : Option Table). is_some (row_in o r)) here
    ∙ ap (λ (s : ℤ). is_some (get x.rows s)) found.2
    ∙ ap is_some (in_get int_cmp_total x.rows found.0 listed.0)
