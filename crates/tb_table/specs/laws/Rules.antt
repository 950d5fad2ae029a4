-- New tables and rows keep the rules, and so do new values of a row and removals.
use Rattle.std.proofs.Common.{◌≡◌, ℕ, ℤ, ◌+◌, ◌-◌, ◌≤◌, Bool, true, false, cond, List, length, Option, Some, None, refl, sym, ap, subst, ◌∙◌, arith, zero, suc, [], ◌∷◌}
use Rattle.std.specs.Prelude.{is_some}
use Rattle.std.specs.declared.cmp.Ordering.{Ordering}
use Rattle.std.specs.Cmp.{IsTotalOrder}
use Rattle.std.specs.Ordering.{int_cmp, int_eq}
use Rattle.std.proofs.lemmas.Cmp.{nat_list_cmp_total, int_cmp_total}
use Rattle.std.specs.Option.{option_map}
use Rattle.std.specs.FinMap.{FinMap, get, insert, remove, entries, empty, len, len-insert, len-remove, len-entries, len-empty, get-empty, contains_key}
use Rattle.std.proofs.lemmas.Option.{same_Some}
use Rattle.ct_base.specs.Names.{IsName}
use Rattle.ct_base.specs.declared.lists.Value.{Value}
use Rattle.ct_base.specs.Limits.{row_limit, table_limit, text_limit}
use Rattle.ct_base.specs.laws.Options.{option_map_some}
use Rattle.ct_base.specs.declared.lists.Value.TheVariants.{Number as NumberValue, Text as TextValue}
use Rattle.tb_table.specs.declared.columns.Sort.TheVariants.{Number, Varchar2, Clob}
use Rattle.tb_table.specs.declared.columns.Sort.{Sort}
use Rattle.tb_table.specs.Promises.{NewTablesKeepTheRules, NewRowsKeepTheRules, UpdatedRowsKeepTheRules, DeletedRowsKeepTheRules, RemovedTablesKeepTheRules}
use Rattle.ct_entry.specs.Keys.{same_list, IsRow}
use Rattle.ct_entry.specs.laws.Keys.{list_from_same}
use Rattle.ct_entry.specs.laws.Parts.{int_from_eq}
use Rattle.ct_entry.specs.laws.Maps.{get_row-insert, get_row-remove, get_name-remove}
use Rattle.tb_table.specs.declared.columns.Column.{Column}
use Rattle.tb_table.specs.Tables.{Table, Tables, text_in, text_in_column, as_text, with_row}
use Rattle.ct_entry.specs.Maps.{altered}
use Rattle.tb_table.specs.Rules.{FitColumns, AreColumns, others, IsTable, AreTables, AllColumns, HasAllowedSize, IsOfSort}
use Rattle.tb_table.specs.laws.Changes.{get-with_table, get-with_row}
use Rattle.tb_table.specs.laws.Removals.{fewer_rows, get-without_row}

-- ---- the laws

-- ---- how many entries

module _ {K X : Type 0} {R : K → K → Ordering} (total : IsTotalOrder R) where
  -- an insertion adds one at most
  pub length-insert_le : (m : FinMap R X) (k : K) (v : X) → length (entries (insert m k v)) ≤ length (entries m) + 1
  length-insert_le m k v =
      let after = sym (len-entries (insert m k v)) ∙ len-insert total m k v in
      let before = len-entries m in
      let few = at_most (contains_key m k) (len m) in
      omega (arith, after, before, few)
    where
      at_most : (b : Bool) (n : ℕ) → cond b n (n + 1) ≤ n + 1
      at_most true n = omega arith
      at_most false n = omega arith

  -- and none where the key is there
  pub length-insert_there : (m : FinMap R X) (k : K) (v x : X) → get m k ≡ Some x → length (entries (insert m k v)) ≡ length (entries m)
  length-insert_there m k v x is = sym (len-entries (insert m k v)) ∙ len-insert total m k v ∙ ap (λ (b : Bool). cond b (len m) (len m + 1)) (ap is_some is) ∙ len-entries m

  -- a removal adds none
  pub length-remove_le : (m : FinMap R X) (k : K) → length (entries (remove m k)) ≤ length (entries m)
  length-remove_le m k =
      let after = sym (len-entries (remove m k)) ∙ len-remove total m k in
      let before = len-entries m in
      let few = at_most (contains_key m k) (len m) in
      omega (arith, after, before, few)
    where
      at_most : (b : Bool) (n : ℕ) → cond b (n - 1) n ≤ n
      at_most true n = omega arith
      at_most false n = omega arith

-- ---- a new table

new_is_table : (columns : List Column) → AreColumns columns → IsTable (record { columns = columns; rows = empty })
new_is_table columns are = record {
  columns = are;
  keys = λ r vs e. absurd (nothing r vs e);
  rows = λ r vs e. absurd (nothing r vs e);
  few = let none = sym (len-entries (empty {X = List Value} {R = int_cmp})) ∙ len-empty int_cmp (List Value) in omega (arith, none);
}
  where
    nothing : (r : ℤ) (vs : List Value) → get (empty {X = List Value} {R = int_cmp}) r ≡ Some vs → ⊥
    nothing r vs e = let wrong : None ≡ Some vs = sym (get-empty int_cmp r) ∙ e in cc

pub create_keeps : NewTablesKeepTheRules
create_keeps ts t columns are name cs room = record {
  names = λ q y is. named q y (same_list q t) refl (sym (get-with_table ts t columns q) ∙ is);
  each = λ q y is. table q y (same_list q t) (sym (get-with_table ts t columns q) ∙ is);
  few = let l = length-insert_le nat_list_cmp_total ts t (record { columns = columns; rows = empty }) in omega (arith, l);
}
  where
    named : (q : List ℕ) (y : Table) (b : Bool) → same_list q t ≡ b → cond b (Some (record { columns = columns; rows = empty })) (get ts q) ≡ Some y → IsName q
    named q y true h is = subst IsName (sym (list_from_same q t h)) name
    named q y false h is = are.names q y is

    table : (q : List ℕ) (y : Table) (b : Bool) → cond b (Some (record { columns = columns; rows = empty })) (get ts q) ≡ Some y → IsTable y
    table q y true is = subst IsTable (same_Some _ y is) (new_is_table columns cs)
    table q y false is = are.each q y is

-- ---- a new row

with_row_is_table : (x : Table) (r : ℤ) (vs : List Value) → IsTable x → IsRow r → FitColumns (others x.columns) vs → length (entries (insert x.rows r vs)) ≤ row_limit → IsTable (record x { rows = insert x.rows r vs })
with_row_is_table x r vs is row fit few = record {
  columns = is.columns;
  keys = λ s ws e. key_of s ws (int_eq s r) refl (sym (get_row-insert x.rows r vs s) ∙ e);
  rows = λ s ws e. fits s ws (int_eq s r) (sym (get_row-insert x.rows r vs s) ∙ e);
  few = few;
}
  where
    key_of : (s : ℤ) (ws : List Value) (b : Bool) → int_eq s r ≡ b → cond b (Some vs) (get x.rows s) ≡ Some ws → IsRow s
    key_of s ws true h e = subst IsRow (sym (int_from_eq s r h)) row
    key_of s ws false h e = is.keys s ws e

    fits : (s : ℤ) (ws : List Value) (b : Bool) → cond b (Some vs) (get x.rows s) ≡ Some ws → FitColumns (others x.columns) ws
    fits s ws true e = subst (FitColumns (others x.columns)) (same_Some vs ws e) fit
    fits s ws false e = is.rows s ws e

with_row_keeps : (ts : Tables) (t : List ℕ) (r : ℤ) (vs : List Value) (x : Table) → AreTables ts → get ts t ≡ Some x → IsRow r → FitColumns (others x.columns) vs → length (entries (insert x.rows r vs)) ≤ row_limit → AreTables (with_row ts t r vs)
with_row_keeps ts t r vs x are is row fit few = record {
  names = λ q y e. named q y (same_list q t) refl (sym (get-with_row ts t r vs x is q) ∙ e);
  each = λ q y e. table q y (same_list q t) (sym (get-with_row ts t r vs x is q) ∙ e);
  few =
      let l = ap (λ (o : Option Table). length (entries (altered ts t (λ (y : Table). record y { rows = insert y.rows r vs }) o))) is ∙ length-insert_there nat_list_cmp_total ts t (record x { rows = insert x.rows r vs }) x is in
      let few = are.few in
      omega (arith, l);
}
  where
    named : (q : List ℕ) (y : Table) (b : Bool) → same_list q t ≡ b → cond b (Some (record x { rows = insert x.rows r vs })) (get ts q) ≡ Some y → IsName q
    named q y true h e = subst IsName (sym (list_from_same q t h)) (are.names t x is)
    named q y false h e = are.names q y e

    table : (q : List ℕ) (y : Table) (b : Bool) → cond b (Some (record x { rows = insert x.rows r vs })) (get ts q) ≡ Some y → IsTable y
    table q y true e = subst IsTable (same_Some _ y e) (with_row_is_table x r vs (are.each t x is) row fit few)
    table q y false e = are.each q y e

pub insert_keeps : NewRowsKeepTheRules
insert_keeps ts t r vs x are is row fit room = with_row_keeps ts t r vs x are is row fit (let l = length-insert_le int_cmp_total x.rows r vs in omega (arith, l))

-- ---- new values of a row

pub update_keeps : UpdatedRowsKeepTheRules
update_keeps ts t r old new x are is there fit =
    let table = are.each t x is in
    let same = length-insert_there int_cmp_total x.rows r new old there in
    with_row_keeps ts t r new x are is (table.keys r old there) fit (let few = table.few in omega (arith, same, few))

-- ---- a row less

without_row_is_table : (r : ℤ) (x : Table) → IsTable x → IsTable (record x { rows = remove x.rows r })
without_row_is_table r x is = record {
  columns = is.columns;
  keys = λ s ws e. is.keys s ws (left s ws (int_eq s r) (sym (get_row-remove x.rows r s) ∙ e));
  rows = λ s ws e. is.rows s ws (left s ws (int_eq s r) (sym (get_row-remove x.rows r s) ∙ e));
  few = let l = length-remove_le int_cmp_total x.rows r in let few = is.few in omega (arith, l, few);
}
  where
    left : (s : ℤ) (ws : List Value) (b : Bool) → cond b None (get x.rows s) ≡ Some ws → get x.rows s ≡ Some ws
    left s ws true e = cc
    left s ws false e = e

pub delete_keeps : DeletedRowsKeepTheRules
delete_keeps ts t r are = record {
  names = λ q y e. named q y (same_list q t) (sym (get-without_row ts t r q) ∙ e);
  each = λ q y e. table q y (same_list q t) (sym (get-without_row ts t r q) ∙ e);
  few = count (get ts t) refl;
}
  where
    named : (q : List ℕ) (y : Table) (b : Bool) → cond b (option_map (fewer_rows r) (get ts q)) (get ts q) ≡ Some y → IsName q
    named q y true e = let x = option_map_some (fewer_rows r) (get ts q) y e in are.names q x.0 x.1
    named q y false e = are.names q y e

    table : (q : List ℕ) (y : Table) (b : Bool) → cond b (option_map (fewer_rows r) (get ts q)) (get ts q) ≡ Some y → IsTable y
    table q y true e = let x = option_map_some (fewer_rows r) (get ts q) y e in subst IsTable x.2 (without_row_is_table r x.0 (are.each q x.0 x.1))
    table q y false e = are.each q y e

    count : (o : Option Table) → get ts t ≡ o → length (entries (altered ts t (fewer_rows r) o)) ≤ table_limit
    count None is = are.few
    count (Some x) is = let l = length-insert_there nat_list_cmp_total ts t (fewer_rows r x) x is in let few = are.few in omega (arith, l, few)

-- ---- a table less

pub remove_keeps : RemovedTablesKeepTheRules
remove_keeps ts t are = record {
  names = λ q y e. are.names q y (left q y (same_list q t) (sym (get_name-remove ts t q) ∙ e));
  each = λ q y e. are.each q y (left q y (same_list q t) (sym (get_name-remove ts t q) ∙ e));
  few = let l = length-remove_le nat_list_cmp_total ts t in let few = are.few in omega (arith, l, few);
}
  where
    left : (q : List ℕ) (y : Table) (b : Bool) → cond b None (get ts q) ≡ Some y → get ts q ≡ Some y
    left q y true e = cc
    left q y false e = e

-- ---- how long texts are

-- the columns but the key are columns too
pub all_others : (cs : List Column) → AllColumns cs → AllColumns (others cs)
all_others [] are = tt
all_others (c ∷ cs) are = are.2

pub short_value : (s : Sort) (v : Value) (text : List ℕ) → HasAllowedSize s → IsOfSort s v → as_text v ≡ Some text → length text ≤ text_limit
short_value s (NumberValue n) text sort fits is = cc
short_value Number (TextValue t) text sort fits is = absurd fits
short_value (Varchar2 size) (TextValue t) text sort fits is = let e : t ≡ text = cc in omega (arith, ap length e, sort.1, fits.0)
short_value Clob (TextValue t) text sort fits is = let e : t ≡ text = cc in omega (arith, ap length e, fits.0)

pub short_text : (cs : List Column) (vs : List Value) (place : ℕ) (text : List ℕ) → AllColumns cs → FitColumns cs vs → text_in vs place ≡ Some text → length text ≤ text_limit
short_text cs [] place text are fit is = cc
short_text [] (v ∷ vs) place text are fit is = absurd fit
short_text (c ∷ cs) (v ∷ vs) zero text are fit is = short_value c.sort v text are.1 fit.0 is
short_text (c ∷ cs) (v ∷ vs) (suc place) text are fit is = short_text cs vs place text are.2 fit.1 is

-- the text of a column of a row
pub short_column : (cs : List Column) (vs : List Value) (column : ℕ) (text : List ℕ) → AllColumns cs → FitColumns (others cs) vs → text_in_column vs column ≡ Some text → length text ≤ text_limit
short_column cs vs zero text are fit is = cc
short_column cs vs (suc place) text are fit is = short_text (others cs) vs place text (all_others cs are) fit is
