-- Steps of making a new catalogue.
use Rattle.std.proofs.Common.{◌≡◌, ℕ, ℤ, Bool, true, false, List, [], ◌∷◌, ◌++◌, map, Option, Some, None, refl, sym, ap, ◌∙◌, append_assoc}
use Rattle.std.specs.Prelude.{◌||◌, is_some}
use Rattle.std.specs.List.{list_any}
use Rattle.std.specs.Ordering.{int_cmp, int_eq}
use Rattle.std.specs.FinMap.{get, get-empty, contains_key-keys}
use Rattle.std.specs.Option.{option_map}
use Rattle.std.proofs.lemmas.Option.{same_Some}
use Rattle.ct_base.specs.declared.lists.Value.{Value}
use Rattle.ct_base.specs.declared.numbers.RowKey.{RowKey}
use Rattle.ct_entry.specs.Changes.{spell}
use Rattle.ct_entry.specs.laws.Changes.{spell-append}
use Rattle.ct_entry.specs.laws.Maps.{entries-none}
use Rattle.ct_entry.specs.laws.Parts.{int_same}
use Rattle.tb_table.specs.declared.columns.Column.{Column}
use Rattle.tb_table.specs.Tables.{Table, Tables, text_in_column, keys_in, row_keys}
use Rattle.tb_table.specs.Rules.{others}
use Rattle.tx_settings.specs.declared.preferences.Prefs.{Prefs}
use Rattle.ix_kinds.specs.Rows.{row_keys_of, table_at, table_or_none}
use Rattle.ix_kinds.specs.Indextypes.{IndexOf}
use Rattle.cat_index.specs.declared.catalogues.Catalogue.{Catalogue}
use Rattle.cat_index.specs.Filings.{filing_by}
use Rattle.cat_index.specs.Catalogues.{CatalogueBody, filing, filing_of, value_at}
use Rattle.cat_index.specs.Changes.{filing_changes, rows_come}
use Rattle.cat_index.specs.Kind.{as_index, create_changes}
use Rattle.cat_index.specs.Sees.{AreThere}
use Rattle.cat_index.specs.Spelling.{catalogue_change}

-- ---- rows that come

-- the changes of the next row
pub next_row : (i : List ℕ) (y : IndexOf CatalogueBody) (x : Table) (r : RowKey) (rs : List RowKey) (old mid whole : List (List ℕ × Option (List ℕ))) (rows : List RowKey) → rows ≡ r ∷ rs
    → is_some (get x.rows r.0) ≡ true → ((vs : List Value) → get x.rows r.0 ≡ Some vs → mid ≡ old ++ spell (filing_changes i r.0 (filing y r.0 vs) true))
    → old ++ spell (rows_come i y x (map (λ (k : RowKey). k.0) rows)) ≡ whole → mid ++ spell (rows_come i y x (map (λ (k : RowKey). k.0) rs)) ≡ whole
next_row i y x r rs old mid whole rows are there added all = go (get x.rows r.0) refl there
  where
    go : (o : Option (List Value)) → get x.rows r.0 ≡ o → is_some o ≡ true → mid ++ spell (rows_come i y x (map (λ (k : RowKey). k.0) rs)) ≡ whole
    go None is some = cc
    go (Some vs) is some =
        ap (λ (b : List (List ℕ × Option (List ℕ))). b ++ spell (rows_come i y x (map (λ (k : RowKey). k.0) rs))) (added vs is)
        ∙ append_assoc old (spell (filing_changes i r.0 (filing y r.0 vs) true)) (spell (rows_come i y x (map (λ (k : RowKey). k.0) rs)))
        ∙ ap (λ (b : List (List ℕ × Option (List ℕ))). old ++ b)
        (sym (spell-append (filing_changes i r.0 (filing y r.0 vs) true) (rows_come i y x (map (λ (k : RowKey). k.0) rs)))
        ∙ ap (λ (q : Option (List Value)). spell (filing_changes i r.0 (filing_of y r.0 q) true ++ rows_come i y x (map (λ (k : RowKey). k.0) rs))) (sym is))
        ∙ ap (λ (l : List RowKey). old ++ spell (rows_come i y x (map (λ (k : RowKey). k.0) l))) (sym are)
        ∙ all

-- ---- the rows of a table

pub keys_of_table : (ts : Tables) (t : List ℕ) → row_keys ts t ≡ row_keys_of (table_at ts t)
keys_of_table ts t = go (get ts t)
  where
    go : (o : Option Table) → keys_in o ≡ row_keys_of (table_or_none o)
    go None = sym (ap (λ (es : List (ℤ × List Value)). map (λ e. e.0) es) (entries-none int_cmp))
    go (Some x) = refl

-- the rows that are listed are there
pub listed_there : (x : Table) (rows : List RowKey) → map (λ (k : RowKey). k.0) rows ≡ row_keys_of x → AreThere x rows
listed_there x rows are = each rows (λ r there. contains_key-keys x.rows r ∙ ap (list_any (int_eq r)) (sym are) ∙ there)
  where
    later : (a b : Bool) → b ≡ true → (a || b) ≡ true
    later true b h = refl
    later false b h = h

    each : (rs : List RowKey) → ((r : ℤ) → list_any (int_eq r) (map (λ (k : RowKey). k.0) rs) ≡ true → is_some (get x.rows r) ≡ true) → AreThere x rs
    each [] all = tt
    each (r ∷ rs) all = (
      all r.0 (ap (λ (b : Bool). b || list_any (int_eq r.0) (map (λ (k : RowKey). k.0) rs)) (int_same r.0)),
      each rs (λ q there. all q (later (int_eq q r.0) (list_any (int_eq q) (map (λ (k : RowKey). k.0) rs)) there)),
    )

-- a row of a table is of one that is there
pub table_there : (ts : Tables) (t : List ℕ) (r : ℤ) → is_some (get (table_at ts t).rows r) ≡ true → get ts t ≡ Some (table_at ts t)
table_there ts t r there = go (get ts t) there
  where
    go : (o : Option Table) → is_some (get (table_or_none o).rows r) ≡ true → o ≡ Some (table_or_none o)
    go None is = let wrong : false ≡ true = sym (ap is_some (get-empty int_cmp r)) ∙ is in cc
    go (Some x) is = refl

-- what is filed of a row that was read
pub row_filed : (prefs : Prefs) (column : ℕ) (r : ℤ) (read vs : List Value) (places others : List (List ℕ)) → read ≡ vs → places ≡ others
    → filing_by prefs (text_in_column read column) (map (map (value_at r read)) places) ≡ filing_by prefs (text_in_column vs column) (map (map (value_at r vs)) others)
row_filed prefs column r read vs places others values same = λ j. filing_by prefs (text_in_column (values j) column) (map (map (value_at r (values j))) (same j))

-- the columns that were read
pub some_columns : (ts : Tables) (t : List ℕ) (cs : List Column) → Some cs ≡ option_map (λ (x : Table). x.columns) (get ts t) → cs ≡ (table_at ts t).columns
some_columns ts t cs is = go (get ts t) is
  where
    go : (o : Option Table) → Some cs ≡ option_map (λ (x : Table). x.columns) o → cs ≡ (table_or_none o).columns
    go None is = cc
    go (Some x) is = same_Some _ _ is

pub no_columns : (ts : Tables) (t : List ℕ) → None ≡ option_map (λ (x : Table). x.columns) (get ts t) → [] ≡ (table_at ts t).columns
no_columns ts t is = go (get ts t) is
  where
    go : (o : Option Table) → None ≡ option_map (λ (x : Table). x.columns) o → [] ≡ (table_or_none o).columns
    go None is = refl
    go (Some x) is = cc

-- ---- all changes

pub created_added : (i : List ℕ) (t : Table) (columns : List Column) (x : Catalogue) (rows : List RowKey) (old mid new : List (List ℕ × Option (List ℕ))) → columns ≡ t.columns → map (λ (k : RowKey). k.0) rows ≡ row_keys_of t
    → old ≡ [] → mid ≡ old ++ spell (catalogue_change i x ∷ []) → new ≡ mid ++ spell (rows_come i (as_index columns x) t (map (λ (k : RowKey). k.0) rows)) → new ≡ spell (create_changes t i (as_index t.columns x))
created_added i t columns x rows old mid new same listed none first then_ =
    then_
    ∙ ap (λ (b : List (List ℕ × Option (List ℕ))). b ++ spell (rows_come i (as_index columns x) t (map (λ (k : RowKey). k.0) rows))) (first ∙ ap (λ (b : List (List ℕ × Option (List ℕ))). b ++ spell (catalogue_change i x ∷ [])) none)
    ∙ λ j. spell (catalogue_change i x ∷ []) ++ spell (rows_come i (as_index (same j) x) t (listed j))
