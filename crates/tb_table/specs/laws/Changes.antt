-- What changes make of entries that spell tables: what statements make of the tables.
use Rattle.std.proofs.Common.{◌≡◌, ℕ, ℤ, zero, suc, ◌+◌, ◌<◌, Bool, true, false, cond, List, [], ◌∷◌, Option, Some, None, refl, sym, ap, ◌∙◌, arith}
use Rattle.std.specs.Prelude.{◌==◌, ◌&&◌}
use Rattle.std.specs.Option.{option_map, option_and_then, option_or}
use Rattle.std.specs.Ordering.{int_cmp, int_eq}
use Rattle.std.specs.FinMap.{get, insert, empty, get-empty}
use Rattle.std.proofs.lemmas.Bool.{eqb-true, eq-eqb, ne_eqb}
use Rattle.ct_base.specs.declared.lists.Value.{Value}
use Rattle.ct_base.specs.declared.lists.Value.TheVariants.{Number as NumberValue, Text as TextValue}
use Rattle.tb_table.specs.Promises.{NewTablesStand, NewRowsStand}
use Rattle.ct_entry.specs.declared.kinds.Kind.{Kind}
use Rattle.ct_entry.specs.declared.kinds.Kind.TheVariants as kind
use Rattle.ct_entry.specs.Keys.{Key, key, same_key, same_list, row_part, text_part, IsRow}
use Rattle.ct_entry.specs.Changes.{told, view, AllOf}
use Rattle.ct_entry.specs.laws.Keys.{list_from_same}
use Rattle.ct_entry.specs.laws.Parts.{rows_tie, texts_tie, same_kind, int_from_eq}
use Rattle.ct_entry.specs.laws.Maps.{get_name-insert, get_row-insert}
use Rattle.ct_entry.specs.laws.Changes.{told_frame}
use Rattle.tb_table.specs.declared.columns.Column.{Column}
use Rattle.tb_table.specs.Tables.{Table, Tables, row_in, row_at, numbers_of, as_text, text_in, text_in_column, texts_from, texts_of, with_table, with_row}
use Rattle.ct_entry.specs.Maps.{altered}
use Rattle.tb_table.specs.Spelling.{columns_bytes, row_numbers_bytes, TablesStand, table_changes, row_text_changes, insert_changes}

-- ---- the laws

-- ---- the kinds of tables

abbrev pub is_of_tables : Kind → Bool
is_of_tables kind.Tables = true
is_of_tables kind.RowNumbers = true
is_of_tables kind.RowTexts = true
is_of_tables k = false

abbrev pub is_of_texts : Kind → Bool
is_of_texts kind.RowTexts = true
is_of_texts k = false

pub all_create : (t : List ℕ) (columns : List Column) → AllOf is_of_tables (table_changes t columns)
all_create t columns = (refl, tt)

pub all_texts : (t : List ℕ) (r : ℤ) (texts : List (ℕ × List ℕ)) → AllOf is_of_texts (row_text_changes t r texts)
all_texts t r [] = tt
all_texts t r (x ∷ texts) = (refl, all_texts t r texts)

pub all_insert : (t : List ℕ) (r : ℤ) (numbers : List ℤ) (texts : List (ℕ × List ℕ)) → AllOf is_of_tables (insert_changes t r numbers texts)
all_insert t r numbers texts = (refl, each texts)
  where
    each : (texts : List (ℕ × List ℕ)) → AllOf is_of_tables (row_text_changes t r texts)
    each [] = tt
    each (x ∷ texts) = (refl, each texts)

-- only the entries of these kinds matter
pub tables_agree : (f g : Key → Option (List ℕ)) (ts : Tables) → ((k : Key) → is_of_tables k.kind ≡ true → g k ≡ f k) → TablesStand f ts → TablesStand g ts
tables_agree f g ts same stand = record {
  tables = λ t. same (key kind.Tables t []) refl ∙ stand.tables t;
  numbers = λ t r row. same (key kind.RowNumbers t (row_part r)) refl ∙ stand.numbers t r row;
  texts = λ t c r few row. same (key kind.RowTexts t (text_part c r)) refl ∙ stand.texts t c r few row;
}

-- changes on other kinds change nothing
pub tables_frame : (p : Kind → Bool) (ws : List (Key × Option (List ℕ))) (f : Key → Option (List ℕ)) (ts : Tables) → AllOf p ws → ((k : Kind) → is_of_tables k ≡ true → p k ≡ false) → TablesStand f ts → TablesStand (view ws f) ts
tables_frame p ws f ts all other stand = tables_agree f (view ws f) ts (λ k of. told_frame p ws k (f k) all (other k.kind of)) stand

-- ---- what changed tables have

abbrev new_table : List Column → Table
new_table columns = record { columns = columns; rows = empty }

pub get-with_table : (ts : Tables) (t : List ℕ) (columns : List Column) (q : List ℕ) → get (with_table ts t columns) q ≡ cond (same_list q t) (Some (record { columns = columns; rows = empty })) (get ts q)
get-with_table ts t columns q = get_name-insert ts t (new_table columns) q

-- a new table has no rows
pub row_at-with_table : (ts : Tables) (t : List ℕ) (columns : List Column) → get ts t ≡ None → (q : List ℕ) (s : ℤ) → row_at (with_table ts t columns) q s ≡ row_at ts q s
row_at-with_table ts t columns none q s = ap (λ (o : Option Table). row_in o s) (get-with_table ts t columns q) ∙ go (same_list q t) refl
  where
    go : (b : Bool) → same_list q t ≡ b → row_in (cond b (Some (new_table columns)) (get ts q)) s ≡ row_in (get ts q) s
    go true h = get-empty int_cmp s ∙ sym (ap (λ (o : Option Table). row_in o s) (ap (get ts) (list_from_same q t h) ∙ none))
    go false h = refl

abbrev more_rows : ℤ → List Value → Table → Table
more_rows r vs x = record x { rows = insert x.rows r vs }

pub get-with_row : (ts : Tables) (t : List ℕ) (r : ℤ) (vs : List Value) (x : Table) → get ts t ≡ Some x → (q : List ℕ) → get (with_row ts t r vs) q ≡ cond (same_list q t) (Some (record x { rows = insert x.rows r vs })) (get ts q)
get-with_row ts t r vs x is q = ap (λ (o : Option Table). get (altered ts t (more_rows r vs) o) q) is ∙ get_name-insert ts t (more_rows r vs x) q

-- the row is there now, and all others stay
pub row_at-with_row : (ts : Tables) (t : List ℕ) (r : ℤ) (vs : List Value) (x : Table) → get ts t ≡ Some x → (q : List ℕ) (s : ℤ)
    → row_at (with_row ts t r vs) q s ≡ cond (same_list q t) (cond (int_eq s r) (Some vs) (row_at ts q s)) (row_at ts q s)
row_at-with_row ts t r vs x is q s = ap (λ (o : Option Table). row_in o s) (get-with_row ts t r vs x is q) ∙ go (same_list q t) refl
  where
    go : (b : Bool) → same_list q t ≡ b → row_in (cond b (Some (more_rows r vs x)) (get ts q)) s ≡ cond b (cond (int_eq s r) (Some vs) (row_in (get ts q) s)) (row_in (get ts q) s)
    go true h =
        get_row-insert x.rows r vs s
        ∙ ap (λ (o : Option Table). cond (int_eq s r) (Some vs) (row_in o s)) (sym (ap (get ts) (list_from_same q t h) ∙ is))
    go false h = refl

-- the columns of all tables stay
pub columns-with_row : (ts : Tables) (t : List ℕ) (r : ℤ) (vs : List Value) (x : Table) → get ts t ≡ Some x → (q : List ℕ) → option_map (λ (y : Table). y.columns) (get (with_row ts t r vs) q) ≡ option_map (λ (y : Table). y.columns) (get ts q)
columns-with_row ts t r vs x is q = ap (option_map (λ (y : Table). y.columns)) (get-with_row ts t r vs x is q) ∙ go (same_list q t) refl
  where
    go : (b : Bool) → same_list q t ≡ b → option_map (λ (y : Table). y.columns) (cond b (Some (more_rows r vs x)) (get ts q)) ≡ option_map (λ (y : Table). y.columns) (get ts q)
    go true h = sym (ap (option_map (λ (y : Table). y.columns)) (ap (get ts) (list_from_same q t h) ∙ is))
    go false h = refl

pub spelt_columns : (o : Option Table) → option_map (λ (y : Table). columns_bytes y.columns) o ≡ option_map columns_bytes (option_map (λ (y : Table). y.columns) o)
spelt_columns None = refl
spelt_columns (Some y) = refl

-- ---- a new table

pub stand_create : NewTablesStand
stand_create f ts t columns none stand = record {
  tables = λ q.
      ap (cond (same_key (key kind.Tables q []) (key kind.Tables t [])) (Some (columns_bytes columns))) (stand.tables q)
      ∙ at_table (same_list q t) (get ts q)
      ∙ ap (option_map (λ (x : Table). columns_bytes x.columns)) (sym (get-with_table ts t columns q));
  numbers = λ q s row. stand.numbers q s row ∙ ap (option_map (λ vs. row_numbers_bytes (numbers_of vs))) (sym (row_at-with_table ts t columns none q s));
  texts = λ q c s few row. stand.texts q c s few row ∙ ap (option_and_then (λ vs. text_in_column vs c)) (sym (row_at-with_table ts t columns none q s));
}
  where
    at_table : (b : Bool) (o : Option Table) → cond (b && true) (Some (columns_bytes columns)) (option_map (λ (x : Table). columns_bytes x.columns) o) ≡ option_map (λ (x : Table). columns_bytes x.columns) (cond b (Some (new_table columns)) o)
    at_table true o = refl
    at_table false o = refl

-- ---- a new row

-- the text of a column, among values of which the first stands in `from`
abbrev text_from : ℕ → List Value → ℕ → Option (List ℕ)
text_from from [] c = None
text_from from (v ∷ vs) c = cond (c == from) (as_text v) (text_from (suc from) vs c)

text_from_passed : (from : ℕ) (vs : List Value) (c : ℕ) → c < from → text_from from vs c ≡ None
text_from_passed from [] c h = refl
text_from_passed from (v ∷ vs) c h =
    ap (λ (b : Bool). cond b (as_text v) (text_from (suc from) vs c)) (ne_eqb c from (λ e. omega arith)) ∙ text_from_passed (suc from) vs c (omega arith)

text_from_at : (from place : ℕ) (vs : List Value) → text_from from vs (place + from) ≡ text_in vs place
text_from_at from place [] = refl
text_from_at from zero (v ∷ vs) = ap (λ (b : Bool). cond b (as_text v) (text_from (suc from) vs (0 + from))) (eq-eqb (0 + from) from (omega arith))
text_from_at from (suc place) (v ∷ vs) =
    ap (λ (b : Bool). cond b (as_text v) (text_from (suc from) vs (suc place + from))) (ne_eqb (suc place + from) from (λ e. omega arith))
    ∙ ap (text_from (suc from) vs) (let e : suc place + from ≡ place + suc from = omega arith in e)
    ∙ text_from_at (suc from) place vs

text_from-text_of : (vs : List Value) (c : ℕ) → text_from 1 vs c ≡ text_in_column vs c
text_from-text_of vs zero = text_from_passed 1 vs 0 (omega arith)
text_from-text_of vs (suc place) = ap (text_from 1 vs) (let e : suc place ≡ place + 1 = omega arith in e) ∙ text_from_at 1 place vs

-- what a text's key has after changes for texts
told_texts : (t : List ℕ) (r : ℤ) (q : List ℕ) (c : ℕ) (s : ℤ) → IsRow r → IsRow s → (from : ℕ) (vs : List Value) (old : Option (List ℕ))
    → told (row_text_changes t r (texts_from from vs)) (key kind.RowTexts q (text_part c s)) old ≡ cond (same_list q t && int_eq s r) (option_or (text_from from vs c) old) old
told_texts t r q c s row here from [] old = neither (same_list q t && int_eq s r)
  where
    neither : (b : Bool) → old ≡ cond b old old
    neither true = refl
    neither false = refl
told_texts t r q c s row here from (NumberValue n ∷ vs) old =
    told_texts t r q c s row here (suc from) vs old
    ∙ ap (λ (o : Option (List ℕ)). cond (same_list q t && int_eq s r) (option_or o old) old) (passed (c == from) refl)
  where
    passed : (b : Bool) → (c == from) ≡ b → text_from (suc from) vs c ≡ cond b None (text_from (suc from) vs c)
    passed true e = let is : c ≡ from = eqb-true c from e in text_from_passed (suc from) vs c (omega arith)
    passed false e = refl
told_texts t r q c s row here from (TextValue text ∷ vs) old =
    told_texts t r q c s row here (suc from) vs (cond (same_key (key kind.RowTexts q (text_part c s)) (key kind.RowTexts t (text_part from r))) (Some text) old)
    ∙ ap (λ (b : Bool). cond (same_list q t && int_eq s r) (option_or (text_from (suc from) vs c) (cond b (Some text) old)) (cond b (Some text) old)) tie
    ∙ at_text (same_list q t) (int_eq s r) (c == from) refl
  where
    tie : same_key (key kind.RowTexts q (text_part c s)) (key kind.RowTexts t (text_part from r)) ≡ (same_list q t && ((c == from) && int_eq s r))
    tie = same_kind kind.RowTexts q t (text_part c s) (text_part from r) ∙ ap (λ (b : Bool). same_list q t && b) (texts_tie c from s r here row)

    at_text : (a b d : Bool) → (c == from) ≡ d
        → cond (a && b) (option_or (text_from (suc from) vs c) (cond (a && (d && b)) (Some text) old)) (cond (a && (d && b)) (Some text) old) ≡ cond (a && b) (option_or (cond d (Some text) (text_from (suc from) vs c)) old) old
    at_text true true true e = let is : c ≡ from = eqb-true c from e in ap (λ (o : Option (List ℕ)). option_or o (Some text)) (text_from_passed (suc from) vs c (omega arith))
    at_text true true false e = refl
    at_text true false true e = refl
    at_text true false false e = refl
    at_text false b d e = refl

-- a row that isn't there has no text in any column
no_row : (ts : Tables) (t : List ℕ) (r : ℤ) (x : Table) → get ts t ≡ Some x → get x.rows r ≡ None → row_at ts t r ≡ None
no_row ts t r x is none = ap (λ (o : Option Table). row_in o r) is ∙ none

-- the numbers and some texts of a row were put: the tables stand with the row where its texts do
pub row_stands : (f : Key → Option (List ℕ)) (ts : Tables) (t : List ℕ) (r : ℤ) (vs : List Value) (texts : List (ℕ × List ℕ)) (x : Table) → get ts t ≡ Some x → IsRow r → TablesStand f ts
    → ((q : List ℕ) (c : ℕ) (s : ℤ) → c < 256 → IsRow s
    → told (row_text_changes t r texts) (key kind.RowTexts q (text_part c s)) (f (key kind.RowTexts q (text_part c s))) ≡ option_and_then (λ ws. text_in_column ws c) (row_at (with_row ts t r vs) q s))
    → TablesStand (view (insert_changes t r (numbers_of vs) texts) f) (with_row ts t r vs)
row_stands f ts t r vs texts x is row stand each = record {
  tables = λ q.
      told_frame is_of_texts (row_text_changes t r texts) (key kind.Tables q []) (f (key kind.Tables q [])) (all_texts t r texts) refl
      ∙ stand.tables q ∙ spelt_columns (get ts q) ∙ ap (option_map columns_bytes) (sym (columns-with_row ts t r vs x is q)) ∙ sym (spelt_columns (get (with_row ts t r vs) q));
  numbers = λ q s here.
      told_frame is_of_texts (row_text_changes t r texts) (key kind.RowNumbers q (row_part s)) (cond (same_key (key kind.RowNumbers q (row_part s)) (key kind.RowNumbers t (row_part r))) (Some (row_numbers_bytes (numbers_of vs))) (f (key kind.RowNumbers q (row_part s)))) (all_texts t r texts) refl
      ∙ ap (cond (same_key (key kind.RowNumbers q (row_part s)) (key kind.RowNumbers t (row_part r))) (Some (row_numbers_bytes (numbers_of vs)))) (stand.numbers q s here)
      ∙ ap (λ (b : Bool). cond b (Some (row_numbers_bytes (numbers_of vs))) (option_map (λ ws. row_numbers_bytes (numbers_of ws)) (row_at ts q s))) (same_kind kind.RowNumbers q t (row_part s) (row_part r) ∙ ap (λ (b : Bool). same_list q t && b) (rows_tie s r here row))
      ∙ at_numbers (same_list q t) (int_eq s r) (row_at ts q s)
      ∙ ap (option_map (λ ws. row_numbers_bytes (numbers_of ws))) (sym (row_at-with_row ts t r vs x is q s));
  texts = each;
}
  where
    at_numbers : (a b : Bool) (old : Option (List Value)) → cond (a && b) (Some (row_numbers_bytes (numbers_of vs))) (option_map (λ ws. row_numbers_bytes (numbers_of ws)) old) ≡ option_map (λ ws. row_numbers_bytes (numbers_of ws)) (cond a (cond b (Some vs) old) old)
    at_numbers true true old = refl
    at_numbers true false old = refl
    at_numbers false b old = refl

pub stand_insert : NewRowsStand
stand_insert f ts t r vs x is none row stand = row_stands f ts t r vs (texts_of vs) x is row stand (λ q c s few here.
    told_texts t r q c s row here 1 vs (f (key kind.RowTexts q (text_part c s)))
    ∙ ap (λ (o : Option (List ℕ)). cond (same_list q t && int_eq s r) (option_or (text_from 1 vs c) o) o) (stand.texts q c s few here)
    ∙ ap (λ (o : Option (List ℕ)). cond (same_list q t && int_eq s r) (option_or o (option_and_then (λ ws. text_in_column ws c) (row_at ts q s))) (option_and_then (λ ws. text_in_column ws c) (row_at ts q s))) (text_from-text_of vs c)
    ∙ at_texts c (same_list q t) (int_eq s r) (row_at ts q s) (absent q s)
    ∙ ap (option_and_then (λ ws. text_in_column ws c)) (sym (row_at-with_row ts t r vs x is q s)))
  where
    absent : (q : List ℕ) (s : ℤ) → same_list q t ≡ true → int_eq s r ≡ true → row_at ts q s ≡ None
    absent q s a b = ap (λ (o : List ℕ). row_at ts o s) (list_from_same q t a) ∙ ap (row_at ts t) (int_from_eq s r b) ∙ no_row ts t r x is none

    or_none : (o : Option (List ℕ)) → option_or o None ≡ o
    or_none None = refl
    or_none (Some y) = refl

    at_texts : (c : ℕ) (a b : Bool) (old : Option (List Value)) → (a ≡ true → b ≡ true → old ≡ None)
        → cond (a && b) (option_or (text_in_column vs c) (option_and_then (λ ws. text_in_column ws c) old)) (option_and_then (λ ws. text_in_column ws c) old) ≡ option_and_then (λ ws. text_in_column ws c) (cond a (cond b (Some vs) old) old)
    at_texts c true true old gone = ap (λ (o : Option (List Value)). option_or (text_in_column vs c) (option_and_then (λ ws. text_in_column ws c) o)) (gone refl refl) ∙ or_none (text_in_column vs c)
    at_texts c true false old gone = refl
    at_texts c false b old gone = refl
