-- Tables and their rows.
use Rattle.std.specs.Prelude.{ℕ, ℤ, zero, suc, List, [], ◌∷◌, map, Option, Some, None, pos, negsuc, ◌≡◌, ◌==◌, codes, refl}
use Rattle.std.specs.Bool.{if◌then◌else◌}
use Rattle.std.specs.Option.{option_or}
use Rattle.std.specs.Ordering.{nat_cmp, int_cmp}
use Rattle.std.specs.Cmp.Lexicographic.{slice_cmp}
use Rattle.std.specs.FinMap.{FinMap, get, insert, remove, empty, entries, from_sorted, get-from_sorted, entries-from_sorted, get-insert, get-remove}
use Rattle.ct_base.specs.declared.lists.Value.{Value}
use Rattle.ct_base.specs.declared.lists.Value.TheVariants.{Number, Text}
use Rattle.tb_table.specs.declared.columns.Column.{Column}
use Rattle.std.proofs.Common.{Bool, sym, ap, ◌∙◌, arith}
use Rattle.std.proofs.lemmas.Bool.{ne_eqb}
use Rattle.std.proofs.lemmas.Cmp.{nat_list_cmp_total, int_cmp_total}
use Rattle.ct_entry.specs.Maps.{altered, alter}
use Rattle.tb_table.specs.declared.columns.Sort.TheVariants.{Number as NumberSort, Clob}

-- a table: its columns, of which the first is the key, and its rows by their keys, each with the values of the other columns in their order
pub record Table : Type 0 where
  pub columns : List Column
  pub rows : FinMap int_cmp (List Value)

-- the tables by their names
abbrev pub Tables : Type 0
Tables = FinMap (slice_cmp nat_cmp) Table

abbrev pub row_in : Option Table → ℤ → Option (List Value)
row_in None r = None
row_in (Some x) r = get x.rows r

-- the values of a row, where the table is there and has it
abbrev pub row_at : Tables → List ℕ → ℤ → Option (List Value)
row_at ts t r = row_in (get ts t) r

-- the numbers of a row, in the order of their columns
abbrev pub numbers_of : List Value → List ℤ
numbers_of [] = []
numbers_of (Number n ∷ vs) = n ∷ numbers_of vs
numbers_of (Text text ∷ vs) = numbers_of vs

abbrev pub as_text : Value → Option (List ℕ)
as_text (Number n) = None
as_text (Text text) = Some text

-- the text at a place of the values, counted from 0, where one stands there
abbrev pub text_in : List Value → ℕ → Option (List ℕ)
text_in [] place = None
text_in (v ∷ vs) zero = as_text v
text_in (v ∷ vs) (suc place) = text_in vs place

-- the text of a column, that of the key being the column 0
abbrev pub text_in_column : List Value → ℕ → Option (List ℕ)
text_in_column vs zero = None
text_in_column vs (suc place) = text_in vs place

-- the texts of values of which the first stands in this column, each with its column
abbrev pub texts_from : ℕ → List Value → List (ℕ × List ℕ)
texts_from column [] = []
texts_from column (Number n ∷ vs) = texts_from (suc column) vs
texts_from column (Text text ∷ vs) = (column, text) ∷ texts_from (suc column) vs

-- the texts of a row, each with its column
abbrev pub texts_of : List Value → List (ℕ × List ℕ)
texts_of vs = texts_from 1 vs

abbrev pub keys_in : Option Table → List ℤ
keys_in None = []
keys_in (Some x) = map (λ e. e.0) (entries x.rows)

-- the keys of a table's rows, in order; none where the table isn't there
abbrev pub row_keys : Tables → List ℕ → List ℤ
row_keys ts t = keys_in (get ts t)

-- ---- new values of a row

-- the text that is given for a column, among texts that come with their columns: the last of them counts
abbrev pub given_text : ℕ → List (ℕ × List ℕ) → Option (List ℕ)
given_text column [] = None
given_text column (x ∷ texts) = option_or (given_text column texts) (if column == x.0 then Some x.1 else None)

-- These texts make the texts of the one row those of the other.
pub record IsUpdate (texts : List (ℕ × List ℕ)) (old new : List Value) : Type 0 where
  -- the text that is given for a column is the new one
  pub given : (column : ℕ) (text : List ℕ) → given_text column texts ≡ Some text → text_in_column new column ≡ Some text
  -- a column for which none is given has the text that it had, or none as before
  pub others : (column : ℕ) → given_text column texts ≡ None → text_in_column new column ≡ text_in_column old column

-- ---- what statements make of the tables

abbrev pub with_table : Tables → List ℕ → List Column → Tables
with_table ts t columns = insert ts t (record { columns = columns; rows = empty })

-- with this row; one of the same key is replaced
abbrev pub with_row : Tables → List ℕ → ℤ → List Value → Tables
with_row ts t r vs = alter ts t (λ (x : Table). record x { rows = insert x.rows r vs })

-- without this row, if it is there
abbrev pub without_row : Tables → List ℕ → ℤ → Tables
without_row ts t r = alter ts t (λ (x : Table). record x { rows = remove x.rows r })

abbrev pub without_table : Tables → List ℕ → Tables
without_table ts t = remove ts t

-- computed examples: a table `docs` of a number, a text and a number, with two rows
abbrev pub docs_columns : List Column
docs_columns = record { name = codes "id"; sort = NumberSort } ∷ record { name = codes "body"; sort = Clob } ∷ record { name = codes "price"; sort = NumberSort } ∷ []

abbrev pub docs_rows : List (ℤ × List Value)
docs_rows = (pos 1, Text (codes "quick fox quick") ∷ Number (pos 0) ∷ []) ∷ (pos 2, Text (codes "slow") ∷ Number (negsuc 0) ∷ []) ∷ []

abbrev pub docs_table : Table
docs_table = record { columns = docs_columns; rows = from_sorted docs_rows }

abbrev pub docs_alone : Tables
docs_alone = from_sorted ((codes "docs", docs_table) ∷ [])

pub docs_there : get docs_alone (codes "docs") ≡ Some docs_table
docs_there = get-from_sorted (slice_cmp nat_cmp) ((codes "docs", docs_table) ∷ []) (codes "docs") tt

pub row_one : row_at docs_alone (codes "docs") (pos 1) ≡ Some (Text (codes "quick fox quick") ∷ Number (pos 0) ∷ [])
row_one = ap (λ (o : Option Table). row_in o (pos 1)) docs_there ∙ get-from_sorted int_cmp docs_rows (pos 1) tt

no_row_three : row_at docs_alone (codes "docs") (pos 3) ≡ None
no_row_three = ap (λ (o : Option Table). row_in o (pos 3)) docs_there ∙ get-from_sorted int_cmp docs_rows (pos 3) tt

no_other_table : row_at docs_alone (codes "doc") (pos 1) ≡ None
no_other_table = ap (λ (o : Option Table). row_in o (pos 1)) (get-from_sorted (slice_cmp nat_cmp) ((codes "docs", docs_table) ∷ []) (codes "doc") tt)

both_keys : row_keys docs_alone (codes "docs") ≡ pos 1 ∷ pos 2 ∷ []
both_keys = ap keys_in docs_there ∙ ap (λ (es : List (ℤ × List Value)). map (λ e. e.0) es) (entries-from_sorted int_cmp docs_rows tt)

-- a new row is there
row_three : (vs : List Value) → row_at (with_row docs_alone (codes "docs") (pos 3) vs) (codes "docs") (pos 3) ≡ Some vs
row_three vs =
    ap (λ (o : Option Table). row_at (altered docs_alone (codes "docs") (λ (x : Table). record x { rows = insert x.rows (pos 3) vs }) o) (codes "docs") (pos 3)) docs_there
    ∙ ap (λ (o : Option Table). row_in o (pos 3)) (get-insert nat_list_cmp_total docs_alone (codes "docs") (record docs_table { rows = insert docs_table.rows (pos 3) vs }) (codes "docs"))
    ∙ get-insert int_cmp_total docs_table.rows (pos 3) vs (pos 3)

-- a row that was there is gone, and the other one isn't
row_two_gone : row_at (without_row docs_alone (codes "docs") (pos 2)) (codes "docs") (pos 2) ≡ None
row_two_gone =
    ap (λ (o : Option Table). row_at (altered docs_alone (codes "docs") (λ (x : Table). record x { rows = remove x.rows (pos 2) }) o) (codes "docs") (pos 2)) docs_there
    ∙ ap (λ (o : Option Table). row_in o (pos 2)) (get-insert nat_list_cmp_total docs_alone (codes "docs") (record docs_table { rows = remove docs_table.rows (pos 2) }) (codes "docs"))
    ∙ get-remove int_cmp_total docs_table.rows (pos 2) (pos 2)

row_one_left : row_at (without_row docs_alone (codes "docs") (pos 2)) (codes "docs") (pos 1) ≡ Some (Text (codes "quick fox quick") ∷ Number (pos 0) ∷ [])
row_one_left =
    ap (λ (o : Option Table). row_at (altered docs_alone (codes "docs") (λ (x : Table). record x { rows = remove x.rows (pos 2) }) o) (codes "docs") (pos 1)) docs_there
    ∙ ap (λ (o : Option Table). row_in o (pos 1)) (get-insert nat_list_cmp_total docs_alone (codes "docs") (record docs_table { rows = remove docs_table.rows (pos 2) }) (codes "docs"))
    ∙ get-remove int_cmp_total docs_table.rows (pos 2) (pos 1)
    ∙ get-from_sorted int_cmp docs_rows (pos 1) tt

no_table_left : get (without_table docs_alone (codes "docs")) (codes "docs") ≡ None
no_table_left = get-remove nat_list_cmp_total docs_alone (codes "docs") (codes "docs")

abbrev mixed_row : List Value
mixed_row = Text (codes "a b") ∷ Number (pos 7) ∷ Text [] ∷ []

its_numbers : numbers_of mixed_row ≡ pos 7 ∷ []
its_numbers = refl

-- after the key, which is the column 0
its_texts : texts_of mixed_row ≡ (1, codes "a b") ∷ (3, []) ∷ []
its_texts = refl

an_empty_text : text_in_column mixed_row 3 ≡ Some []
an_empty_text = refl

no_text_of_a_number : text_in_column mixed_row 2 ≡ None
no_text_of_a_number = refl

no_text_of_the_key : text_in_column mixed_row 0 ≡ None
no_text_of_the_key = refl

-- of two texts for a column the last counts
the_last_given : given_text 3 ((3, codes "a") ∷ (1, codes "b") ∷ (3, codes "c") ∷ []) ≡ Some (codes "c")
the_last_given = refl

none_given : given_text 2 ((3, codes "a") ∷ (1, codes "b") ∷ []) ≡ None
none_given = refl

abbrev updated_row : List Value
updated_row = Text (codes "c d") ∷ Number (pos 9) ∷ Text [] ∷ []

-- the first text of the row is given, and the other one stays
an_update : IsUpdate ((1, codes "c d") ∷ []) mixed_row updated_row
an_update = record { given = given; others = others }
  where
    later : (place : ℕ) → given_text (suc (suc place)) ((1, codes "c d") ∷ []) ≡ None
    later place = ap (λ (b : Bool). if b then Some (codes "c d") else None) (ne_eqb (suc (suc place)) 1 (λ e. omega arith))

    given : (column : ℕ) (text : List ℕ) → given_text column ((1, codes "c d") ∷ []) ≡ Some text → text_in_column updated_row column ≡ Some text
    given zero text is = cc
    given (suc zero) text is = is
    given (suc (suc place)) text is = let wrong : None ≡ Some text = sym (later place) ∙ is in cc

    others : (column : ℕ) → given_text column ((1, codes "c d") ∷ []) ≡ None → text_in_column updated_row column ≡ text_in_column mixed_row column
    others zero is = refl
    others (suc zero) is = cc
    others (suc (suc zero)) is = refl
    others (suc (suc (suc place))) is = refl
