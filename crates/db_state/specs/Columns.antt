-- The columns of a table by their names.
use Rattle.std.specs.Prelude.{ℕ, suc, List, [], ◌∷◌, Option, Some, None, ◌≡◌, codes, refl}
use Rattle.std.specs.Bool.{if◌then◌else◌}
use Rattle.ct_entry.specs.Keys.{same_list}
use Rattle.tb_table.specs.declared.columns.Column.{Column}
use Rattle.tb_table.specs.Rules.{has_column}
use Rattle.tb_table.specs.Tables.{docs_columns}

-- ---- columns

-- the place of a column by its name, that of the key being 0
abbrev pub place_from : ℕ → List ℕ → List Column → Option ℕ
place_from place name [] = None
place_from place name (c ∷ cs) = if same_list name c.name then Some place else place_from (suc place) name cs

abbrev pub column_place : List ℕ → List Column → Option ℕ
column_place name columns = place_from 0 name columns

-- the first of some names that is no column's
abbrev pub first_unknown : List (List ℕ) → List Column → Option (List ℕ)
first_unknown [] columns = None
first_unknown (name ∷ names) columns = if has_column name columns then first_unknown names columns else Some name

-- columns id, body, price
place_of_the_price : column_place (codes "price") docs_columns ≡ Some 2
place_of_the_price = refl

no_place : column_place (codes "pric") docs_columns ≡ None
no_place = refl

first_of_two_unknown : first_unknown (codes "body" ∷ codes "nope" ∷ codes "none" ∷ []) docs_columns ≡ Some (codes "nope")
first_of_two_unknown = refl
