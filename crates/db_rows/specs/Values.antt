-- The values of a row, by the places and the names of their columns.
use Rattle.std.specs.Prelude.{ℕ, ℤ, pos, zero, suc, List, [], ◌∷◌, Option, Some, None, codes, ◌≡◌, refl}
use Rattle.ct_base.specs.declared.lists.Value.{Value}
use Rattle.ct_base.specs.declared.lists.Value.TheVariants.{Number, Text}
use Rattle.tb_table.specs.declared.columns.Column.{Column}
use Rattle.tb_table.specs.Tables.{Tables, row_at, docs_columns, docs_alone, row_one}
use Rattle.db_state.specs.Columns.{column_place}
use Rattle.std.proofs.Common.{ap}

-- the value at a place of a row with this key and these other values, the place of the key being 0
abbrev pub value_at : ℤ → List Value → ℕ → Option Value
value_at r vs zero = Some (Number r)
value_at r [] (suc place) = None
value_at r (v ∷ vs) (suc zero) = Some v
value_at r (v ∷ vs) (suc (suc place)) = value_at r vs (suc place)

abbrev pub at_place : ℤ → List Value → Option ℕ → Option Value
at_place r vs None = None
at_place r vs (Some place) = value_at r vs place

-- the value of the column with this name
abbrev pub value_of_column : List Column → ℤ → List Value → List ℕ → Option Value
value_of_column columns r vs name = at_place r vs (column_place name columns)

-- the values of a row behind its key; none where the row isn't there
abbrev pub values_behind_key : Option (List Value) → List Value
values_behind_key None = []
values_behind_key (Some vs) = vs

abbrev pub row_values : Tables → List ℕ → ℤ → List Value
row_values ts t r = values_behind_key (row_at ts t r)

-- computed examples: of a table with the columns id, body and price, the row 7 of a text and a number
abbrev seven : List ℕ → Option Value
seven name = value_of_column docs_columns (pos 7) (Text (codes "fox") ∷ Number (pos 30) ∷ []) name

its_key : seven (codes "id") ≡ Some (Number (pos 7))
its_key = refl

its_text : seven (codes "body") ≡ Some (Text (codes "fox"))
its_text = refl

its_number : seven (codes "price") ≡ Some (Number (pos 30))
its_number = refl

no_such_column : seven (codes "title") ≡ None
no_such_column = refl

-- a row that isn't there has no value but its key
no_value : value_of_column docs_columns (pos 7) (values_behind_key None) (codes "price") ≡ None
no_value = refl

in_the_table : row_values docs_alone (codes "docs") (pos 1) ≡ Text (codes "quick fox quick") ∷ Number (pos 0) ∷ []
in_the_table = ap values_behind_key row_one
