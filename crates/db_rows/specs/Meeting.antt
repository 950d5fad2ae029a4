-- Which rows of a table meet conditions.
use Rattle.std.specs.Prelude.{ℕ, ℤ, pos, negsuc, ◌≡◌, Bool, true, false, List, [], ◌∷◌, map, filter, Option, Some, None, codes, refl}
use Rattle.std.specs.List.{list_all}
use Rattle.std.specs.Ordering.{int_cmp}
use Rattle.std.specs.FinMap.{get, entries, entries-from_sorted}
use Rattle.std.proofs.Common.{ap}
use Rattle.ct_base.specs.declared.lists.Value.{Value}
use Rattle.ct_base.specs.declared.lists.Value.TheVariants.{Number as NumberValue, Text as TextValue}
use Rattle.st_parse.specs.declared.statements.Operand.TheVariants.{Text, Number}
use Rattle.st_parse.specs.declared.statements.Whole.TheVariants.{Fits}
use Rattle.st_parse.specs.declared.statements.Compare.TheVariants.{Equal, Less, AtLeast}
use Rattle.st_parse.specs.declared.statements.Cond.{Cond}
use Rattle.st_parse.specs.declared.statements.Cond.TheVariants.{Compare, Between, OneOf}
use Rattle.tb_table.specs.declared.columns.Column.{Column}
use Rattle.tb_table.specs.Tables.{Table, docs_columns, docs_rows, docs_table}
use Rattle.db_cond.specs.Conditions.{holds}
use Rattle.db_rows.specs.Values.{value_of_column, values_behind_key}
use Rattle.db_rows.specs.Checking.{cond_column}

-- the condition holds of the value; where there is none, it doesn't
abbrev pub holds_of : Cond → Option Value → Bool
holds_of cond None = false
holds_of cond (Some value) = holds cond value

-- each condition holds of the value in its column, of a row with this key and these other values
abbrev pub row_meets : List Column → List Cond → ℤ → List Value → Bool
row_meets columns conds r vs = list_all (λ cond. holds_of cond (value_of_column columns r vs (cond_column cond))) conds

-- the same of the row of a table with this key
abbrev pub key_meets : Table → List Cond → ℤ → Bool
key_meets x conds r = row_meets x.columns conds r (values_behind_key (get x.rows r))

-- the rows of a table that meet all conditions, in order of their keys
abbrev pub meeting : Table → List Cond → List (ℤ × List Value)
meeting x conds = filter (λ e. row_meets x.columns conds e.0 e.1) (entries x.rows)

abbrev pub meeting_keys : Table → List Cond → List ℤ
meeting_keys x conds = map (λ e. e.0) (meeting x conds)

-- computed examples: a table `docs` with the columns id, body and price, and the rows 1 `quick fox quick` of price 0, and 2 `slow` of price -1
abbrev price_below : ℤ → Cond
price_below n = Compare (codes "price") Less (Number (Fits n))

abbrev id_from : ℤ → Cond
id_from n = Compare (codes "id") AtLeast (Number (Fits n))

abbrev body_is : List ℕ → Cond
body_is text = Compare (codes "body") Equal (Text text)

both_hold : row_meets docs_columns (id_from (pos 2) ∷ price_below (pos 0) ∷ []) (pos 2) (TextValue (codes "slow") ∷ NumberValue (negsuc 0) ∷ []) ≡ true
both_hold = refl

-- all have to hold
the_last_does_not : row_meets docs_columns (id_from (pos 2) ∷ price_below (pos 0) ∷ body_is (codes "quick") ∷ []) (pos 2) (TextValue (codes "slow") ∷ NumberValue (negsuc 0) ∷ []) ≡ false
the_last_does_not = refl

no_such_column : row_meets docs_columns (Compare (codes "title") Equal (Text (codes "slow")) ∷ []) (pos 2) (TextValue (codes "slow") ∷ NumberValue (negsuc 0) ∷ []) ≡ false
no_such_column = refl

keys_among_docs : (conds : List Cond) → meeting_keys docs_table conds ≡ map (λ e. e.0) (filter (λ e. row_meets docs_columns conds e.0 e.1) docs_rows)
keys_among_docs conds = ap (λ (es : List (ℤ × List Value)). map (λ e. e.0) (filter (λ e. row_meets docs_columns conds e.0 e.1) es)) (entries-from_sorted int_cmp docs_rows tt)

all_rows : meeting_keys docs_table [] ≡ pos 1 ∷ pos 2 ∷ []
all_rows = keys_among_docs []

below_zero : meeting_keys docs_table (price_below (pos 0) ∷ []) ≡ pos 2 ∷ []
below_zero = keys_among_docs (price_below (pos 0) ∷ [])

below_one : meeting_keys docs_table (price_below (pos 1) ∷ []) ≡ pos 1 ∷ pos 2 ∷ []
below_one = keys_among_docs (price_below (pos 1) ∷ [])

by_text_and_key : meeting_keys docs_table (OneOf (codes "body") (Text (codes "slow") ∷ Text (codes "quick fox quick") ∷ []) ∷ Between (codes "id") (Number (Fits (negsuc 0))) (Number (Fits (pos 1))) ∷ []) ≡ pos 1 ∷ []
by_text_and_key = keys_among_docs (OneOf (codes "body") (Text (codes "slow") ∷ Text (codes "quick fox quick") ∷ []) ∷ Between (codes "id") (Number (Fits (negsuc 0))) (Number (Fits (pos 1))) ∷ [])
