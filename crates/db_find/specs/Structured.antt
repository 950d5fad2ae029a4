-- What the structured query of a CATSEARCH asks for, and why a catalogue refuses it.
use Rattle.std.specs.Prelude.{ℕ, pos, ◌≡◌, Bool, true, false, List, [], ◌∷◌, ◌++◌, map, Option, Some, None, codes, refl}
use Rattle.std.specs.Bool.{if◌then◌else◌}
use Rattle.std.specs.List.{list_any}
use Rattle.std.specs.Option.{option_or}
use Rattle.std.specs.Str.{chars}
use Rattle.ct_entry.specs.Keys.{same_list}
use Rattle.st_parse.specs.declared.statements.Compare.TheVariants.{Less}
use Rattle.st_parse.specs.declared.statements.Cond.{Cond}
use Rattle.st_parse.specs.declared.statements.Cond.TheVariants.{Compare}
use Rattle.st_parse.specs.declared.statements.Item.{Item}
use Rattle.st_parse.specs.declared.statements.Item.TheVariants.{Column as ColumnItem, Score}
use Rattle.st_parse.specs.declared.statements.Operand.TheVariants.{Number, Text}
use Rattle.st_parse.specs.declared.statements.Whole.{Whole}
use Rattle.st_parse.specs.declared.statements.Whole.TheVariants.{Fits}
use Rattle.tb_table.specs.declared.columns.Column.{Column}
use Rattle.tb_table.specs.Tables.{docs_columns}
use Rattle.cat_where.specs.declared.stages.Where.{Where}
use Rattle.cat_where.specs.Grammar.{order_by}
use Rattle.cat_where.specs.Verdicts.{Verdict, Found, OutOfRange, Syntax, verdict}
use Rattle.cat_index.specs.Catalogues.{docs_names}
use Rattle.db_cond.specs.Faults.{Refusal, InNoSubIndex, QueryNumber, QuerySyntax, WrongValues, refusal_line}
use Rattle.db_rows.specs.Checking.{cond_column, fits_cond}
use Rattle.db_find.specs.declared.structured.Structured.{Structured}
use Rattle.db_find.specs.declared.structured.Structured.TheVariants.{Refused, Asks}
use Rattle.db_find.specs.Searches.{Search, Contains, Matches, search_structured}

-- ---- what it asks for

abbrev pub nothing_asked : Where
nothing_asked = record { conds = []; orders = [] }

-- a text that is no structured query asks for nothing
abbrev pub where_found : Verdict → Where
where_found (Found w) = w
where_found (OutOfRange place) = nothing_asked
where_found (Syntax place) = nothing_asked

-- WHAT A SEARCH ASKS OF ROWS beside their text: the conditions and the order of its structured query. CONTAINS and MATCHES ask for nothing.
abbrev pub asked_where : Search → Where
asked_where s = where_found (verdict (chars (search_structured s)))

-- ---- why it is refused

-- as a text
abbrev pub text_refusal : Verdict → Option Refusal
text_refusal (Found w) = None
text_refusal (OutOfRange place) = Some (QueryNumber place)
text_refusal (Syntax place) = Some (QuerySyntax place)

-- one of the sub-indexes has the column
abbrev pub is_in_sub_index : List (List (List ℕ)) → List ℕ → Bool
is_in_sub_index subs name = list_any (list_any (same_list name)) subs

-- by its columns: a condition is on one that a sub-index has, and compares its values with such as it has; rows are ordered by such ones too
abbrev pub cond_refusal : List Column → List (List (List ℕ)) → Cond → Option Refusal
cond_refusal columns subs cond = if is_in_sub_index subs (cond_column cond) then (if fits_cond columns cond then None else Some WrongValues) else Some (InNoSubIndex (cond_column cond))

abbrev pub item_refusal : List (List (List ℕ)) → Item → Option Refusal
item_refusal subs (ColumnItem name) = if is_in_sub_index subs name then None else Some (InNoSubIndex name)
-- the grammar of structured queries has no SCORE
item_refusal subs (Score label) = None

abbrev pub first_refusal : List (Option Refusal) → Option Refusal
first_refusal [] = None
first_refusal (o ∷ os) = option_or o (first_refusal os)

-- the first in the text: the order stands behind the conditions
abbrev pub columns_refusal : List Column → List (List (List ℕ)) → Where → Option Refusal
columns_refusal columns subs w = first_refusal (map (cond_refusal columns subs) w.conds ++ map (λ o. item_refusal subs o.item) w.orders)

-- WHY A STRUCTURED QUERY IS REFUSED, if it is, by a catalogue with these sub-indexes on a table with these columns
abbrev pub structured_refusal : List Column → List (List (List ℕ)) → Verdict → Option Refusal
structured_refusal columns subs v = option_or (text_refusal v) (columns_refusal columns subs (where_found v))

-- ---- as code holds it

-- it is refused so
abbrev pub IsRefused : Structured → Refusal → Type 0
IsRefused (Refused line) r = line.items ≡ refusal_line r
IsRefused (Asks asked) r = ⊥

-- the line of its refusal, or what it asks for
abbrev pub MeansStructured : Structured → Option Refusal → Where → Type 0
MeansStructured (Refused line) refusal w = (r : Refusal) × ((refusal ≡ Some r) × (line.items ≡ refusal_line r))
MeansStructured (Asks asked) refusal w = (refusal ≡ None) × (asked ≡ w)

-- CONTAINS asks for nothing beside its text.
pub contains_asks_nothing : (column query : List ℕ) (label : Option Whole) (above : Whole) → asked_where (Contains column query label above) ≡ nothing_asked
unfolding chars
contains_asks_nothing column query label above = refl

-- Nor does MATCHES beside its document.
pub matches_asks_nothing : (column document : List ℕ) → asked_where (Matches column document) ≡ nothing_asked
unfolding chars
matches_asks_nothing column document = refl

-- ---- computed examples: sub-indexes by the price, and by the key and the price, of a table with the columns id, body and price

abbrev below_five : List ℕ → Cond
below_five column = Compare column Less (Number (Fits (pos 5)))

price_and_key : structured_refusal docs_columns docs_names (Found (record { conds = below_five (codes "price") ∷ []; orders = order_by (codes "id") true ∷ [] })) ≡ None
price_and_key = refl

body_in_none : structured_refusal docs_columns docs_names (Found (record { conds = below_five (codes "body") ∷ []; orders = [] })) ≡ Some (InNoSubIndex (codes "body"))
body_in_none = refl

-- a number is compared with a text, before an order by a column in no sub-index
wrong_type_first : structured_refusal docs_columns docs_names (Found (record { conds = Compare (codes "price") Less (Text (codes "x")) ∷ []; orders = order_by (codes "body") false ∷ [] })) ≡ Some WrongValues
wrong_type_first = refl

no_text : structured_refusal docs_columns docs_names (Syntax 5) ≡ Some (QuerySyntax 5)
no_text = refl
