-- Catalogue indexes, and what the rows of a table have in one.
use Rattle.std.specs.Prelude.{ℕ, ℤ, ◌≡◌, ◌==◌, zero, suc, Bool, true, false, List, [], ◌∷◌, map, Option, Some, None, pos, codes, refl}
use Rattle.std.specs.Bool.{if◌then◌else◌}
use Rattle.std.specs.List.{list_any}
use Rattle.std.specs.FinMap.{get}
use Rattle.ct_base.specs.declared.lists.Value.{Value}
use Rattle.ct_base.specs.declared.lists.Value.TheVariants.{Number, Text}
use Rattle.ct_entry.specs.Keys.{same_list}
use Rattle.tb_table.specs.declared.columns.Column.{Column}
use Rattle.tb_table.specs.Tables.{Table, text_in_column, docs_columns}
use Rattle.tx_settings.specs.declared.preferences.Prefs.{Prefs}
use Rattle.tx_settings.specs.Defaults.{default_prefs}
use Rattle.ix_kinds.specs.Rows.{value_at_place}
use Rattle.ix_kinds.specs.Indextypes.{IndexOf}
use Rattle.cat_index.specs.declared.filings.Filing.{Filing}
use Rattle.cat_index.specs.Filings.{filing_by, no_filing}

-- What a catalogue has: the columns of its sub-indexes, of which the first has the number 1. It has no marks: each row of the table is indexed from the
-- statement on that brought it.
pub record CatalogueBody : Type 0 where
  -- their names, as the entry of the index has them
  pub names : List (List (List ℕ))
  -- their places in the table, that of the key being 0
  pub places : List (List ℕ)

-- ---- columns by their places

-- the place of the column with this name; that behind the last where there is none
abbrev pub place_of : List Column → List ℕ → ℕ
place_of [] name = 0
place_of (c ∷ cs) name = if same_list name c.name then 0 else suc (place_of cs name)

abbrev pub places_in : List Column → List (List (List ℕ)) → List (List ℕ)
places_in cs names = map (map (place_of cs)) names

-- whether one of the sub-indexes has the column at this place
abbrev pub has_place : List (List ℕ) → ℕ → Bool
has_place places column = list_any (list_any (λ place. column == place)) places

-- the value in the column at this place, of a row with this key and these other values
abbrev pub value_at : ℤ → List Value → ℕ → Option Value
value_at r vs zero = Some (Number r)
value_at r vs (suc place) = value_at_place vs place

-- ---- rows

-- what a row has by the words of its text in a column, read by these preferences, and by its values in the columns at these places
abbrev pub filing_at : Prefs → ℕ → List (List ℕ) → ℤ → List Value → Filing
filing_at prefs column places r vs = filing_by prefs (text_in_column vs column) (map (map (value_at r vs)) places)

-- WHAT A ROW HAS in a catalogue
abbrev pub filing : IndexOf CatalogueBody → ℤ → List Value → Filing
filing x r vs = filing_at x.prefs x.column x.body.places r vs

-- nothing where there is no row
abbrev pub filing_of : IndexOf CatalogueBody → ℤ → Option (List Value) → Filing
filing_of x r None = no_filing
filing_of x r (Some vs) = filing x r vs

abbrev pub filing_in : IndexOf CatalogueBody → Table → ℤ → Filing
filing_in x t r = filing_of x r (get t.rows r)

-- ---- computed examples: a catalogue on the texts of the table `docs`, with the price as a sub-index, and the key with the price as another
abbrev pub docs_names : List (List (List ℕ))
docs_names = (codes "price" ∷ []) ∷ (codes "id" ∷ codes "price" ∷ []) ∷ []

abbrev pub docs_catalogue : IndexOf CatalogueBody
docs_catalogue = record { table = codes "docs"; column = 1; prefs = default_prefs; body = record { names = docs_names; places = (2 ∷ []) ∷ (0 ∷ 2 ∷ []) ∷ [] } }

their_places : places_in docs_columns docs_names ≡ docs_catalogue.body.places
their_places = refl

of_no_column : place_of docs_columns (codes "kind") ≡ 3
of_no_column = refl

has_the_price : has_place docs_catalogue.body.places 2 ≡ true
has_the_price = refl

not_the_body : has_place docs_catalogue.body.places 1 ≡ false
not_the_body = refl

abbrev row_seven : List Value
row_seven = Text (codes "Red blue red") ∷ Number (pos 3) ∷ []

its_price : value_at (pos 7) row_seven 2 ≡ Some (Number (pos 3))
its_price = refl

its_key : value_at (pos 7) row_seven 0 ≡ Some (Number (pos 7))
its_key = refl

no_value : value_at (pos 7) row_seven 3 ≡ None
no_value = refl

its_filing : filing docs_catalogue (pos 7) row_seven
    ≡ filing_by default_prefs (Some (codes "Red blue red")) ((Some (Number (pos 3)) ∷ []) ∷ (Some (Number (pos 7)) ∷ Some (Number (pos 3)) ∷ []) ∷ [])
its_filing = refl

of_no_row : filing_of docs_catalogue (pos 8) None ≡ no_filing
of_no_row = refl
