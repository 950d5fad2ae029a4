-- A content that holds a catalogue, and what calls promise of it.
use Rattle.std.specs.Prelude.{ℕ, ℤ, ◌≡◌, ◌++◌, ◌||◌, Bool, List, [], map, Some, Result, IfOk, refl}
use Rattle.std.specs.Bool.{if◌then◌else◌}
use Rattle.ct_base.specs.declared.numbers.RowKey.{RowKey}
use Rattle.ct_keep.specs.Content.{Content}
use Rattle.ct_keep.specs.KeeperViews.{KeeperView}
use Rattle.ct_entry.specs.Keys.{at}
use Rattle.tb_table.specs.declared.columns.Column.{Column}
use Rattle.tb_table.specs.Tables.{Table, Tables}
use Rattle.tx_settings.specs.PrefsBytes.{IsPrefs}
use Rattle.q_tree.specs.declared.flats.Flat.{Flat}
use Rattle.q_tree.specs.ReducedQueries.{Reduced, reduced_of}
use Rattle.ix_kinds.specs.Rows.{table_at}
use Rattle.ix_kinds.specs.Targets.{IsTarget}
use Rattle.ix_kinds.specs.Indextypes.{IndexOf}
use Rattle.ix_context.specs.Indexes.{target_text}
use Rattle.ix_context.specs.Contents.{HoldsTables}
use Rattle.cat_index.specs.declared.catalogues.Catalogue.{Catalogue}
use Rattle.cat_index.specs.Catalogues.{CatalogueBody}
use Rattle.cat_index.specs.Kind.{as_index}
use Rattle.cat_index.specs.Rules.{IsCatalogue}
use Rattle.cat_index.specs.Standing.{CatalogueStands}
use Rattle.cat_walk.specs.Places.{has_place}
use Rattle.cat_walk.specs.declared.walks.Walk.{Walk}
use Rattle.cat_walk.specs.Walks.{route_of}
use Rattle.cat_search.specs.Meeting.{row_words, some_meets}
use Rattle.cat_search.specs.SubIndexes.{place_row, sub_place}
use Rattle.cat_search.specs.Words.{may_meet}
use Rattle.cat_search.specs.Walking.{StopsWhere, row_if}

-- The content spells the tables, and the entries of the catalogue of this name over its table, which keeps its rules. What other names have doesn't matter.
pub record HoldsCatalogue (m : Content) (ts : Tables) (i : List ℕ) (x : IndexOf CatalogueBody) : Type 0 where
  pub tables : HoldsTables m ts
  pub stands : CatalogueStands (at m) i x (table_at ts x.table)
  pub target : IsTarget ts x.table x.column
  pub prefs : IsPrefs x.prefs
  pub rules : IsCatalogue (table_at ts x.table) x

-- The index is what this catalogue is: on the same table and column, with the same preferences.
pub record IsIndexOf (c : Catalogue) (x : IndexOf CatalogueBody) : Type 0 where
  pub table : x.table ≡ c.target.table
  pub column : x.column ≡ c.target.column
  pub prefs : x.prefs ≡ c.prefs

-- what holds of the table and the catalogue of this name that the content holds, where that is told
abbrev pub ToldCatalogue : {K : Type 0} → (K → KeeperView) → K → List ℕ → Catalogue → (Table → IndexOf CatalogueBody → Type 0) → Type 0
ToldCatalogue view k i c holds =
    (m : Content) (ts : Tables) (x : IndexOf CatalogueBody) → (view k).content ≡ Some m → HoldsCatalogue m ts i x → IsIndexOf c x → holds (table_at ts x.table) x

-- what holds of the catalogue that the content holds, where that is told, and where a walk over a sub-index stops at the rows whose words may meet a query
abbrev pub ToldWalked : {K : Type 0} → (K → KeeperView) → K → Catalogue → List ℕ → ℕ → Flat → Walk → (Table → IndexOf CatalogueBody → Type 0) → Type 0
ToldWalked view k c stem sub flat walk holds =
    (m : Content) (ts : Tables) (i : List ℕ) (x : IndexOf CatalogueBody) → (view k).content ≡ Some m → HoldsCatalogue m ts i x → IsIndexOf c x
    → StopsWhere (has_place m stem) (sub_place (table_at ts x.table) x sub) (row_words (table_at ts x.table) x) (may_meet (reduced_of flat)) (route_of walk) → holds (table_at ts x.table) x

-- What a call gave of it, unless it failed.
abbrev pub SeesWalked : {K T E : Type 0} → (K → KeeperView) → K → Catalogue → List ℕ → ℕ → Flat → Walk → Result T E → (Table → IndexOf CatalogueBody → T → Type 0) → Type 0
SeesWalked view old c stem sub flat walk result gives = ToldWalked view old c stem sub flat walk (λ t x. IfOk result (gives t x))

-- ---- what a step makes of a row

-- whether the text of a row in the column of a catalogue meets a query
abbrev pub target_meets : Catalogue → Reduced → Tables → ℤ → Bool
target_meets c q ts r = some_meets c.prefs q (target_text ts c.target r)

-- whether a row at which the walk for a query stops meets it
abbrev pub is_met_row : Bool → Catalogue → Reduced → Tables → ℤ → Bool
is_met_row exact c q ts r = exact || target_meets c q ts r

-- the row that has a place came to others, if the place is taken and the row meets the query
abbrev pub AddsIfMet : Bool → Catalogue → Flat → (List ℕ → Bool) → Tables → List ℕ → List RowKey → List RowKey → Type 0
AddsIfMet exact c flat taken ts place old new =
    map (λ (r : RowKey). r.0) new ≡ map (λ (r : RowKey). r.0) old ++ (if taken place then row_if (is_met_row exact c (reduced_of flat) ts) (place_row place) else [])

-- computed example: the index that a catalogue's entry makes is its own
its_own : (columns : List Column) (c : Catalogue) → IsIndexOf c (as_index columns c)
its_own columns c = record { table = refl; column = refl; prefs = refl }
