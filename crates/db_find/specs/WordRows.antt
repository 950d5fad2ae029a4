-- What a catalogue finds are rows with a word that the query takes, and no more of them.
use Rattle.std.specs.Prelude.{ℕ, ◌≡◌, ◌≤◌, List, length, Some, None, refl}
use Rattle.std.specs.FinMap.{get}
use Rattle.ct_keep.specs.Content.{Content}
use Rattle.tb_table.specs.Tables.{Table, Tables}
use Rattle.ix_kinds.specs.Rows.{table_at}
use Rattle.ix_kinds.specs.Indextypes.{IndexOf}
use Rattle.ix_indexes.specs.Indexes.{as_catalogue}
use Rattle.cat_index.specs.Catalogues.{CatalogueBody}
use Rattle.cat_search.specs.Looking.{slot_key_rows}
use Rattle.db_state.specs.States.{StoreState, StandsForState}
use Rattle.db_find.specs.Querying.{Meaning, Finds, Refuses}
use Rattle.db_find.specs.Catalogues.{catalogue_rows, catalogue_texts, catsearch_meaning}

-- how many rows have, in the main stream of their document, a word that a slot of the query takes; none where there is no query
abbrev pub slot_rows_meant : Table → IndexOf CatalogueBody → Meaning → ℕ
slot_rows_meant t x (Finds (Some q)) = length (slot_key_rows t x q)
slot_rows_meant t x (Finds None) = 0
slot_rows_meant t x (Refuses refusal) = 0

-- HOW MANY ROWS HAVE A WORD that a query text asks a catalogue for
abbrev pub slot_rows_of : Tables → IndexOf CatalogueBody → List ℕ → ℕ
slot_rows_of ts x query = slot_rows_meant (table_at ts x.table) x (catsearch_meaning x.prefs query)

-- No more rows are found than that, and no more texts are read to find them.
pub record FindsWordRows (ts : Tables) (x : IndexOf CatalogueBody) (query : List ℕ) : Type 0 where
  pub rows : length (catalogue_rows ts x query) ≤ slot_rows_of ts x query
  pub texts : (structured : List ℕ) → catalogue_texts ts x query structured ≤ slot_rows_of ts x query

-- So it is of each catalogue of a state that a content stands for.
abbrev pub CataloguesFindWordRows : Type 0
CataloguesFindWordRows = (c : Content) (m : StoreState) (i : List ℕ) (x : IndexOf CatalogueBody) → StandsForState c m → get m.indexes i ≡ Some (as_catalogue x) → (query : List ℕ) → FindsWordRows m.tables x query

-- computed example: a query of stopwords alone asks for no word
no_word : (t : Table) (x : IndexOf CatalogueBody) → slot_rows_meant t x (Finds None) ≡ 0
no_word t x = refl
