-- What DELETE does.
use Rattle.std.specs.Prelude.{ℕ, ℤ, false, List, [], ◌++◌, length, Option, Some, None, codes, ◌≡◌, refl}
use Rattle.std.specs.FinMap.{get}
use Rattle.ct_base.specs.declared.lists.Value.{Value}
use Rattle.st_parse.specs.declared.statements.Cond.{Cond}
use Rattle.ct_entry.specs.Changes.{spell}
use Rattle.ct_entry.specs.Each.{each}
use Rattle.ct_entry.specs.Keys.{Key, at}
use Rattle.ct_keep.specs.Content.{Content}
use Rattle.tb_table.specs.declared.columns.Column.{Column}
use Rattle.tb_table.specs.Tables.{Table, Tables, row_at, without_row}
use Rattle.tb_table.specs.Spelling.{delete_changes}
use Rattle.ix_docmap.specs.Changes.{gone_changes}
use Rattle.ix_docmap.specs.Readings.{document_at}
use Rattle.ix_kinds.specs.Rows.{RowChange}
use Rattle.ix_kinds.specs.Indextypes.{IndexOf}
use Rattle.ix_kinds.specs.Statements.{tables_after, every, indexes_after}
use Rattle.cat_index.specs.Catalogues.{CatalogueBody, filing}
use Rattle.cat_index.specs.Changes.{filing_changes}
use Rattle.rule_index.specs.Changes.{gone_changes as rule_gone}
use Rattle.rule_index.specs.Spelling.{anchors_at}
use Rattle.ix_indexes.specs.Indexes.{kinds}
use Rattle.ix_indexes.specs.declared.loading.TableIndex.{TableIndex}
use Rattle.ix_indexes.specs.Noting.{Noted, InContext, InCatalogue, InRules, all_noted_changes, noted_changes, noted_indexes}
use Rattle.db_cond.specs.Faults.{UnknownName}
use Rattle.db_cond.specs.Lines.{rows_line}
use Rattle.db_rows.specs.Checking.{check_conds}
use Rattle.db_rows.specs.Meeting.{meeting_keys}
use Rattle.db_state.specs.States.{StoreState}
use Rattle.db_state.specs.Effects.{Effect, Does, with_found}
use Rattle.db_change.specs.Noting.{lost_changes, noted_on}

-- The table without these rows, and each index on it without their marks: row by row, since what a settled row wastes in an index is
-- what its document costs there.
abbrev pub without_rows : StoreState → List ℕ → List ℤ → StoreState
without_rows m t rows = record m {
  tables = tables_after (λ ts r. without_row ts t r) m.tables rows;
  indexes = indexes_after kinds (every kinds) (λ ts r. without_row ts t r) m.tables t rows m.indexes;
}

abbrev pub rows_deleted : ℕ → List ℕ
rows_deleted rows = rows_line (codes "deleted.\n") rows

abbrev pub delete_rows : StoreState → List ℕ → List ℤ → Effect
delete_rows m t rows = Does (without_rows m t rows) (rows_deleted (length rows))

abbrev pub delete_from : StoreState → List ℕ → List Cond → Effect
delete_from m t conds = with_found (get m.tables t) (UnknownName t) (λ (x : Table). check_conds x.columns conds (delete_rows m t (meeting_keys x conds)))

-- ---- what it puts into its batch

-- a row that goes, by what it was
abbrev pub going : ℤ → Option (List Value) → RowChange
going r old = record { row = r; old = old; new = None }

-- it goes from its table, and from each of these indexes, as their kinds have it by the entries before
abbrev pub gone_row_changes : (Key → Option (List ℕ)) → Tables → List ℕ → List Column → List (List ℕ × Noted) → ℤ → List (Key × Option (List ℕ))
gone_row_changes f ts t columns indexes r = delete_changes t columns r ++ all_noted_changes f (going r (row_at ts t r)) indexes

abbrev pub gone_rows_changes : (Key → Option (List ℕ)) → Tables → List ℕ → List Column → List (List ℕ × Noted) → List ℤ → List (Key × Option (List ℕ))
gone_rows_changes f ts t columns indexes rows = each (gone_row_changes f ts t columns indexes) rows

-- and first the indexes that are tidy are so no more
abbrev pub all_gone_changes : Content → StoreState → List ℕ → List Column → List (List ℕ × Noted) → List ℤ → List (Key × Option (List ℕ))
all_gone_changes c m t columns indexes rows = lost_changes c m indexes rows ++ gone_rows_changes (at c) m.tables t columns indexes rows

-- The batch takes this row from a table with these columns, and from each of these indexes.
abbrev pub TakesRow : StoreState → Content → List ℕ → List Column → List TableIndex → ℤ → List (List ℕ × Option (List ℕ)) → Type 0
TakesRow m c t columns indexes r batch = batch ≡ spell (gone_row_changes (at c) m.tables t columns (noted_indexes indexes) r)

-- The same of each of these rows.
abbrev pub TakesRows : StoreState → Content → List ℕ → List Column → List TableIndex → List ℤ → List (List ℕ × Option (List ℕ)) → Type 0
TakesRows m c t columns indexes rows batch = batch ≡ spell (gone_rows_changes (at c) m.tables t columns (noted_indexes indexes) rows)

-- The batch takes these rows from a table with these columns, and from each index on it.
abbrev pub TakesFromTable : StoreState → Content → List ℕ → List Column → List ℤ → List (List ℕ × Option (List ℕ)) → Type 0
TakesFromTable m c t columns rows batch = batch ≡ spell (all_gone_changes c m t columns (noted_on m.indexes t) rows)

-- computed examples: where no row meets the conditions, nothing is changed
nothing_to_delete : (m : StoreState) (t : List ℕ) → without_rows m t [] ≡ m
nothing_to_delete m t = refl

no_changes : (c : Content) (m : StoreState) (t : List ℕ) (columns : List Column) (indexes : List (List ℕ × Noted)) → all_gone_changes c m t columns indexes [] ≡ []
no_changes c m t columns indexes = refl

-- a row goes from a CONTEXT index where it is the document that the entries before name, or waits; from a catalogue by its values; and from a rule index under
-- the keys that the entry of its rule tells
from_an_index : (f : Key → Option (List ℕ)) (i : List ℕ) (column : ℕ) (r : ℤ) (vs : List Value) → noted_changes f (going r (Some vs)) i (InContext column) ≡ gone_changes i r (document_at f i r)
from_an_index f i column r vs = refl

from_a_catalogue : (f : Key → Option (List ℕ)) (i : List ℕ) (x : IndexOf CatalogueBody) (r : ℤ) (vs : List Value)
    → noted_changes f (going r (Some vs)) i (InCatalogue x) ≡ filing_changes i r (filing x r vs) false
from_a_catalogue f i x r vs = refl

from_a_rule_index : (f : Key → Option (List ℕ)) (i : List ℕ) (column : ℕ) (r : ℤ) (vs : List Value)
    → noted_changes f (going r (Some vs)) i (InRules column) ≡ rule_gone i r (anchors_at f i r)
from_a_rule_index f i column r vs = refl
