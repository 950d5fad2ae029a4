-- What a SELECT with a CATSEARCH reads, by the rows that have a word which its query takes.
use Rattle.std.specs.Prelude.{ℕ, ◌+◌, ◌*◌, ◌≡◌, ◌≤◌, List, [], Some, codes, refl}
use Rattle.std.specs.Str.{chars}
use Rattle.std.specs.FinMap.{get}
use Rattle.ct_keep.specs.Content.{Content}
use Rattle.st_parse.specs.declared.statements.Cond.{Cond}
use Rattle.st_parse.specs.declared.statements.Pred.{Pred}
use Rattle.st_parse.specs.declared.statements.SelectList.TheVariants.{Star, CountAll}
use Rattle.tb_table.specs.Tables.{Table}
use Rattle.ix_kinds.specs.Indextypes.{IndexOf}
use Rattle.ix_indexes.specs.Indexes.{as_catalogue}
use Rattle.cat_index.specs.Catalogues.{CatalogueBody}
use Rattle.db_state.specs.States.{StoreState, StandsForState}
use Rattle.db_rows.specs.Sources.{of_columns}
use Rattle.db_find.specs.WordRows.{slot_rows_of}
use Rattle.db_find.specs.Searches.{Catsearch, search_in}
use Rattle.db_find.specs.Seeking.{named_index}
use Rattle.db_select.specs.Looking.{row_texts, select_allowance, select_texts}
use Rattle.db_select.specs.Predicates.{conds_in}
use Rattle.db_select.specs.Choosing.{Selection, selection}

-- A CATSEARCH READS NO MORE TEXTS than there are rows with a word that its query takes, times one more than the columns of texts that the statement names.
abbrev pub CatsearchReadsFew : Type 0
CatsearchReadsFew =
    (c : Content) (m : StoreState) (t : List ℕ) (x : Table) (i : List ℕ) (y : IndexOf CatalogueBody) (want : Selection) (column query structured : List ℕ) (conds : List Cond)
    → StandsForState c m → get m.tables t ≡ Some x → named_index m t x.columns (Catsearch column query structured) ≡ Some (i, as_catalogue y)
    → select_texts m t x want (Catsearch column query structured) conds ≤ slot_rows_of m.tables y query * (1 + row_texts want (Catsearch column query structured) conds x.columns)

-- SO IT IS OF WHAT THE STATEMENT MAY READ: nothing where it is refused, and else no more texts than that.
abbrev pub CatsearchMayReadFew : Type 0
CatsearchMayReadFew =
    (c : Content) (m : StoreState) (t : List ℕ) (x : Table) (i : List ℕ) (y : IndexOf CatalogueBody) (want : Selection) (column query structured : List ℕ) (preds : List Pred) (n : ℕ)
    → StandsForState c m → get m.tables t ≡ Some x → search_in preds ≡ Some (Catsearch column query structured)
    → named_index m t x.columns (Catsearch column query structured) ≡ Some (i, as_catalogue y) → (select_allowance c m want t preds).texts ≡ Some n
    → n ≤ slot_rows_of m.tables y query * (1 + row_texts want (Catsearch column query structured) (conds_in preds) x.columns)

-- computed examples: of the columns id, a (a CLOB), n (a NUMBER) and b (a VARCHAR2) `*` names two of texts, and COUNT(*) none
all_of_them : row_texts (selection Star []) (Catsearch (codes "a") (codes "red") []) [] of_columns ≡ 2
unfolding chars
all_of_them = refl

a_count : row_texts (selection CountAll []) (Catsearch (codes "a") (codes "red") []) [] of_columns ≡ 0
unfolding chars
a_count = refl
