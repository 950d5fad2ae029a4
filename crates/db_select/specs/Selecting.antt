-- What SELECT of a table does.
use Rattle.std.specs.Prelude.{ℕ, Bool, false, is_none, List, Option, Some, None, ◌≡◌, refl}
use Rattle.std.specs.FinMap.{get}
use Rattle.st_parse.specs.declared.statements.Cond.{Cond}
use Rattle.st_parse.specs.declared.statements.Pred.{Pred}
use Rattle.tb_table.specs.declared.columns.Column.{Column}
use Rattle.tb_table.specs.Tables.{Table, Tables}
use Rattle.ix_search.specs.Hits.{hit_rows}
use Rattle.db_cond.specs.Faults.{Refusal, UnknownName, NoIndexOfKind, refusal_line}
use Rattle.db_state.specs.States.{StoreState}
use Rattle.db_state.specs.Effects.{Effect, Does, Refused, refuse, refuse_by, reply_by, with_found}
use Rattle.db_state.specs.Columns.{first_unknown}
use Rattle.db_select.specs.declared.finds.Selected.{Selected}
use Rattle.db_select.specs.declared.finds.Selected.TheVariants.{Refused as RefusedFound, Rows}
use Rattle.db_find.specs.Searches.{Search, search_in}
use Rattle.db_find.specs.Seeking.{index_of_search}
use Rattle.db_find.specs.Finding.{refused_by}
use Rattle.db_select.specs.Predicates.{conds_in, named_columns}
use Rattle.db_select.specs.Checking.{check_values}
use Rattle.db_select.specs.Hits.{HoldOwn, hits, hits_of, rows_left}
use Rattle.db_select.specs.Listing.{rows_reply}
use Rattle.db_select.specs.Choosing.{Selection}

-- ---- the search

-- there is a search, and no index that it needs
abbrev pub lacks_index : StoreState → List ℕ → List Column → Option Search → Bool
lacks_index m t columns None = false
lacks_index m t columns (Some s) = is_none (index_of_search m t columns s)

-- why its index refuses it, if there is a search and it does
abbrev pub query_refusal : StoreState → List ℕ → List Column → Option Search → Option Refusal
query_refusal m t columns None = None
query_refusal m t columns (Some s) = refused_by m.tables m.thesauri (index_of_search m t columns s) s

-- ---- the statement

-- what follows where its columns are there
abbrev pub select_rows : StoreState → List ℕ → Table → Selection → Option Search → List Cond → Effect
select_rows m t x want search conds =
    refuse (lacks_index m t x.columns search) NoIndexOfKind
    (check_values x.columns want search conds
    (refuse_by (query_refusal m t x.columns search) (λ refusal. refusal)
    (Does m (rows_reply m.tables t x.columns want.list (hits m t x want search conds)))))

-- SELECT of a list from a table by predicates
abbrev pub select : StoreState → Selection → List ℕ → List Pred → Effect
select m want t preds =
    with_found (get m.tables t) (UnknownName t) (λ (x : Table).
    refuse_by (first_unknown (named_columns want preds) x.columns) UnknownName
    (select_rows m t x want (search_in preds) (conds_in preds)))

-- ---- as code holds it

-- the reply of it
abbrev pub rows_reply_by : StoreState → List ℕ → Table → Selection → Option Search → List Cond → List ℕ
rows_reply_by m t x want search conds = reply_by (select_rows m t x want search conds)

-- What was found is what a SELECT comes to: the line of its refusal, or the rows of whose lines it makes its reply.
abbrev pub Selects : StoreState → List ℕ → Table → Selection → Option Search → List Cond → Selected → Type 0
Selects m t x want search conds (RefusedFound line) = (refusal : Refusal) × ((select_rows m t x want search conds ≡ Refused refusal) × (line.items ≡ refusal_line refusal))
Selects m t x want search conds (Rows found) =
    (select_rows m t x want search conds ≡ Does m (rows_reply m.tables t x.columns want.list (hits m t x want search conds)))
    × (hit_rows (hits_of found.items) ≡ hits m t x want search conds)

-- what was read of each row that was found is its own
abbrev pub SelectedOwn : Tables → List ℕ → Selected → Type 0
SelectedOwn ts t (RefusedFound line) = Unit {0}
SelectedOwn ts t (Rows found) = HoldOwn ts t found.items

-- how many texts of these columns are left of all of them
abbrev pub selected_left : List ℕ → Selected → ℕ
selected_left places (RefusedFound line) = 0
selected_left places (Rows found) = rows_left places found.items

-- computed examples: without a search there is none that lacks its index, and none whose text is refused
no_search_lacks_no_index : (m : StoreState) (t : List ℕ) (columns : List Column) → lacks_index m t columns None ≡ false
no_search_lacks_no_index m t columns = refl

no_search_is_refused : (m : StoreState) (t : List ℕ) (columns : List Column) → query_refusal m t columns None ≡ None
no_search_is_refused m t columns = refl
