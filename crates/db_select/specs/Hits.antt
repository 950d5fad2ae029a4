-- The rows that a SELECT finds: their keys with their scores, before they are lines; and those that it gives.
use Rattle.std.specs.Prelude.{ℕ, ℤ, pos, ◌≡◌, ◌+◌, ◌*◌, true, ◌++◌, List, length, map, filter, sum_by, Option, Some, None, Result, Vec, OnOk, refl}
use Rattle.std.specs.FinMap.{entries}
use Rattle.std.specs.Ordering.{int_cmp}
use Rattle.std.specs.declared.alloc.Global.{Global}
use Rattle.ct_keep.specs.KeeperViews.{KeeperView}
use Rattle.ct_keep.specs.declared.keepers.KeepFault.{KeepFault}
use Rattle.ct_entry.specs.Lists.{EachIs}
use Rattle.ct_entry.specs.laws.Rows.{keys_rise_by}
use Rattle.st_parse.specs.declared.statements.Cond.{Cond}
use Rattle.tb_table.specs.declared.columns.Column.{Column}
use Rattle.tb_table.specs.Tables.{Table, Tables}
use Rattle.ix_search.specs.declared.hits.Hit.{Hit}
use Rattle.ix_search.specs.Hits.{hit_rows}
use Rattle.db_state.specs.States.{StoreState}
use Rattle.db_rows.specs.Meeting.{key_meets}
use Rattle.db_rows.specs.Reading.{IsOwn, OverColumns}
use Rattle.db_rows.specs.Texts.{TriesRows, left_by, shown_places, texts_left}
use Rattle.db_rows.specs.Walking.{with_met}
use Rattle.db_rows.specs.declared.reading.RowRead.{RowRead}
use Rattle.db_rows.specs.declared.reading.Shown.{Shown}
use Rattle.db_rows.specs.declared.walking.MetRow.{MetRow}
use Rattle.cat_where.specs.declared.stages.Where.{Where}
use Rattle.db_find.specs.Searches.{Search}
use Rattle.db_find.specs.Structured.{asked_where, nothing_asked}
use Rattle.db_find.specs.Seeking.{index_of_search}
use Rattle.db_find.specs.Finding.{found_in}
use Rattle.db_select.specs.declared.finds.FoundRow.{FoundRow}
use Rattle.db_select.specs.Ordering.{in_order}
use Rattle.db_select.specs.Choosing.{Selection, asked_by}

-- The keys of rows with their scores, in the order of the keys: of those that the search finds, or without one of all, with
-- the score 0, for which no SCORE asks.
abbrev pub found_rows : StoreState → List ℕ → Table → Option Search → List (ℤ × ℕ)
found_rows m t x None = map {B = ℤ × ℕ} (λ e. (e.0, 0)) (entries x.rows)
found_rows m t x (Some s) = found_in m.tables m.thesauri (index_of_search m t x.columns s) s

-- what a search asks of them beside their texts: conditions, and an order
abbrev pub asked_of_rows : Option Search → Where
asked_of_rows None = nothing_asked
asked_of_rows (Some s) = asked_where s

-- those conditions, and those of the statement
abbrev pub all_conds : Where → List Cond → List Cond
all_conds asked conds = asked.conds ++ conds

-- of rows those that meet all conditions, in the order asked for
abbrev pub asked_rows : Table → Where → List Cond → List (ℤ × ℕ) → List (ℤ × ℕ)
asked_rows x asked conds found = in_order x asked.orders (filter (λ h. key_meets x (all_conds asked conds) h.0) found)

-- THE ROWS THAT A SELECT GIVES
abbrev pub hits : StoreState → List ℕ → Table → Selection → Option Search → List Cond → List (ℤ × ℕ)
hits m t x want search conds = asked_rows x (asked_by want (asked_of_rows search)) conds (found_rows m t x search)

-- those that meet conditions, in order of their keys, where nothing is searched
abbrev pub unsearched_rows : StoreState → List ℕ → Table → List Cond → List (ℤ × ℕ)
unsearched_rows m t x conds = filter (λ h. key_meets x conds h.0) (found_rows m t x None)

-- ---- as code holds them

abbrev pub hits_of : List FoundRow → List Hit
hits_of rows = map (λ row. row.hit) rows

-- what was read of each of them is its own
abbrev pub HoldOwn : Tables → List ℕ → List FoundRow → Type 0
HoldOwn ts t rows = EachIs (λ row. IsOwn ts t row.hit.key row.read) rows

-- how many texts of these columns are left of all of them
abbrev pub rows_left : List ℕ → List FoundRow → ℕ
rows_left places rows = sum_by (λ row. texts_left places row.read) rows

-- Of hits whose keys strictly rise these rows are those that meet all conditions, in the order asked for.
abbrev pub GivesAsked : Table → Where → List Cond → List Hit → List FoundRow → Type 0
GivesAsked x asked conds found rows = keys_rise_by int_cmp (map (λ h. h.0) (hit_rows found)) ≡ true → hit_rows (hits_of rows) ≡ asked_rows x asked conds (hit_rows found)

-- of hits those of rows that meet all conditions
abbrev pub met_among : Table → List Cond → List Hit → List Hit
met_among x conds found = filter (λ h. key_meets x conds h.key.0) found

-- a row that was found without a search
abbrev pub unscored : MetRow → FoundRow
unscored row = record { hit = record { key = row.key; score = 0 }; read = row.read }

-- where there is a table of this name with these columns, a call that didn't fail put a row that was found behind others, if the row meets all conditions
abbrev pub PutsIfMet : {K : Type 0} → (K → KeeperView) → K → List ℕ → List Column → List Cond → Hit → Result (Unit {0}) KeepFault → List FoundRow → List FoundRow → Type 0
PutsIfMet view old t columns conds hit result before after = OverColumns view old t columns (λ x. OnOk result (hits_of after ≡ with_met (key_meets x conds hit.key.0) hit (hits_of before)))

-- One hit was tried, behind rows that were found before; and these hits were.
abbrev pub TriesHit : {K : Type 0} → (K → KeeperView) → K → K → Shown → List Column → List Cond → Result (Unit {0}) KeepFault → List FoundRow → List FoundRow → Type 0
TriesHit view old new shown columns conds result before after =
    TriesRows view old new shown columns conds (λ n. rows_left (shown_places shown) before + n) (left_by (λ x. rows_left (shown_places shown) after) result)

abbrev pub TriesHits : {K : Type 0} → (K → KeeperView) → K → K → Shown → List Column → List Cond → List Hit → Result (Vec FoundRow Global) KeepFault → Type 0
TriesHits view old new shown columns conds found result =
    TriesRows view old new shown columns conds (λ n. length found * n) (left_by (λ rows. rows_left (shown_places shown) rows.items) result)

-- computed example
no_score : (read : RowRead) → unscored (record { key = record { 0 = pos 7 }; read = read }) ≡ record { hit = record { key = record { 0 = pos 7 }; score = 0 }; read = read }
no_score read = refl
