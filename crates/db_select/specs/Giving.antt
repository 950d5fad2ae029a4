-- What calls of a SELECT give over the state that a content stands for.
use Rattle.std.specs.Prelude.{ℕ, ℤ, ◌≡◌, List, Result, Vec, Err, IfOk, refl}
use Rattle.std.specs.declared.alloc.Global.{Global}
use Rattle.ct_base.specs.declared.lists.Value.{Value}
use Rattle.ct_keep.specs.KeeperViews.{KeeperView}
use Rattle.ct_keep.specs.declared.keepers.KeepFault.{KeepFault}
use Rattle.tb_table.specs.declared.columns.Column.{Column}
use Rattle.tb_table.specs.Tables.{Table, Tables}
use Rattle.ix_search.specs.Hits.{hit_rows}
use Rattle.st_parse.specs.declared.statements.SelectList.{SelectList}
use Rattle.db_state.specs.States.{StoreState, OverNamedTable, OverStates}
use Rattle.db_rows.specs.Reading.{OverRow}
use Rattle.db_select.specs.declared.finds.FoundRow.{FoundRow}
use Rattle.db_select.specs.declared.finds.Selected.{Selected}
use Rattle.db_select.specs.Hits.{HoldOwn, hits_of}
use Rattle.db_select.specs.Listing.{found_reply}
use Rattle.db_select.specs.Selecting.{SelectedOwn}

-- where there is a table of this name with these columns, a call that didn't fail gave what holds
abbrev pub GivesOver : {K R : Type 0} → (K → KeeperView) → K → List ℕ → List Column → Result R KeepFault → (StoreState → Table → R → Type 0) → Type 0
GivesOver view old t columns result holds = OverNamedTable view old t (λ m c x. x.columns ≡ columns → IfOk result (λ r. holds m x r))

-- it gave these lines
abbrev pub GivesLines : {K : Type 0} → (K → KeeperView) → K → List ℕ → List Column → Result (Vec ℕ Global) KeepFault → (StoreState → Table → List ℕ) → Type 0
GivesLines view old t columns result lines = OverNamedTable view old t (λ m c x. x.columns ≡ columns → IfOk result (λ reply. reply.items ≡ lines m x))

-- it gave these rows with their scores
abbrev pub GivesScores : {K : Type 0} → (K → KeeperView) → K → List ℕ → List Column → Result (Vec FoundRow Global) KeepFault → (StoreState → Table → List (ℤ × ℕ)) → Type 0
GivesScores view old t columns result scores = OverNamedTable view old t (λ m c x. x.columns ≡ columns → IfOk result (λ found. hit_rows (hits_of found.items) ≡ scores m x))

-- This holds over each state, where what was read of these rows is their own.
abbrev pub OverOwn : {K : Type 0} → (K → KeeperView) → K → List ℕ → List FoundRow → (Tables → Type 0) → Type 0
OverOwn view old t rows holds = OverStates view old (λ m c. HoldOwn m.tables t rows → holds m.tables)

-- the same of the values of one row
abbrev pub OverFound : {K : Type 0} → (K → KeeperView) → K → List ℕ → FoundRow → (List Value → Type 0) → Type 0
OverFound view old t row holds = OverRow view old t row.hit.key.0 row.read holds

-- where what was read of the rows that were found is their own, a call gave what is replied to them, as to a refusal
abbrev pub GivesFoundReply : {K : Type 0} → (K → KeeperView) → K → List ℕ → List Column → SelectList → Selected → Result (Vec ℕ Global) KeepFault → Type 0
GivesFoundReply view old t columns list found result =
    OverNamedTable view old t (λ m c x. x.columns ≡ columns → SelectedOwn m.tables t found → IfOk result (λ reply. reply.items ≡ found_reply m.tables t x.columns list found))

-- computed example: a call that failed gave nothing
gave_nothing : {R : Type 0} (e : KeepFault) (holds : R → Type 0) → IfOk (Err e) holds ≡ Unit {0}
gave_nothing e holds = refl
