-- What calls promise of the tables and of a CONTEXT index that a keeper's content spells, by the view of the keeper.
use Rattle.std.specs.Prelude.{ℕ, ◌≡◌, ◌+◌, ◌<◌, List, length, map, Option, Some, None, Result, Err, IfOk, refl}
use Rattle.std.proofs.Common.{sym, ◌∙◌}
use Rattle.ct_keep.specs.Content.{Content}
use Rattle.ct_keep.specs.KeeperViews.{KeeperView}
use Rattle.ct_base.specs.declared.numbers.RowKey.{RowKey}
use Rattle.ct_entry.specs.Keys.{Key, at, HasKeysOnly}
use Rattle.tb_table.specs.declared.columns.Target.{Target}
use Rattle.tb_table.specs.Tables.{Table, Tables}
use Rattle.tx_settings.specs.declared.preferences.Prefs.{Prefs}
use Rattle.ix_kinds.specs.Rows.{table_at}
use Rattle.ix_kinds.specs.Indextypes.{IndexOf}
use Rattle.ix_context.specs.declared.ranges.KeyRange.{KeyRange}
use Rattle.ix_context.specs.declared.faults.ContextFault.{ContextFault}
use Rattle.ix_context.specs.declared.faults.ContextFault.TheVariants.{TooMany}
use Rattle.ix_context.specs.Gathering.{IndexRowsView, texts_gathered}
use Rattle.ix_context.specs.Indexes.{ContextIndex, mark_limit, texts_in, rows_within, waiting_rows, target_text}
use Rattle.ix_kinds.specs.Statements.{untidying_in}
use Rattle.ix_context.specs.Changes.{Adds, ChangesWithin}
use Rattle.ix_context.specs.Contexts.{context, context_stands, context_sync_changes, context_create_changes}
use Rattle.ix_context.specs.Limits.{IsWithinLimits}
use Rattle.ix_context.specs.Contents.{HoldsTables, HoldsContext}

-- what holds of the tables that the content spells, where that is told
abbrev pub ToldTables : {K : Type 0} → (K → KeeperView) → K → (Tables → Type 0) → Type 0
ToldTables view k holds = (m : Content) (ts : Tables) → (view k).content ≡ Some m → HoldsTables m ts → holds ts

-- What a call gave of the tables, unless it failed.
abbrev pub SeesTables : {K T E : Type 0} → (K → KeeperView) → K → Result T E → (Tables → T → Type 0) → Type 0
SeesTables view old result gives = ToldTables view old (λ ts. IfOk result (gives ts))

-- what holds of the table and the CONTEXT index of this name that the content spells, where that is told
abbrev pub ToldContext : {K : Type 0} → (K → KeeperView) → K → List ℕ → (Table → IndexOf ContextIndex → Type 0) → Type 0
ToldContext view k i holds = (m : Content) (ts : Tables) (x : IndexOf ContextIndex) → (view k).content ≡ Some m → HoldsContext m ts i x → holds (table_at ts x.table) x

-- What a call gave of them, unless it failed.
abbrev pub SeesContext : {K T E : Type 0} → (K → KeeperView) → K → List ℕ → Result T E → (Table → IndexOf ContextIndex → T → Type 0) → Type 0
SeesContext view old i result gives = ToldContext view old i (λ t x. IfOk result (gives t x))

-- The same with the place that the entry of the index ends in.
abbrev pub ToldPlace : {K : Type 0} → (K → KeeperView) → K → List ℕ → (Table → IndexOf ContextIndex → List ℕ → Type 0) → Type 0
ToldPlace view k i holds =
    (m : Content) (ts : Tables) (x : IndexOf ContextIndex) → (view k).content ≡ Some m → (told : HoldsContext m ts i x) → holds (table_at ts x.table) x told.entry.place

abbrev pub SeesPlace : {K T E : Type 0} → (K → KeeperView) → K → List ℕ → Result T E → (Table → IndexOf ContextIndex → List ℕ → T → Type 0) → Type 0
SeesPlace view old i result gives = ToldPlace view old i (λ t x place. IfOk result (gives t x place))

-- The same of an index that is within the limits of a search. Neither the table nor the index needs to keep any other rule.
abbrev pub SeesWithinLimits : {K T E : Type 0} → (K → KeeperView) → K → List ℕ → Result T E → (Table → IndexOf ContextIndex → T → Type 0) → Type 0
SeesWithinLimits view old i result gives =
    (m : Content) (t : Table) (x : IndexOf ContextIndex) → (view old).content ≡ Some m → HasKeysOnly m → context_stands (at m) i x t → IsWithinLimits t x → IfOk result (gives t x)

-- ---- what calls find to do, or not

-- what a synchronisation of the index puts whose entry ends in this place, and how many documents it has given then
abbrev pub synced_changes_of : List ℕ → Table → IndexOf ContextIndex → List ℕ → List (Key × Option (List ℕ))
synced_changes_of i t x place = context_sync_changes i x place (texts_in t x.column) (waiting_rows x.body.marks)

abbrev pub given_after_sync : IndexOf ContextIndex → ℕ
given_after_sync x = x.body.part.given + length (waiting_rows x.body.marks)

-- what a new index on a target puts, and how many documents it has given then
abbrev pub created_changes_of : Tables → List ℕ → Target → Prefs → KeyRange → List (Key × Option (List ℕ))
created_changes_of ts i target prefs range = context_create_changes (table_at ts target.table) i target prefs range

abbrev pub given_after_create : Tables → Target → KeyRange → ℕ
given_after_create ts target range = length (rows_within (table_at ts target.table) range)

-- the changes of a synchronisation, and of a new index, where these have at most as many documents as there are numbers
abbrev pub AreSyncChanges : List ℕ → Table → IndexOf ContextIndex → List ℕ → Option (List (List ℕ × Option (List ℕ))) → Type 0
AreSyncChanges i t x place found = ChangesWithin mark_limit (given_after_sync x) (synced_changes_of i t x place) found

abbrev pub AreCreateChanges : Tables → List ℕ → Target → Prefs → KeyRange → Option (List (List ℕ × Option (List ℕ))) → Type 0
AreCreateChanges ts i target prefs range found = ChangesWithin mark_limit (given_after_create ts target range) (created_changes_of ts i target prefs range) found

-- TooMany is answered only of more documents than there are numbers.
abbrev pub IsTooManyOnly : {T : Type 0} → Result T ContextFault → ℕ → Type 0
IsTooManyOnly result given = result ≡ Err TooMany → mark_limit < given

-- Unless the call failed, the batch has the change by which the index is tidy no more.
abbrev pub UntidiesIndex : {K T E : Type 0} → (K → KeeperView) → K → List ℕ → Result T E → List (List ℕ × Option (List ℕ)) → List (List ℕ × Option (List ℕ)) → Type 0
UntidiesIndex view k i result old new =
    (m : Content) (ts : Tables) (x : IndexOf ContextIndex) → (view k).content ≡ Some m → HoldsContext m ts i x → Adds old new result (untidying_in (context {D = Unit {0}}) (at m) i (Some x))

-- ---- what is gathered

-- of the texts of these rows, which become documents of an index on a target that reads texts by these preferences, the first of them this one
abbrev pub rows_gathered : Tables → Target → Prefs → ℕ → List RowKey → IndexRowsView
rows_gathered ts target prefs first rows = texts_gathered prefs (target_text ts target) first (map (λ r. r.0) rows)

-- computed examples: a call that failed gave nothing; and where no content is told, nothing is said of its tables
gave_nothing : {T E : Type 0} (gives : Tables → T → Type 0) (ts : Tables) (e : E) → IfOk (Err e) (gives ts) ≡ Unit {0}
gave_nothing gives ts e = refl

nothing_is_told : {K : Type 0} (view : K → KeeperView) (k : K) → (view k).content ≡ None → ToldTables view k (λ ts. ⊥)
nothing_is_told view k untold m ts told holds = let wrong : None ≡ Some m = sym untold ∙ told in cc
