-- What the calls of RESULT_SET give over the state that a content stands for.
use Rattle.std.specs.Prelude.{ℕ, ◌≡◌, true, List, map, Option, Some, None, Result, Vec, Err, IfOk, refl}
use Rattle.std.specs.FinMap.{get}
use Rattle.std.specs.Ordering.{int_cmp}
use Rattle.std.specs.declared.alloc.Global.{Global}
use Rattle.ct_keep.specs.Content.{Content}
use Rattle.ct_keep.specs.KeeperViews.{KeeperView}
use Rattle.ct_keep.specs.Looks.{RisesBy}
use Rattle.ct_keep.specs.declared.keepers.KeepFault.{KeepFault}
use Rattle.ct_entry.specs.laws.Rows.{keys_rise_by}
use Rattle.st_parse.specs.declared.statements.Arg.{Arg}
use Rattle.tb_table.specs.declared.columns.Column.{Column}
use Rattle.rs_result.specs.declared.descriptors.ResultPart.{ResultPart}
use Rattle.ix_kinds.specs.Rows.{table_at}
use Rattle.ix_kinds.specs.Indextypes.{IndexOf}
use Rattle.ix_context.specs.Indexes.{ContextIndex}
use Rattle.ix_indexes.specs.Indexes.{Index, as_index, kinds}
use Rattle.ix_search.specs.declared.hits.Hit.{Hit}
use Rattle.ix_search.specs.Hits.{hit_rows}
use Rattle.db_names.specs.declared.heads.IndexHead.{IndexHead}
use Rattle.db_state.specs.States.{StoreState, StandsForState, OverNamedTable, OverStates}
use Rattle.db_state.specs.Effects.{Effect, reply_by}
use Rattle.db_hits.specs.Calling.{parts_in, result_named, result_of, search_effect}
use Rattle.db_hits.specs.Looking.{found_looks, index_looks, looks_by}
use Rattle.db_hits.specs.Parts.{result_text}

-- the head of the index of this name; or there is none of the name
abbrev pub HasHead : StoreState → List ℕ → Option IndexHead → Type 0
HasHead m i None = get m.indexes i ≡ None
HasHead m i (Some h) = (x : Index) × ((get m.indexes i ≡ Some x) × ((h.kind ≡ kinds.kind x.body) × (h.target.table ≡ x.table)))

-- a call that didn't fail gave the reply of this effect
abbrev pub RepliesBy : Effect → Result (Vec ℕ Global) KeepFault → Type 0
RepliesBy effect result = IfOk result (λ reply. reply.items ≡ reply_by effect)

-- ---- where the name of the index is known

abbrev pub RepliesNamed : {K : Type 0} → (K → KeeperView) → K → List ℕ → List Arg → Result (Vec ℕ Global) KeepFault → Type 0
RepliesNamed view old i args result = OverStates view old (λ m c. RepliesBy (result_named m args (Some i)) result)

abbrev pub NamedLooksFew : {K : Type 0} → (K → KeeperView) → K → K → List ℕ → List Arg → Type 0
NamedLooksFew view old new i args =
    OverStates view old (λ m c. RisesBy (looks_by (result_named m args (Some i)) (index_looks c m i (get m.indexes i) args)) (view old).counts (view new).counts)

-- ---- where there is an index of the name, with this head

abbrev pub OverHead : {K : Type 0} → (K → KeeperView) → K → List ℕ → IndexHead → (StoreState → Content → Index → Type 0) → Type 0
OverHead view old i head holds =
    (m : StoreState) (c : Content) (x : Index) → (view old).content ≡ Some c → StandsForState c m → get m.indexes i ≡ Some x → head.kind ≡ kinds.kind x.body → head.target.table ≡ x.table → holds m c x

abbrev pub RepliesOf : {K : Type 0} → (K → KeeperView) → K → List ℕ → IndexHead → List Arg → Result (Vec ℕ Global) KeepFault → Type 0
RepliesOf view old i head args result = OverHead view old i head (λ m c x. RepliesBy (result_of m x args (parts_in args)) result)

abbrev pub LooksFewOf : {K : Type 0} → (K → KeeperView) → K → K → List ℕ → IndexHead → List Arg → Type 0
LooksFewOf view old new i head args =
    OverHead view old i head (λ m c x. RisesBy (looks_by (result_of m x args (parts_in args)) (index_looks c m i (Some x) args)) (view old).counts (view new).counts)

-- ---- where it is a CONTEXT index on a table of this name with these columns

abbrev pub OverContextOn : {K : Type 0} → (K → KeeperView) → K → List ℕ → List ℕ → List Column → (StoreState → Content → IndexOf ContextIndex → Type 0) → Type 0
OverContextOn view old i t columns holds =
    (m : StoreState) (c : Content) (y : IndexOf ContextIndex) → (view old).content ≡ Some c → StandsForState c m → get m.indexes i ≡ Some (as_index y) → y.table ≡ t
    → (table_at m.tables t).columns ≡ columns → holds m c y

abbrev pub RepliesSearch : {K : Type 0} → (K → KeeperView) → K → List ℕ → List ℕ → List Column → List ℕ → List ResultPart → Result (Vec ℕ Global) KeepFault → Type 0
RepliesSearch view old i t columns query parts result = OverContextOn view old i t columns (λ m c y. RepliesBy (search_effect m (as_index y) query parts) result)

abbrev pub SearchLooksFew : {K : Type 0} → (K → KeeperView) → K → K → List ℕ → List ℕ → List Column → List ℕ → List ResultPart → Type 0
SearchLooksFew view old new i t columns query parts =
    OverContextOn view old i t columns (λ m c y. RisesBy (looks_by (search_effect m (as_index y) query parts) (found_looks c m i (as_index y) query parts)) (view old).counts (view new).counts)

-- ---- the rows that are found

-- where there is a table of this name with these columns, and the keys of the hits strictly rise: what the parts print of them
abbrev pub RepliesHits : {K : Type 0} → (K → KeeperView) → K → List ℕ → List Column → List ResultPart → List Hit → Result (Vec ℕ Global) KeepFault → Type 0
RepliesHits view old t columns parts found result =
    OverNamedTable view old t (λ m c x. x.columns ≡ columns → keys_rise_by int_cmp (map (λ h. h.0) (hit_rows found)) ≡ true → IfOk result (λ reply. reply.items ≡ result_text x parts (hit_rows found)))

-- computed example: a call that failed replied nothing
replied_nothing : (effect : Effect) (fault : KeepFault) → RepliesBy effect (Err fault) ≡ Unit {0}
replied_nothing effect fault = refl
