-- What the statements on indexes do is the same in states that are alike; and an optimisation leads to a state that is alike.
use Rattle.std.proofs.Common.{◌≡◌, ℕ, Bool, true, false, List, Option, Some, None, refl, sym, ap, ◌∙◌, inl, inr}
use Rattle.std.specs.Prelude.{nat_le, nat_lt, not, ◌||◌, is_some, length}
use Rattle.std.specs.Option.{option_map}
use Rattle.std.specs.FinMap.{get, insert, remove}
use Rattle.ct_entry.specs.Maps.{Names, alter}
use Rattle.tb_table.specs.Tables.{Table}
use Rattle.tx_settings.specs.declared.attributes.Setting.{Setting}
use Rattle.tx_prefs.specs.declared.requests.Request.{Request}
use Rattle.st_parse.specs.declared.statements.Arg.{Arg}
use Rattle.st_parse.specs.declared.statements.Whole.{Whole}
use Rattle.ix_kinds.specs.Indextypes.{with_body}
use Rattle.ix_kinds.specs.Targets.{is_text_at}
use Rattle.ix_kinds.specs.Statements.{index_after_sync, indexes_after_sync, new_index}
use Rattle.ix_context.specs.Levels.{Level, Fast, Full, FullUpTo}
use Rattle.ix_indexes.specs.Indexes.{Body, Index, kinds}
use Rattle.db_names.specs.declared.heads.IndexKind.{IndexKind}
use Rattle.db_cond.specs.Faults.{Refusal, UnknownName, NoIndexOfKind, ExistsAlready, WrongValues, BadValue, OutOfRange, LimitReached, ValueTooLong}
use Rattle.ct_base.specs.Limits.{text_limit}
use Rattle.db_call.specs.Arguments.{argument_name}
use Rattle.db_state.specs.States.{StoreState, index_limit, named_thesauri}
use Rattle.db_state.specs.Effects.{Effect, Does, Works, Syncs, refuse, refuse_by, with_found, state_by}
use Rattle.db_state.specs.Lines.{call_done}
use Rattle.db_state.specs.Columns.{column_place}
use Rattle.db_state.specs.Lookups.{is_on_column}
use Rattle.db_state.specs.Alike.{plain_state, plain_body, plain_effect, plain_index, plain_indexes, AreAlike, DoesSamePlain}
use Rattle.db_state.specs.laws.Alike.{alter-plain, alter-unseen, any-plain, can_sync_plain, count_on-plain, get-plain, index_twice, insert-plain, kind_plain, on_column, remove-plain, sync_plain}
use Rattle.db_state.specs.laws.AlikeChecks.{does_indexes, does_plain, refuse_by_same, refuse_same, with_found_same, with_named_same}
use Rattle.db_index.specs.declared.asking.Wanted.{Wanted}
use Rattle.db_index.specs.declared.kinds.BuiltKind.{BuiltKind}
use Rattle.db_index.specs.Kinds.{index_kind}
use Rattle.db_index.specs.Asking.{first_unknown_name, fitting, requests_in, wanted_in}
use Rattle.db_index.specs.Dropping.{drop_index, index_dropped, with_index_dropped}
use Rattle.db_index.specs.IndexCalls.{index_call, kind_named, unknown_name}
use Rattle.db_index.specs.Indexing.{asked_for, create_index, create_index_on, has_index_on, index_created, index_made_by, is_degree, is_index_taken, passes_limit, target, has_too_many_rows}
use Rattle.db_index.specs.Optimizing.{are_optimize_args, body_optimised, index_optimised, is_bad_level, is_no_context, level_asked, optimised, optimize_as_kind, optimize_index, optimize_named, with_optimised}
use Rattle.db_index.specs.Syncing.{are_sync_args, has_too_many, is_bad_size, is_other_kind, sync_as_kind, sync_found, sync_index, sync_named, with_synced}
use Rattle.db_index.specs.Tokenizing.{lexer_name, policy_tokens, settings_asked, text_asked, token_lines, unknown_lexer}

-- ---- DROP INDEX

pub drop_index_plain : (i : List ℕ) → DoesSamePlain (λ m. drop_index m i)
drop_index_plain i m =
    with_named_same m.indexes i (UnknownName i) (λ x. Does (with_index_dropped (plain_state m) i) index_dropped)
    (λ x. Does (with_index_dropped m i) index_dropped)
    (λ x. does_indexes m (remove (plain_indexes m.indexes) i) (remove m.indexes i) index_dropped (remove-plain m.indexes i))

-- ---- calls for an index, which their first argument names

-- the kind of the index of the name
pub kind_named_plain : (m : StoreState) (name : Option (List ℕ)) → kind_named (plain_state m) name ≡ kind_named m name
kind_named_plain m None = refl
kind_named_plain m (Some i) = ap (option_map (λ (x : Index). kinds.kind x.body)) (get-plain m.indexes i) ∙ go (get m.indexes i)
  where
    go : (o : Option Index) → option_map (λ (x : Index). kinds.kind x.body) (option_map plain_index o) ≡ option_map (λ (x : Index). kinds.kind x.body) o
    go None = refl
    go (Some x) = ap Some (kind_plain x.body)

index_call_same : (other : Option IndexKind → Bool) (shaped bad : Bool) (kind : Option IndexKind) (name : Option (List ℕ)) (e f : Effect)
    → plain_effect e ≡ plain_effect f
    → plain_effect (index_call other shaped bad kind name e) ≡ plain_effect (index_call other shaped bad kind name f)
index_call_same other shaped bad kind name e f same =
    refuse_by_same (unknown_name (is_some kind) name) UnknownName
    (refuse (other kind) NoIndexOfKind (refuse (not shaped) WrongValues (refuse bad BadValue e)))
    (refuse (other kind) NoIndexOfKind (refuse (not shaped) WrongValues (refuse bad BadValue f)))
    (refuse_same (other kind) NoIndexOfKind (refuse (not shaped) WrongValues (refuse bad BadValue e)) (refuse (not shaped) WrongValues (refuse bad BadValue f))
    (refuse_same (not shaped) WrongValues (refuse bad BadValue e) (refuse bad BadValue f)
    (refuse_same bad BadValue e f same)))

-- ---- SYNC_INDEX

sync_found_plain : (m : StoreState) (i : List ℕ) (x : Index) → plain_effect (sync_found (plain_state m) i (plain_index x)) ≡ plain_effect (sync_found m i x)
sync_found_plain m i x =
    ap (λ (b : Bool). plain_effect (refuse (not b) LimitReached (Works (with_synced (plain_state m) i) call_done (Syncs (plain_state m) i)))) (can_sync_plain x)
    ∙ refuse_same (has_too_many x) LimitReached (Works (with_synced (plain_state m) i) call_done (Syncs (plain_state m) i))
    (Works (with_synced m i) call_done (Syncs m i))
    (does_indexes m (indexes_after_sync kinds (named_thesauri m) m.tables i (plain_indexes m.indexes)) (indexes_after_sync kinds (named_thesauri m) m.tables i m.indexes) call_done
    (alter-plain m.indexes i (index_after_sync kinds (named_thesauri m) m.tables) (sync_plain (named_thesauri m) m.tables)))

sync_named_plain : (m : StoreState) (name : Option (List ℕ)) → plain_effect (sync_named (plain_state m) name) ≡ plain_effect (sync_named m name)
sync_named_plain m None = refl
sync_named_plain m (Some i) = with_named_same m.indexes i (UnknownName i) (λ x. sync_found (plain_state m) i x) (λ x. sync_found m i x) (sync_found_plain m i)

pub sync_index_plain : (args : List Arg) → DoesSamePlain (λ m. sync_index m args)
sync_index_plain args m =
    ap (λ (kind : Option IndexKind). plain_effect (sync_as_kind kind (plain_state m) (argument_name 0 args) args)) (kind_named_plain m (argument_name 0 args))
    ∙ index_call_same is_other_kind (are_sync_args args) (is_bad_size args) (kind_named m (argument_name 0 args)) (argument_name 0 args)
    (sync_named (plain_state m) (argument_name 0 args)) (sync_named m (argument_name 0 args)) (sync_named_plain m (argument_name 0 args))

-- ---- OPTIMIZE_INDEX

-- it changes nothing else
body_unseen : (level : Level) (b : Body) → plain_body (body_optimised level b) ≡ plain_body b
body_unseen Fast (inl c) = refl
body_unseen Full (inl c) = refl
body_unseen (FullUpTo n) (inl c) = refl
body_unseen level (inr b) = refl

index_unseen : (level : Level) (x : Index) → plain_index (index_optimised level x) ≡ plain_index x
index_unseen level x = ap (with_body x) (body_unseen level x.body)

-- THE STATE IS ALIKE ONCE AN INDEX IS OPTIMISED
pub optimised_alike : (m : StoreState) (level : Level) (i : List ℕ) → AreAlike (with_optimised m level i) m
optimised_alike m level i = ap (λ (xs : Names Index). record m { indexes = xs }) (alter-unseen m.indexes i (index_optimised level) (index_unseen level))

optimised_plain : (m : StoreState) (level : Level) (i : List ℕ) → plain_effect (optimised (plain_state m) level i) ≡ plain_effect (optimised m level i)
optimised_plain m level i =
    does_indexes m (alter (plain_indexes m.indexes) i (index_optimised level)) (alter m.indexes i (index_optimised level)) call_done
    (alter-plain m.indexes i (index_optimised level) (λ x. index_unseen level (plain_index x) ∙ index_twice x ∙ sym (index_unseen level x)))

optimize_named_plain : (m : StoreState) (name : Option (List ℕ)) (level : Option Level)
    → plain_effect (optimize_named (plain_state m) name level) ≡ plain_effect (optimize_named m name level)
optimize_named_plain m None level = refl
optimize_named_plain m (Some i) level =
    with_found_same level OutOfRange (λ l. with_found (get (plain_indexes m.indexes) i) (UnknownName i) (λ (x : Index). optimised (plain_state m) l i))
    (λ l. with_found (get m.indexes i) (UnknownName i) (λ (x : Index). optimised m l i))
    (λ l. with_named_same m.indexes i (UnknownName i) (λ x. optimised (plain_state m) l i) (λ x. optimised m l i) (λ x. optimised_plain m l i))

pub optimize_index_plain : (args : List Arg) → DoesSamePlain (λ m. optimize_index m args)
optimize_index_plain args m =
    ap (λ (kind : Option IndexKind). plain_effect (optimize_as_kind kind (plain_state m) (argument_name 0 args) args))
    (kind_named_plain m (argument_name 0 args))
    ∙ index_call_same is_no_context (are_optimize_args args) (is_bad_level args) (kind_named m (argument_name 0 args)) (argument_name 0 args)
    (optimize_named (plain_state m) (argument_name 0 args) (level_asked args)) (optimize_named m (argument_name 0 args) (level_asked args))
    (optimize_named_plain m (argument_name 0 args) (level_asked args))

-- whatever it asks for, the state after it is alike
refuse_alike : (m : StoreState) (b : Bool) (refusal : Refusal) (e : Effect) → AreAlike (state_by m e) m
    → AreAlike (state_by m (refuse b refusal e)) m
refuse_alike m true refusal e alike = refl
refuse_alike m false refusal e alike = alike

refuse_by_alike : {X : Type 0} (m : StoreState) (o : Option X) (refusal : X → Refusal) (e : Effect) → AreAlike (state_by m e) m
    → AreAlike (state_by m (refuse_by o refusal e)) m
refuse_by_alike m None refusal e alike = alike
refuse_by_alike m (Some x) refusal e alike = refl

found_alike : {X : Type 0} (m : StoreState) (o : Option X) (refusal : Refusal) (e : X → Effect) → ((x : X) → AreAlike (state_by m (e x)) m)
    → AreAlike (state_by m (with_found o refusal e)) m
found_alike m None refusal e alike = refl
found_alike m (Some x) refusal e alike = alike x

optimize_named_alike : (m : StoreState) (name : Option (List ℕ)) (level : Option Level) → AreAlike (state_by m (optimize_named m name level)) m
optimize_named_alike m None level = refl
optimize_named_alike m (Some i) level =
    found_alike m level OutOfRange (λ l. with_found (get m.indexes i) (UnknownName i) (λ (x : Index). optimised m l i))
    (λ l. found_alike m (get m.indexes i) (UnknownName i) (λ x. optimised m l i) (λ x. optimised_alike m l i))

pub optimize_index_alike : (m : StoreState) (args : List Arg) → AreAlike (state_by m (optimize_index m args)) m
optimize_index_alike m args =
    refuse_by_alike m (unknown_name (is_some (kind_named m name)) name) UnknownName
    (refuse (is_no_context (kind_named m name)) NoIndexOfKind (refuse (not (are_optimize_args args)) WrongValues (refuse (is_bad_level args) BadValue done)))
    (refuse_alike m (is_no_context (kind_named m name)) NoIndexOfKind (refuse (not (are_optimize_args args)) WrongValues (refuse (is_bad_level args) BadValue done))
    (refuse_alike m (not (are_optimize_args args)) WrongValues (refuse (is_bad_level args) BadValue done)
    (refuse_alike m (is_bad_level args) BadValue done (optimize_named_alike m name (level_asked args)))))
  where
    name : Option (List ℕ)
    name = argument_name 0 args

    done : Effect
    done = optimize_named m name (level_asked args)

-- ---- CREATE INDEX

index_taken_plain : (m : StoreState) (kind : BuiltKind) (i t : List ℕ) (place : ℕ)
    → is_index_taken kind (plain_state m) i t place ≡ is_index_taken kind m i t place
index_taken_plain m kind i t place =
    ap (λ (o : Option Index). is_some o || has_index_on (index_kind kind) (plain_indexes m.indexes) t place) (get-plain m.indexes i)
    ∙ ap (λ (b : Bool). b || has_index_on (index_kind kind) (plain_indexes m.indexes) t place) (there (get m.indexes i))
    ∙ ap (λ (b : Bool). is_some (get m.indexes i) || b)
    (any-plain (λ e. is_on_column (index_kind kind) t place e.1) (λ e. on_column (index_kind kind) t place e.1) m.indexes)
  where
    there : (o : Option Index) → is_some (option_map plain_index o) ≡ is_some o
    there None = refl
    there (Some x) = refl

create_on_plain : (m : StoreState) (i t : List ℕ) (kind : BuiltKind) (parallel : Option Whole) (x : Table) (place : ℕ) (found : Option Wanted)
    → plain_effect (create_index_on (plain_state m) i t kind parallel x place found) ≡ plain_effect (create_index_on m i t kind parallel x place found)
create_on_plain m i t kind parallel x place found =
    ap (λ (b : Bool). plain_effect (refuse b (ExistsAlready i) (refuse (not (is_text_at x.columns place)) WrongValues (with_found (fitting x.columns found) BadValue before))))
    (index_taken_plain m kind i t place)
    ∙ refuse_same (is_index_taken kind m i t place) (ExistsAlready i)
    (refuse (not (is_text_at x.columns place)) WrongValues (with_found (fitting x.columns found) BadValue before))
    (refuse (not (is_text_at x.columns place)) WrongValues (with_found (fitting x.columns found) BadValue after))
    (refuse_same (not (is_text_at x.columns place)) WrongValues (with_found (fitting x.columns found) BadValue before) (with_found (fitting x.columns found) BadValue after)
    (with_found_same (fitting x.columns found) BadValue before after
    (λ w. refuse_same (not (is_degree parallel)) OutOfRange (within (plain_state m) w) (within m w)
    (ap (λ (n : ℕ). plain_effect (refuse (nat_le index_limit n || has_too_many_rows m t kind w) LimitReached (index_made_by (plain_state m) i t kind place w))) (count_on-plain m.indexes t)
    ∙ refuse_same (passes_limit m t kind w) LimitReached (index_made_by (plain_state m) i t kind place w) (index_made_by m i t kind place w) (made w)))))
  where
    within : StoreState → Wanted → Effect
    within n w = refuse (passes_limit n t kind w) LimitReached (index_made_by n i t kind place w)

    before : Wanted → Effect
    before w = refuse (not (is_degree parallel)) OutOfRange (within (plain_state m) w)

    after : Wanted → Effect
    after w = refuse (not (is_degree parallel)) OutOfRange (within m w)

    made : (w : Wanted) → plain_effect (index_made_by (plain_state m) i t kind place w) ≡ plain_effect (index_made_by m i t kind place w)
    made w =
        does_indexes m (insert (plain_indexes m.indexes) i (new_index kinds (asked_for kind w) (named_thesauri m) m.tables (target t place) w.prefs))
        (insert m.indexes i (new_index kinds (asked_for kind w) (named_thesauri m) m.tables (target t place) w.prefs)) index_created
        (insert-plain m.indexes i (new_index kinds (asked_for kind w) (named_thesauri m) m.tables (target t place) w.prefs))

pub create_index_plain : (i t column : List ℕ) (kind : BuiltKind) (parameters : Option (List ℕ)) (parallel : Option Whole)
    → DoesSamePlain (λ m. create_index m i t column kind parameters parallel)
create_index_plain i t column kind parameters parallel m =
    with_found_same (get m.tables t) (UnknownName t) (λ x. with_found (column_place column x.columns) (UnknownName column) (by (plain_state m) x))
    (λ x. with_found (column_place column x.columns) (UnknownName column) (by m x))
    (λ x. with_found_same (column_place column x.columns) (UnknownName column) (by (plain_state m) x) (by m x)
    (λ place. refuse_by_same (first_unknown_name m.preferences x.columns requests) UnknownName (on (plain_state m) x place) (on m x place)
    (create_on_plain m i t kind parallel x place (wanted_in m.preferences requests))))
  where
    requests : Option (List Request)
    requests = requests_in kind parameters

    on : StoreState → Table → ℕ → Effect
    on n x place = create_index_on n i t kind parallel x place (wanted_in n.preferences requests)

    by : StoreState → Table → ℕ → Effect
    by n x place = refuse_by (first_unknown_name n.preferences x.columns requests) UnknownName (on n x place)

-- ---- POLICY_TOKENS

pub policy_tokens_plain : (args : List Arg) → DoesSamePlain (λ m. policy_tokens m args)
policy_tokens_plain args m =
    refuse_by_same (unknown_lexer m.preferences (lexer_name args)) UnknownName (with_found (text_asked args) WrongValues (asked (plain_state m)))
    (with_found (text_asked args) WrongValues (asked m))
    (with_found_same (text_asked args) WrongValues (asked (plain_state m)) (asked m)
    (λ text. refuse_same (nat_lt text_limit (length text)) ValueTooLong (with_found settings BadValue (shown (plain_state m) text)) (with_found settings BadValue (shown m text))
    (with_found_same settings BadValue (shown (plain_state m) text) (shown m text) (λ s. does_plain m (token_lines s text)))))
  where
    settings : Option (List Setting)
    settings = settings_asked m.preferences args

    shown : StoreState → List ℕ → List Setting → Effect
    shown n text s = Does n (token_lines s text)

    asked : StoreState → List ℕ → Effect
    asked n text = refuse (nat_lt text_limit (length text)) ValueTooLong (with_found settings BadValue (shown n text))
