-- What CTX_DDL.SYNC_INDEX does.
use Rattle.std.specs.Prelude.{ℕ, pos, ◌==◌, Bool, true, false, not, ◌||◌, ◌&&◌, List, [], ◌∷◌, Option, Some, None, Result, IfOk, codes, ◌≡◌, refl, MatchOption}
use Rattle.std.specs.Char.{to_ascii_lowercase, is_ascii_digit}
use Rattle.std.specs.FinMap.{get}
use Rattle.std.proofs.Common.{inr}
use Rattle.st_parse.specs.declared.statements.Arg.{Arg}
use Rattle.st_parse.specs.declared.statements.Arg.TheVariants.{Text as TextArg, Number as NumberArg}
use Rattle.db_call.specs.Arguments.{are_texts, argument_name}
use Rattle.ct_keep.specs.Content.{Change, Content}
use Rattle.ct_keep.specs.KeeperViews.{KeeperView}
use Rattle.ct_keep.specs.declared.keepers.KeepFault.{KeepFault}
use Rattle.ct_entry.specs.Changes.{spell}
use Rattle.tb_table.specs.Tables.{Table}
use Rattle.ix_kinds.specs.Statements.{indexes_after_sync}
use Rattle.rule_index.specs.RuleIndexes.{RuleIndex, all_settled, row_outcome}
use Rattle.ix_indexes.specs.Indexes.{Index, as_rules, kinds}
use Rattle.db_names.specs.declared.heads.IndexKind.{IndexKind}
use Rattle.db_names.specs.declared.heads.IndexKind.TheVariants.{Context, Catalogue, Rules}
use Rattle.db_cond.specs.Faults.{UnknownName, NoIndexOfKind, WrongValues, BadValue, LimitReached}
use Rattle.db_index.specs.IndexCalls.{index_call, kind_named}
use Rattle.db_state.specs.States.{StandsForState, StoreState, named_thesauri}
use Rattle.db_state.specs.Effects.{Effect, Refused, Works, Syncs, refuse, with_found}
use Rattle.db_state.specs.Entries.{its_sync_changes}
use Rattle.st_parse.specs.declared.statements.Whole.TheVariants.{Fits}
use Rattle.db_state.specs.Lines.{call_done}

-- the index by its name, and a size of memory, which has no effect
abbrev pub are_sync_args : List Arg → Bool
are_sync_args args = are_texts 1 args || are_texts 2 args

-- one of K, M and G, in any case
abbrev pub is_unit : ℕ → Bool
is_unit b = (to_ascii_lowercase b == 0x6b) || ((to_ascii_lowercase b == 0x6d) || (to_ascii_lowercase b == 0x67))

-- digits, and then a unit; `some` tells whether there was a digit before
abbrev pub is_size_from : Bool → List ℕ → Bool
is_size_from some [] = false
is_size_from some (b ∷ []) = some && is_unit b
is_size_from some (b ∷ c ∷ bs) = is_ascii_digit b && is_size_from true (c ∷ bs)

abbrev pub is_memory_size : List ℕ → Bool
is_memory_size text = is_size_from false text

abbrev pub is_bad_size : List Arg → Bool
is_bad_size (TextArg name ∷ TextArg memory ∷ []) = not (is_memory_size memory)
is_bad_size args = false

-- A catalogue is not synchronised, since no row waits in it.
abbrev pub is_other_kind : Option IndexKind → Bool
is_other_kind None = false
is_other_kind (Some Context) = false
is_other_kind (Some Catalogue) = true
is_other_kind (Some Rules) = false

-- whether it is the kind of a rule index, and the kind of what is synchronised by whether it is
abbrev pub is_rule_index : Option IndexKind → Bool
is_rule_index (Some Rules) = true
is_rule_index kind = false

abbrev pub synced_kind : Bool → IndexKind
synced_kind true = Rules
synced_kind false = Context

-- there are too few numbers for the rows that wait
abbrev pub has_too_many : Index → Bool
has_too_many x = not (kinds.can_sync x)

-- the index once each row that waited is settled, by the thesauri as they are now
abbrev pub with_synced : StoreState → List ℕ → StoreState
with_synced m i = record m { indexes = indexes_after_sync kinds (named_thesauri m) m.tables i m.indexes }

abbrev pub sync_found : StoreState → List ℕ → Index → Effect
sync_found m i x = refuse (has_too_many x) LimitReached (Works (with_synced m i) call_done (Syncs m i))

-- What the checks let pass has the name of an index, or is spelt as no name, which is a bad value. So the UnknownName here is never reached.
abbrev pub sync_named : StoreState → Option (List ℕ) → Effect
sync_named m None = Refused BadValue
sync_named m (Some i) = with_found (get m.indexes i) (UnknownName i) (λ (x : Index). sync_found m i x)

-- by the kind of the index that the first argument names
abbrev pub sync_as_kind : Option IndexKind → StoreState → Option (List ℕ) → List Arg → Effect
sync_as_kind kind m name args = index_call is_other_kind (are_sync_args args) (is_bad_size args) kind name (sync_named m name)

abbrev pub sync_index : StoreState → List Arg → Effect
sync_index m args = sync_as_kind (kind_named m (argument_name 0 args)) m (argument_name 0 args) args

-- ---- what its functions give

-- the changes of the synchronisation; none where the index would need more documents than there are numbers
abbrev pub MakesSync : List ℕ → StoreState → Content → Index → Option (List Change) → Type 0
MakesSync i m c x batch = MatchOption batch (has_too_many x ≡ true) (λ changes. (has_too_many x ≡ false) × (changes ≡ spell (its_sync_changes m c i x)))

-- of the index of this name, where there is one and it is of this kind
abbrev pub MakesSyncOf : {K : Type 0} → (K → KeeperView) → K → IndexKind → List ℕ → Result (Option (List Change)) KeepFault → Type 0
MakesSyncOf view old kind i result =
    (m : StoreState) (c : Content) (x : Index) → (view old).content ≡ Some c → StandsForState c m → get m.indexes i ≡ Some x → kinds.kind x.body ≡ kind → IfOk result (MakesSync i m c x)

-- computed examples
sixteen_megabytes : is_memory_size (codes "16m") ≡ true
sixteen_megabytes = refl

no_digits : is_memory_size (codes "M") ≡ false
no_digits = refl

no_unit : is_memory_size (codes "16") ≡ false
no_unit = refl

-- the name that no index has comes before the number of arguments
unknown_and_too_many : (m : StoreState)
    → sync_as_kind None m (Some (codes "nope")) (TextArg (codes "nope") ∷ NumberArg (Fits (pos 1)) ∷ NumberArg (Fits (pos 2)) ∷ []) ≡ Refused (UnknownName (codes "nope"))
unknown_and_too_many m = refl

-- so does a catalogue of the name
catalogue_and_too_many : (m : StoreState)
    → sync_as_kind (Some Catalogue) m (Some (codes "ci")) (TextArg (codes "ci") ∷ NumberArg (Fits (pos 1)) ∷ NumberArg (Fits (pos 2)) ∷ []) ≡ Refused NoIndexOfKind
catalogue_and_too_many m = refl

-- a rule index is synchronised, however many rules wait: each is read by the thesauri of the state
rules_pass : (m : StoreState) → sync_as_kind (Some Rules) m (Some (codes "ri")) (TextArg (codes "ri") ∷ []) ≡ sync_named m (Some (codes "ri"))
rules_pass m = refl

rules_settled : (m : StoreState) (t : Table) (x : RuleIndex) → kinds.after_sync (named_thesauri m) t (as_rules x) ≡ inr (inr (all_settled (row_outcome (named_thesauri m) t x.column x.prefs) x.body))
rules_settled m t x = refl

never_too_many : (x : RuleIndex) → has_too_many (as_rules x) ≡ false
never_too_many x = refl

-- a text that isn't spelt as a name is none that could be unknown
no_name_and_a_number : (m : StoreState) → sync_index m (TextArg (codes "no name") ∷ NumberArg (Fits (pos 1)) ∷ []) ≡ Refused WrongValues
no_name_and_a_number m = refl

no_name_alone : (m : StoreState) → sync_index m (TextArg (codes "no name") ∷ []) ≡ Refused BadValue
no_name_alone m = refl

bad_size : (m : StoreState) → sync_as_kind (Some Context) m (Some (codes "di")) (TextArg (codes "di") ∷ TextArg (codes "16") ∷ []) ≡ Refused BadValue
bad_size m = refl

in_any_case : argument_name 0 (TextArg (codes "DI") ∷ []) ≡ Some (codes "di")
in_any_case = refl
