-- What CTX_DDL.OPTIMIZE_INDEX does.
use Rattle.std.specs.Prelude.{ℕ, pos, negsuc, nat_le, Bool, true, false, not, ◌&&◌, List, [], ◌∷◌, Option, Some, None, Result, IfOk, codes, ◌≡◌, refl}
use Rattle.std.specs.Bool.{if◌then◌else◌}
use Rattle.std.specs.Option.{option_and_then, option_map}
use Rattle.std.specs.FinMap.{get}
use Rattle.std.proofs.Common.{inl, inr}
use Rattle.st_parse.specs.declared.statements.Arg.{Arg}
use Rattle.st_parse.specs.declared.statements.Arg.TheVariants.{Text as TextArg, Number as NumberArg}
use Rattle.st_parse.specs.declared.statements.Whole.{Whole}
use Rattle.st_parse.specs.declared.statements.Whole.TheVariants.{Fits, Beyond}
use Rattle.ct_keep.specs.Content.{Change, Content, after}
use Rattle.ct_keep.specs.KeeperViews.{KeeperView}
use Rattle.ct_keep.specs.declared.keepers.KeepFault.{KeepFault}
use Rattle.tx_settings.specs.Attributes.{is_spelt}
use Rattle.ct_entry.specs.Maps.{alter}
use Rattle.ix_kinds.specs.Indextypes.{IndexOf, with_body}
use Rattle.ix_context.specs.Indexes.{ContextIndex}
use Rattle.ix_context.specs.Levels.{Level, Fast, Full, FullUpTo, optimised_body, optimised_index}
use Rattle.ix_indexes.specs.Indexes.{Body, Index, as_index, kinds}
use Rattle.db_names.specs.declared.heads.IndexKind.{IndexKind}
use Rattle.db_names.specs.declared.heads.IndexKind.TheVariants.{Context, Catalogue, Rules}
use Rattle.db_call.specs.Arguments.{argument_name, argument_text, spells_word}
use Rattle.db_cond.specs.Faults.{UnknownName, NoIndexOfKind, WrongValues, BadValue, OutOfRange}
use Rattle.db_state.specs.States.{StandsForState, StoreState}
use Rattle.db_state.specs.Effects.{Effect, Refused, Works, Optimises, whole_count, with_found}
use Rattle.db_state.specs.Entries.{Achieves}
use Rattle.db_state.specs.Lines.{call_done}
use Rattle.db_index.specs.IndexCalls.{index_call, kind_named}

-- ---- the arguments

-- the two levels
abbrev pub fast_word : List ℕ
fast_word = codes "fast"

abbrev pub full_word : List ℕ
full_word = codes "full"

-- the index and the level, which are texts; and for any level but FAST perhaps a limit, which is a number
abbrev pub are_optimize_args : List Arg → Bool
are_optimize_args (TextArg name ∷ TextArg level ∷ []) = true
are_optimize_args (TextArg name ∷ TextArg level ∷ NumberArg limit ∷ []) = not (is_spelt fast_word level)
are_optimize_args args = false

-- the level is neither FAST nor FULL, in any case
abbrev pub is_bad_level : List Arg → Bool
is_bad_level args = not (spells_word fast_word (argument_text 1 args)) && not (spells_word full_word (argument_text 1 args))

-- a limit is a number from 1 to 1,000,000
abbrev pub within_limits : ℕ → Option ℕ
within_limits n = if nat_le 1 n && nat_le n 1000000 then Some n else None

abbrev pub limit_of : Whole → Option ℕ
limit_of n = option_and_then within_limits (whole_count n)

-- the level that such arguments ask for; none where the limit is out of its range
abbrev pub level_asked : List Arg → Option Level
level_asked (TextArg name ∷ TextArg level ∷ []) = Some (if is_spelt fast_word level then Fast else Full)
level_asked (TextArg name ∷ TextArg level ∷ NumberArg limit ∷ []) = option_map FullUpTo (limit_of limit)
level_asked args = None

-- An index of another kind than CONTEXT isn't optimised.
abbrev pub is_no_context : Option IndexKind → Bool
is_no_context None = false
is_no_context (Some Context) = false
is_no_context (Some Catalogue) = true
is_no_context (Some Rules) = true

-- ---- what it makes of the state

abbrev pub body_optimised : Level → Body → Body
body_optimised level (inl b) = inl (optimised_body level b)
body_optimised level (inr b) = inr b

-- the index as it is tidier then
abbrev pub index_optimised : Level → Index → Index
index_optimised level x = with_body x (body_optimised level x.body)

abbrev pub with_optimised : StoreState → Level → List ℕ → StoreState
with_optimised m level i = record m { indexes = alter m.indexes i (index_optimised level) }

-- ---- the statement

-- the index is optimised
abbrev pub optimised : StoreState → Level → List ℕ → Effect
optimised m level i = Works (with_optimised m level i) call_done (Optimises m level i)

-- What the checks let pass has the name of an index, or is spelt as no name, which is a bad value. So the UnknownName here is never reached.
abbrev pub optimize_named : StoreState → Option (List ℕ) → Option Level → Effect
optimize_named m None level = Refused BadValue
optimize_named m (Some i) level = with_found level OutOfRange (λ (l : Level). with_found (get m.indexes i) (UnknownName i) (λ (x : Index). optimised m l i))

-- by the kind of the index that the first argument names
abbrev pub optimize_as_kind : Option IndexKind → StoreState → Option (List ℕ) → List Arg → Effect
optimize_as_kind kind m name args = index_call is_no_context (are_optimize_args args) (is_bad_level args) kind name (optimize_named m name (level_asked args))

abbrev pub optimize_index : StoreState → List Arg → Effect
optimize_index m args = optimize_as_kind (kind_named m (argument_name 0 args)) m (argument_name 0 args) args

-- ---- what its functions give

-- The batch makes of the content what the optimisation leads to, where the index is a CONTEXT index.
abbrev pub LeadsToOptimised : {K : Type 0} → (K → KeeperView) → K → Level → List ℕ → Result (List Change) KeepFault → Type 0
LeadsToOptimised view old level i result =
    (m : StoreState) (c : Content) (x : Index) → (view old).content ≡ Some c → StandsForState c m → get m.indexes i ≡ Some x → kinds.kind x.body ≡ Context
    → IfOk result (λ batch. Achieves (optimised m level i) call_done c (after batch c))

-- computed examples
abbrev di_with : List Arg → List Arg
di_with args = TextArg (codes "di") ∷ args

fast_in_any_case : level_asked (di_with (TextArg (codes "Fast") ∷ [])) ≡ Some Fast
fast_in_any_case = refl

fifty_terms : level_asked (di_with (TextArg (codes "FULL") ∷ NumberArg (Fits (pos 50)) ∷ [])) ≡ Some (FullUpTo 50)
fifty_terms = refl

no_term : (m : StoreState) → optimize_as_kind (Some Context) m (Some (codes "di")) (di_with (TextArg (codes "FULL") ∷ NumberArg (Fits (pos 0)) ∷ [])) ≡ Refused OutOfRange
no_term m = refl

one_too_many : limit_of (Fits (pos 1000001)) ≡ None
one_too_many = refl

the_most : limit_of (Fits (pos 1000000)) ≡ Some 1000000
the_most = refl

less_than_none : limit_of (Fits (negsuc 0)) ≡ None
less_than_none = refl

-- FAST has no limit, also where that is out of its range
fast_with_a_limit : (m : StoreState) → optimize_as_kind (Some Context) m (Some (codes "di")) (di_with (TextArg (codes "FAST") ∷ NumberArg Beyond ∷ [])) ≡ Refused WrongValues
fast_with_a_limit m = refl

-- another level comes before a limit that is out of its range
another_level : (m : StoreState) → optimize_as_kind (Some Context) m (Some (codes "di")) (di_with (TextArg (codes "TOKEN") ∷ NumberArg (Fits (pos 0)) ∷ [])) ≡ Refused BadValue
another_level m = refl

no_level : (m : StoreState) → optimize_as_kind (Some Context) m (Some (codes "di")) (di_with []) ≡ Refused WrongValues
no_level m = refl

a_rule_index : (m : StoreState) → optimize_as_kind (Some Rules) m (Some (codes "ri")) (TextArg (codes "ri") ∷ []) ≡ Refused NoIndexOfKind
a_rule_index m = refl

no_such_index : (m : StoreState) → optimize_as_kind None m (Some (codes "nope")) (TextArg (codes "nope") ∷ TextArg (codes "TOKEN") ∷ []) ≡ Refused (UnknownName (codes "nope"))
no_such_index m = refl

no_name : (m : StoreState) → optimize_index m (TextArg (codes "no name") ∷ TextArg (codes "FULL") ∷ NumberArg Beyond ∷ []) ≡ Refused BadValue
no_name m = refl

it_is_the_index_optimised : (level : Level) (x : IndexOf ContextIndex) → index_optimised level (as_index x) ≡ as_index (optimised_index level x)
it_is_the_index_optimised level x = refl
