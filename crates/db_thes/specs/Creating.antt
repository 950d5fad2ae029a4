-- What CTX_THES.CREATE_THESAURUS does.
use Rattle.std.specs.Prelude.{ℕ, ◌≡◌, Bool, true, false, List, [], ◌∷◌, is_some, Option, Some, None, codes, refl}
use Rattle.std.specs.FinMap.{get-empty}
use Rattle.std.specs.Ordering.{nat_cmp}
use Rattle.std.specs.Cmp.Lexicographic.{slice_cmp}
use Rattle.std.proofs.Common.{ap}
use Rattle.st_parse.specs.declared.statements.Arg.{Arg}
use Rattle.st_parse.specs.declared.statements.Arg.TheVariants.{Text, Flag}
use Rattle.th_store.specs.Thesauri.{PairSet, with_thesaurus}
use Rattle.th_store.specs.Sees.{is_at_thesaurus_limit}
use Rattle.db_cond.specs.Faults.{ExistsAlready, WrongValues, BadValue, LimitReached}
use Rattle.db_state.specs.States.{StoreState, empty_state}
use Rattle.db_state.specs.Effects.{Effect, Refused, Does, refuse, with_found}
use Rattle.db_state.specs.Lines.{call_done}
use Rattle.db_call.specs.Checks.{check, get_named, taken_name}

-- whether the arguments are a name, and whether case counts, which may be left out
abbrev pub are_create_args : List Arg → Bool
are_create_args (Text name ∷ []) = true
are_create_args (Text name ∷ Flag b ∷ []) = true
are_create_args args = false

-- whether the second argument is TRUE, by which case would count
abbrev pub is_case_asked : List Arg → Bool
is_case_asked (a ∷ Flag b ∷ args) = b
is_case_asked args = false

-- a new thesaurus, where there is room for one
abbrev pub created : StoreState → List ℕ → Effect
created m name = refuse (is_at_thesaurus_limit m.thesauri) LimitReached (Does (record m { thesauri = with_thesaurus m.thesauri name }) call_done)

-- by what is there of the name
abbrev pub create_by : Option PairSet → StoreState → Option (List ℕ) → List Arg → Effect
create_by found m name args =
    check None (taken_name (is_some found) name) (are_create_args args)
    (refuse (is_case_asked args) BadValue
    (with_found name BadValue (created m)))

abbrev pub create_thesaurus : StoreState → Option (List ℕ) → List Arg → Effect
create_thesaurus m name args = create_by (get_named m.thesauri name) m name args

-- computed examples
there_already : (m : StoreState) (ps : PairSet) (args : List Arg) → create_by (Some ps) m (Some (codes "th")) args ≡ Refused (ExistsAlready (codes "th"))
there_already m ps args = refl

wrong_arguments : (m : StoreState) → create_by None m (Some (codes "th")) (Text (codes "th") ∷ Text (codes "FALSE") ∷ []) ≡ Refused WrongValues
wrong_arguments m = refl

case_never_counts : (m : StoreState) → create_by None m (Some (codes "th")) (Text (codes "th") ∷ Flag true ∷ []) ≡ Refused BadValue
case_never_counts m = refl

not_a_name : (m : StoreState) → create_by None m None (Text (codes "my thesaurus") ∷ []) ≡ Refused BadValue
not_a_name m = refl

in_a_new_store : create_thesaurus empty_state (Some (codes "th")) (Text (codes "th") ∷ Flag false ∷ []) ≡ created empty_state (codes "th")
in_a_new_store = ap (λ (o : Option PairSet). create_by o empty_state (Some (codes "th")) (Text (codes "th") ∷ Flag false ∷ [])) (get-empty (slice_cmp nat_cmp) (codes "th"))
