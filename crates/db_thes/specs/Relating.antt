-- What CTX_THES.CREATE_RELATION does.
use Rattle.std.specs.Prelude.{ℕ, ◌≡◌, Bool, true, false, not, List, [], ◌∷◌, is_some, Option, Some, None, Result, Ok, IfOk, codes, refl}
use Rattle.std.specs.FinMap.{get, get-empty}
use Rattle.std.specs.Ordering.{nat_cmp}
use Rattle.std.specs.Cmp.Lexicographic.{slice_cmp}
use Rattle.std.proofs.Common.{ap}
use Rattle.ct_keep.specs.declared.keepers.KeepFault.{KeepFault}
use Rattle.st_parse.specs.declared.statements.Arg.{Arg}
use Rattle.st_parse.specs.declared.statements.Arg.TheVariants.{Text}
use Rattle.th_graph.specs.Pairs.{stated_pair}
use Rattle.th_graph.specs.Relating.{is_known}
use Rattle.th_store.specs.Thesauri.{PairSet, pairs_of, with_pair}
use Rattle.th_store.specs.Sees.{is_at_pair_limit}
use Rattle.db_cond.specs.Faults.{UnknownName, ExistsAlready, WrongValues, BadValue, LimitReached}
use Rattle.db_state.specs.declared.plans.Plan.{Plan}
use Rattle.db_state.specs.States.{StoreState, empty_state}
use Rattle.db_state.specs.Effects.{Effect, Refused, Does, refuse, refuse_by, with_found}
use Rattle.db_state.specs.Lines.{call_done}
use Rattle.db_state.specs.Plans.{PlansWhere}
use Rattle.db_call.specs.Arguments.{are_texts}
use Rattle.db_call.specs.Checks.{check, get_named, missing_name, of_both}
use Rattle.db_thes.specs.declared.stating.StatedRelation.{StatedRelation}
use Rattle.db_thes.specs.Stating.{taken_term}

-- whether the thesaurus is there and knows what is stated
abbrev pub is_known_in : Option PairSet → Option StatedRelation → Bool
is_known_in None s = false
is_known_in (Some ps) None = false
is_known_in (Some ps) (Some s) = is_known s.relation s.first s.second (pairs_of ps)

-- what is known of what is stated, in the thesaurus of a name, by one who was told whether this is there
abbrev pub TellsIfKnown : Bool → StoreState → Option (List ℕ) → Option StatedRelation → Result Bool KeepFault → Type 0
TellsIfKnown there m name s result = there ≡ is_some (get_named m.thesauri name) → IfOk result (λ known. known ≡ is_known_in (get_named m.thesauri name) s)

-- the thesaurus with the relation, where there is room for a pair more
abbrev pub related : StatedRelation → StoreState → List ℕ → PairSet → Effect
related s m name ps = refuse (is_at_pair_limit ps) LimitReached (Does (record m { thesauri = with_pair m.thesauri name (stated_pair s.relation s.first s.second) }) call_done)

-- by what is there of the name, and by what the arguments state
abbrev pub relate_by : Option PairSet → StoreState → Option (List ℕ) → Option StatedRelation → List Arg → Effect
relate_by found m name s args =
    check (missing_name (is_some found) name) (taken_term (is_known_in found s) s) (are_texts 4 args)
    (with_found s BadValue (λ (s : StatedRelation).
    of_both name found (related s m)))

abbrev pub create_relation : StoreState → Option (List ℕ) → Option StatedRelation → List Arg → Effect
create_relation m name s args = relate_by (get_named m.thesauri name) m name s args

-- The call gave the plan that adds the relation to the thesaurus of this name, over each state where the thesaurus is there and doesn't know
-- it; and it was told whether the thesaurus has as many pairs as it may have.
abbrev pub PlansRelation : {E : Type 0} → Result Plan E → List ℕ → StatedRelation → Bool → Type 0
PlansRelation result name s full =
    (ps : PairSet) → PlansWhere result (λ m. (get m.thesauri name ≡ Some ps) × (full ≡ is_at_pair_limit ps) × (is_known s.relation s.first s.second (pairs_of ps) ≡ false)) (λ m. related s m name ps)

-- computed examples
of_no_name : (m : StoreState) (s : StatedRelation) → TellsIfKnown false m None (Some s) (Ok false)
of_no_name m s told = refl

no_thesaurus : (s : Option StatedRelation) (args : List Arg) → create_relation empty_state (Some (codes "th")) s args ≡ Refused (UnknownName (codes "th"))
no_thesaurus s args = ap (λ (o : Option PairSet). relate_by o empty_state (Some (codes "th")) s args) (get-empty (slice_cmp nat_cmp) (codes "th"))

-- what is known is refused by the first term, whatever else is wrong
known_already : (m : StoreState) (ps : PairSet) (s : StatedRelation) (args : List Arg) → is_known s.relation s.first s.second (pairs_of ps) ≡ true → relate_by (Some ps) m (Some (codes "th")) (Some s) args ≡ Refused (ExistsAlready s.first)
known_already m ps s args known = ap (λ (b : Bool). refuse_by (taken_term b (Some s)) ExistsAlready (refuse (not (are_texts 4 args)) WrongValues (related s m (codes "th") ps))) known

wrong_arguments : (m : StoreState) (ps : PairSet) → relate_by (Some ps) m (Some (codes "th")) None (Text (codes "th") ∷ Text (codes "dog") ∷ []) ≡ Refused WrongValues
wrong_arguments m ps = refl

-- a word that names no relation, or a text that stands for no term
nothing_stated : (m : StoreState) (ps : PairSet) → relate_by (Some ps) m (Some (codes "th")) None (Text (codes "th") ∷ Text (codes "dog") ∷ Text (codes "RT") ∷ Text (codes "cat") ∷ []) ≡ Refused BadValue
nothing_stated m ps = refl
