-- What the procedures of CTX_THES do.
use Rattle.std.specs.Prelude.{ℕ, ◌≡◌, List, [], ◌∷◌, Option, Some, None, codes, refl}
use Rattle.std.specs.FinMap.{get-empty}
use Rattle.std.specs.Ordering.{nat_cmp}
use Rattle.std.specs.Cmp.Lexicographic.{slice_cmp}
use Rattle.std.proofs.Common.{ap}
use Rattle.st_parse.specs.declared.statements.Arg.{Arg}
use Rattle.st_parse.specs.declared.statements.Arg.TheVariants.{Text}
use Rattle.st_parse.specs.declared.procedures.ThesaurusCall.{ThesaurusCall}
use Rattle.st_parse.specs.declared.procedures.ThesaurusCall.TheVariants.{CreateThesaurus, CreateRelation}
use Rattle.th_store.specs.Thesauri.{PairSet}
use Rattle.db_cond.specs.Faults.{UnknownName, BadValue}
use Rattle.db_state.specs.States.{StoreState, empty_state}
use Rattle.db_state.specs.Effects.{Effect, Refused}
use Rattle.db_call.specs.Arguments.{argument_name}
use Rattle.db_thes.specs.declared.stating.StatedRelation.{StatedRelation}
use Rattle.db_thes.specs.Stating.{stated}
use Rattle.db_thes.specs.Creating.{create_thesaurus}
use Rattle.db_thes.specs.Relating.{create_relation, relate_by}

-- by what a refusal may show: the name that the first argument spells, and what the arguments state
abbrev pub call_by : StoreState → ThesaurusCall → Option (List ℕ) → Option StatedRelation → List Arg → Effect
call_by m CreateThesaurus name s args = create_thesaurus m name args
call_by m CreateRelation name s args = create_relation m name s args

abbrev pub call_thesaurus : StoreState → ThesaurusCall → List Arg → Effect
call_thesaurus m procedure args = call_by m procedure (argument_name 0 args) (stated args) args

-- computed examples: the name comes before the arguments, and in lower case
no_thesaurus : call_thesaurus empty_state CreateRelation (Text (codes "TH") ∷ []) ≡ Refused (UnknownName (codes "th"))
no_thesaurus = ap (λ (o : Option PairSet). relate_by o empty_state (Some (codes "th")) None (Text (codes "TH") ∷ [])) (get-empty (slice_cmp nat_cmp) (codes "th"))

-- a name with a blank is none, and nothing is looked up by it
not_a_name : (m : StoreState) → call_thesaurus m CreateThesaurus (Text (codes "my thesaurus") ∷ []) ≡ Refused BadValue
not_a_name m = refl
