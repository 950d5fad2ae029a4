-- What the procedures of CTX_THES do is the same in states that are alike: they look at no index.
use Rattle.std.proofs.Common.{◌≡◌, ℕ, List, Option, None}
use Rattle.std.specs.Prelude.{is_some}
use Rattle.st_parse.specs.declared.statements.Arg.{Arg}
use Rattle.st_parse.specs.declared.procedures.ThesaurusCall.{ThesaurusCall}
use Rattle.st_parse.specs.declared.procedures.ThesaurusCall.TheVariants.{CreateThesaurus, CreateRelation}
use Rattle.th_graph.specs.Pairs.{stated_pair}
use Rattle.th_store.specs.Thesauri.{PairSet, Thesauri, with_pair, with_thesaurus}
use Rattle.th_store.specs.Sees.{is_at_pair_limit, is_at_thesaurus_limit}
use Rattle.db_cond.specs.Faults.{BadValue, LimitReached}
use Rattle.db_call.specs.Arguments.{are_texts, argument_name}
use Rattle.db_call.specs.Checks.{get_named, missing_name, of_both, taken_name}
use Rattle.db_call.specs.laws.Alike.{asked_same, check_same}
use Rattle.db_state.specs.States.{StoreState}
use Rattle.db_state.specs.Effects.{Effect, Does, refuse, with_found}
use Rattle.db_state.specs.Lines.{call_done}
use Rattle.db_state.specs.Alike.{DoesSamePlain, plain_state, plain_effect}
use Rattle.db_state.specs.laws.AlikeChecks.{does_plain, refuse_same, with_found_same}
use Rattle.db_thes.specs.declared.stating.StatedRelation.{StatedRelation}
use Rattle.db_thes.specs.Calling.{call_by, call_thesaurus}
use Rattle.db_thes.specs.Creating.{are_create_args, create_thesaurus, created, is_case_asked}
use Rattle.db_thes.specs.Relating.{create_relation, is_known_in, related}
use Rattle.db_thes.specs.Stating.{stated, taken_term}

abbrev with_thesauri : StoreState → Thesauri → Effect
with_thesauri m ts = Does (record m { thesauri = ts }) call_done

created_plain : (m : StoreState) (name : List ℕ) → plain_effect (created (plain_state m) name) ≡ plain_effect (created m name)
created_plain m name =
    refuse_same (is_at_thesaurus_limit m.thesauri) LimitReached (with_thesauri (plain_state m) (with_thesaurus m.thesauri name))
    (with_thesauri m (with_thesaurus m.thesauri name))
    (does_plain (record m { thesauri = with_thesaurus m.thesauri name }) call_done)

create_plain : (m : StoreState) (name : Option (List ℕ)) (args : List Arg)
    → plain_effect (create_thesaurus (plain_state m) name args) ≡ plain_effect (create_thesaurus m name args)
create_plain m name args =
    check_same None (taken_name (is_some (get_named m.thesauri name)) name) (are_create_args args) (cased (plain_state m)) (cased m)
    (refuse_same (is_case_asked args) BadValue (with_found name BadValue (created (plain_state m))) (with_found name BadValue (created m))
    (with_found_same name BadValue (created (plain_state m)) (created m) (created_plain m)))
  where
    cased : StoreState → Effect
    cased n = refuse (is_case_asked args) BadValue (with_found name BadValue (created n))

related_plain : (m : StoreState) (s : StatedRelation) (name : List ℕ) (ps : PairSet)
    → plain_effect (related s (plain_state m) name ps) ≡ plain_effect (related s m name ps)
related_plain m s name ps =
    refuse_same (is_at_pair_limit ps) LimitReached (with_thesauri (plain_state m) after) (with_thesauri m after)
    (does_plain (record m { thesauri = after }) call_done)
  where
    after : Thesauri
    after = with_pair m.thesauri name (stated_pair s.relation s.first s.second)

relate_plain : (m : StoreState) (name : Option (List ℕ)) (s : Option StatedRelation) (args : List Arg)
    → plain_effect (create_relation (plain_state m) name s args) ≡ plain_effect (create_relation m name s args)
relate_plain m name s args =
    check_same (missing_name (is_some found) name) (taken_term (is_known_in found s) s) (are_texts 4 args) (relate (plain_state m)) (relate m)
    (asked_same s name found (λ s. related s (plain_state m)) (λ s. related s m) (related_plain m))
  where
    found : Option PairSet
    found = get_named m.thesauri name

    relate : StoreState → Effect
    relate n = with_found s BadValue (λ s. of_both name found (related s n))

by_plain : (m : StoreState) (procedure : ThesaurusCall) (name : Option (List ℕ)) (s : Option StatedRelation) (args : List Arg)
    → plain_effect (call_by (plain_state m) procedure name s args) ≡ plain_effect (call_by m procedure name s args)
by_plain m CreateThesaurus name s args = create_plain m name args
by_plain m CreateRelation name s args = relate_plain m name s args

pub call_thesaurus_plain : (procedure : ThesaurusCall) (args : List Arg) → DoesSamePlain (λ m. call_thesaurus m procedure args)
call_thesaurus_plain procedure args m = by_plain m procedure (argument_name 0 args) (stated args) args
