-- The effects by what was read, and what is known where the checks let pass.
use Rattle.std.proofs.Common.{◌≡◌, ℕ, Bool, true, false, List, [], Option, Some, None, refl, sym, ap, ◌∙◌}
use Rattle.std.specs.Prelude.{is_some}
use Rattle.std.specs.FinMap.{get}
use Rattle.std.proofs.lemmas.Bool.{false≢true}
use Rattle.st_parse.specs.declared.statements.Arg.{Arg}
use Rattle.th_graph.specs.Relating.{is_known}
use Rattle.th_store.specs.Thesauri.{PairSet, Thesauri, pairs_of}
use Rattle.db_cond.specs.Faults.{BadValue}
use Rattle.db_state.specs.States.{StoreState}
use Rattle.db_state.specs.Effects.{Effect, Does, refuse, with_found}
use Rattle.db_call.specs.Arguments.{are_texts}
use Rattle.db_call.specs.Checks.{check, get_named, missing_name, of_both, taken_name}
use Rattle.db_thes.specs.declared.stating.StatedRelation.{StatedRelation}
use Rattle.db_thes.specs.Stating.{taken_term}
use Rattle.db_thes.specs.Creating.{are_create_args, create_thesaurus, created, is_case_asked}
use Rattle.db_thes.specs.Relating.{create_relation, is_known_in, related}

-- ---- what is known of a relation

-- where nothing is there, nothing is known
pub none_known : (found : Option PairSet) (s : Option StatedRelation) → false ≡ is_some found → false ≡ is_known_in found s
none_known None s h = refl
none_known (Some ps) s h = cc

-- of no relation nothing is known
pub nothing_known : (found : Option PairSet) → false ≡ is_known_in found None
nothing_known None = refl
nothing_known (Some ps) = refl

pub known_there : (ts : Thesauri) (name : Option (List ℕ)) (s : Option StatedRelation) (n : List ℕ) (r : StatedRelation) (known there : Bool) → name ≡ Some n → s ≡ Some r → there ≡ is_some (get_named ts name) → there ≡ true
    → ((ps : PairSet) → get ts n ≡ Some ps → known ≡ is_known r.relation r.first r.second (pairs_of ps)) → known ≡ is_known_in (get_named ts name) s
known_there ts name s n r known there named stated is has told = go (get ts n) refl ∙ (λ i. is_known_in (get_named ts (sym named i)) (sym stated i))
  where
    go : (o : Option PairSet) → get ts n ≡ o → known ≡ is_known_in o (Some r)
    go None e = absurd (false≢true (sym (is ∙ ap (λ (x : Option (List ℕ)). is_some (get_named ts x)) named ∙ ap is_some e) ∙ has))
    go (Some ps) e = told ps e

-- ---- what the checks let pass

-- a name that something has
pub name_passed : (unknown taken : Option (List ℕ)) (shaped : Bool) (m : StoreState) → check unknown taken shaped (Does m []) ≡ Does m [] → unknown ≡ None
name_passed (Some x) taken shaped m h = cc
name_passed None taken shaped m h = refl

there_after : (there : Bool) (n : List ℕ) → missing_name there (Some n) ≡ None → there ≡ true
there_after true n h = refl
there_after false n h = cc

-- so the thesaurus is there
pub thesaurus_there : (ts : Thesauri) (name unknown : Option (List ℕ)) (n : List ℕ) (there : Bool) → name ≡ Some n → there ≡ is_some (get_named ts name) → unknown ≡ missing_name there name → unknown ≡ None → (ps : PairSet) × (get ts n ≡ Some ps)
thesaurus_there ts name unknown n there named is missing none = go (get ts n) refl
  where
    has : there ≡ true
    has = there_after there n (ap (missing_name there) (sym named) ∙ sym missing ∙ none)

    go : (o : Option PairSet) → get ts n ≡ o → (ps : PairSet) × (get ts n ≡ Some ps)
    go None e = absurd (false≢true (sym (is ∙ ap (λ (x : Option (List ℕ)). is_some (get_named ts x)) named ∙ ap is_some e) ∙ has))
    go (Some ps) e = (ps, e)

-- a new name
free_after : (there : Bool) (n : List ℕ) → taken_name there (Some n) ≡ None → there ≡ false
free_after true n h = cc
free_after false n h = refl

pub thesaurus_free : (ts : Thesauri) (name taken : Option (List ℕ)) (n : List ℕ) (there : Bool) → name ≡ Some n → there ≡ is_some (get_named ts name) → taken ≡ taken_name there name → taken ≡ None → get ts n ≡ None
thesaurus_free ts name taken n there named is named_taken none = go (get ts n) refl
  where
    no : there ≡ false
    no = free_after there n (ap (taken_name there) (sym named) ∙ sym named_taken ∙ none)

    go : (o : Option PairSet) → get ts n ≡ o → get ts n ≡ None
    go None e = e
    go (Some ps) e = absurd (false≢true (sym no ∙ is ∙ ap (λ (x : Option (List ℕ)). is_some (get_named ts x)) named ∙ ap is_some e))

-- a relation that isn't known
unknown_after : (known : Bool) (r : StatedRelation) → taken_term known (Some r) ≡ None → known ≡ false
unknown_after true r h = cc
unknown_after false r h = refl

pub relation_unknown : (ts : Thesauri) (name taken : Option (List ℕ)) (s : Option StatedRelation) (n : List ℕ) (r : StatedRelation) (ps : PairSet) (known : Bool) → name ≡ Some n → s ≡ Some r → get ts n ≡ Some ps → known ≡ is_known_in (get_named ts name) s
    → taken ≡ taken_term known s → taken ≡ None → is_known r.relation r.first r.second (pairs_of ps) ≡ false
relation_unknown ts name taken s n r ps known named stated there is taken_is none =
    let unknown : known ≡ false = unknown_after known r (ap (taken_term known) (sym stated) ∙ sym taken_is ∙ none) in
    let by_parts : is_known_in (get_named ts name) s ≡ is_known_in (get ts n) (Some r) = λ i. is_known_in (get_named ts (named i)) (stated i) in
    sym (is ∙ by_parts ∙ ap (λ (o : Option PairSet). is_known_in o (Some r)) there) ∙ unknown

-- ---- each effect

module _ (m : StoreState) (args : List Arg) where
  -- after the first checks
  abbrev pub create_on : Option (List ℕ) → Effect
  create_on name = refuse (is_case_asked args) BadValue (with_found name BadValue (created m))

  pub create_as : (name taken : Option (List ℕ)) (there shaped : Bool) → there ≡ is_some (get_named m.thesauri name) → taken ≡ taken_name there name → shaped ≡ are_create_args args → create_thesaurus m name args ≡ check None taken shaped (create_on name)
  create_as name taken there shaped there_is taken_is shaped_is =
      let by_name : taken_name (is_some (get_named m.thesauri name)) name ≡ taken = ap (λ (b : Bool). taken_name b name) (sym there_is) ∙ sym taken_is in
      let by_args : are_create_args args ≡ shaped = sym shaped_is in
      λ i. check None (by_name i) (by_args i) (create_on name)

  abbrev pub relate_on : Option PairSet → Option (List ℕ) → Option StatedRelation → Effect
  relate_on found name s = with_found s BadValue (λ (s : StatedRelation). of_both name found (related s m))

  pub relate_as : (name unknown taken : Option (List ℕ)) (s : Option StatedRelation) (there known shaped : Bool) → there ≡ is_some (get_named m.thesauri name) → (there ≡ is_some (get_named m.thesauri name) → known ≡ is_known_in (get_named m.thesauri name) s) → unknown ≡ missing_name there name → taken ≡ taken_term known s → shaped ≡ are_texts 4 args
      → create_relation m name s args ≡ check unknown taken shaped (relate_on (get_named m.thesauri name) name s)
  relate_as name unknown taken s there known shaped there_is known_is unknown_is taken_is shaped_is =
      let by_name : missing_name (is_some (get_named m.thesauri name)) name ≡ unknown = ap (λ (b : Bool). missing_name b name) (sym there_is) ∙ sym unknown_is in
      let by_relation : taken_term (is_known_in (get_named m.thesauri name) s) s ≡ taken = ap (λ (b : Bool). taken_term b s) (sym (known_is there_is)) ∙ sym taken_is in
      let by_args : are_texts 4 args ≡ shaped = sym shaped_is in
      λ i. check (by_name i) (by_relation i) (by_args i) (relate_on (get_named m.thesauri name) name s)
