-- The checks of a call for an index, by what was read.
use Rattle.std.proofs.Common.{◌≡◌, ℕ, Bool, false, List, [], Option, Some, None, refl, sym, ap, ◌∙◌}
use Rattle.std.specs.Prelude.{is_some}
use Rattle.std.specs.Option.{option_map}
use Rattle.std.specs.FinMap.{get}
use Rattle.db_names.specs.declared.heads.IndexKind.{IndexKind}
use Rattle.db_names.specs.declared.heads.IndexHead.{IndexHead}
use Rattle.ix_indexes.specs.Indexes.{Index, kinds}
use Rattle.db_cond.specs.declared.faults.Fault.{Fault}
use Rattle.db_cond.specs.Faults.{Refusal, UnknownName, NoIndexOfKind}
use Rattle.db_cond.specs.Refused.{refusal_of}
use Rattle.db_state.specs.States.{StoreState}
use Rattle.db_state.specs.Effects.{Effect, Does, Refused, Checks, refuse_by}
use Rattle.db_state.specs.laws.Chains.{checked, passed, refused}
use Rattle.db_state.specs.laws.Heads.{store_head}
use Rattle.db_index.specs.IndexCalls.{check_index_call, index_call, kind_named, unknown_name}

-- the kind of the index of a name, by its head
pub kind_of_head : (o : Option Index) → option_map (λ (h : IndexHead). h.kind) (option_map store_head o) ≡ option_map (λ (x : Index). kinds.kind x.body) o
kind_of_head None = refl
kind_of_head (Some x) = refl

-- what was done has no unknown name
passed_by : {X : Type 0} (o : Option X) (r : X → Refusal) (e : Effect) (n : StoreState) (reply : List ℕ) → refuse_by o r e ≡ Does n reply → (o ≡ None) × (e ≡ Does n reply)
passed_by None r e n reply is = (refl, is)
passed_by (Some x) r e n reply is = cc

-- There is an index of this name, and the call is for its kind.
pub record IsCalled (m : StoreState) (i : List ℕ) (other_kind : Option IndexKind → Bool) (kind : Option IndexKind) : Type 0 where
  pub index : Index
  pub there : get m.indexes i ≡ Some index
  pub kind_is : kind ≡ Some (kinds.kind index.body)
  pub mine : other_kind (Some (kinds.kind index.body)) ≡ false

-- What the checks of a call gave: with a fault it is refused; else it is what is done, of an index that the call is for.
pub record IsChecked (m : StoreState) (other_kind : Option IndexKind → Bool) (named name : Option (List ℕ)) (kind : Option IndexKind) (shaped bad : Bool) (fault : Option Fault) : Type 0 where
  pub refuses : (f : Fault) → fault ≡ Some f → (done : Effect) → index_call other_kind shaped bad (kind_named m named) named done ≡ Refused (refusal_of f)
  pub does : fault ≡ None → (done : Effect) → index_call other_kind shaped bad (kind_named m named) named done ≡ done
  pub calls : fault ≡ None → (i : List ℕ) → name ≡ Some i → IsCalled m i other_kind kind

-- by what was read
pub checked_call : (m : StoreState) (other_kind : Option IndexKind → Bool) (named name : Option (List ℕ)) (kind : Option IndexKind) (there : Bool) (unknown : Option (List ℕ)) (other shaped is_shaped bad is_bad : Bool) (fault : Option Fault)
    → name ≡ named → kind ≡ kind_named m name → there ≡ is_some kind → unknown ≡ unknown_name there name → other ≡ other_kind kind → shaped ≡ is_shaped → bad ≡ is_bad
    → ((done : Effect) → Checks fault (check_index_call unknown other shaped bad done) done) → IsChecked m other_kind named name kind is_shaped is_bad fault
checked_call m other_kind named name kind there unknown other shaped is_shaped bad is_bad fault is kind_is there_is unknown_is other_is shaped_is bad_is checks = record {
  refuses = λ f fails done. as_read done ∙ refused fault f _ done fails (checks done);
  does = λ none done. as_read done ∙ checked fault _ done none (checks done);
  calls = λ none i name_is.
      let first = passed_by unknown UnknownName _ m [] (checked fault _ (Does m []) none (checks (Does m []))) in
      let second = passed other NoIndexOfKind _ m [] first.1 in
      let here : kind ≡ option_map (λ (x : Index). kinds.kind x.body) (get m.indexes i) = kind_is ∙ ap (kind_named m) name_is in
      found i (get m.indexes i) refl here
      (sym first.0 ∙ unknown_is ∙ (λ j. unknown_name (there_is j) (name_is j)) ∙ ap (λ (k : Option IndexKind). unknown_name (is_some k) (Some i)) here) (sym other_is ∙ second.0);
}
  where
    its_kind : kind_named m named ≡ kind
    its_kind = ap (kind_named m) (sym is) ∙ sym kind_is

    its_name : unknown_name (is_some (kind_named m named)) named ≡ unknown
    its_name = (λ j. unknown_name (is_some (its_kind j)) (sym is j)) ∙ ap (λ (b : Bool). unknown_name b name) (sym there_is) ∙ sym unknown_is

    as_read : (done : Effect) → index_call other_kind is_shaped is_bad (kind_named m named) named done ≡ check_index_call unknown other shaped bad done
    as_read done = λ j. check_index_call (its_name j) ((ap other_kind its_kind ∙ sym other_is) j) (sym shaped_is j) (sym bad_is j) done

    found : (i : List ℕ) (o : Option Index) → get m.indexes i ≡ o → kind ≡ option_map (λ (x : Index). kinds.kind x.body) o
        → None ≡ unknown_name (is_some (option_map (λ (x : Index). kinds.kind x.body) o)) (Some i) → other_kind kind ≡ false → IsCalled m i other_kind kind
    found i None there its known mine = cc
    found i (Some x) there its known mine = record { index = x; there = there; kind_is = its; mine = sym (ap other_kind its) ∙ mine }
