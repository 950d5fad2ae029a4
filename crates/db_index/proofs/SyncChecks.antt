-- What is synchronised where the checks found no fault.
use Rattle.std.proofs.Common.{◌≡◌, ℕ, Bool, false, List, Option, Some, refl, sym, ap, ◌∙◌}
use Rattle.std.specs.FinMap.{get}
use Rattle.db_names.specs.declared.heads.IndexKind.{IndexKind}
use Rattle.db_names.specs.declared.heads.IndexKind.TheVariants.{Context, Catalogue, Rules}
use Rattle.ix_indexes.specs.Indexes.{Index, kinds}
use Rattle.db_cond.specs.Faults.{UnknownName}
use Rattle.db_state.specs.States.{StoreState}
use Rattle.db_state.specs.Effects.{with_found}
use Rattle.db_index.proofs.IndexCallSteps.{IsCalled}
use Rattle.db_index.specs.Syncing.{is_other_kind, is_rule_index, sync_found, sync_named, synced_kind}

of_kind : (k : IndexKind) → is_other_kind (Some k) ≡ false → k ≡ synced_kind (is_rule_index (Some k))
of_kind Context h = refl
of_kind Catalogue h = cc
of_kind Rules h = refl

-- it is a rule index or else a CONTEXT index
pub synced_as : (m : StoreState) (i : List ℕ) (kind : Option IndexKind) (rules : Bool) → rules ≡ is_rule_index kind → (it : IsCalled m i is_other_kind kind) → kinds.kind it.index.body ≡ synced_kind rules
synced_as m i kind rules is it = of_kind (kinds.kind it.index.body) it.mine ∙ ap (λ (k : Option IndexKind). synced_kind (is_rule_index k)) (sym it.kind_is) ∙ ap synced_kind (sym is)

pub sync_of : (m : StoreState) (i : List ℕ) (x : Index) (name : Option (List ℕ)) → name ≡ Some i → get m.indexes i ≡ Some x → sync_named m name ≡ sync_found m i x
sync_of m i x name is there = ap (sync_named m) is ∙ ap (λ (o : Option Index). with_found o (UnknownName i) (λ (y : Index). sync_found m i y)) there
