-- What is optimised where the checks found no fault.
use Rattle.std.proofs.Common.{◌≡◌, ℕ, false, List, Option, Some, None, refl, ap, ◌∙◌}
use Rattle.std.specs.FinMap.{get}
use Rattle.db_names.specs.declared.heads.IndexKind.{IndexKind}
use Rattle.db_names.specs.declared.heads.IndexKind.TheVariants.{Context, Catalogue, Rules}
use Rattle.ix_context.specs.Levels.{Level}
use Rattle.ix_indexes.specs.Indexes.{Index, kinds}
use Rattle.db_cond.specs.Faults.{OutOfRange, UnknownName}
use Rattle.db_state.specs.States.{StoreState}
use Rattle.db_state.specs.Effects.{Refused, with_found}
use Rattle.db_index.proofs.IndexCallSteps.{IsCalled}
use Rattle.db_index.specs.Optimizing.{is_no_context, optimised, optimize_named}

context_kind : (k : IndexKind) → is_no_context (Some k) ≡ false → k ≡ Context
context_kind Context h = refl
context_kind Catalogue h = cc
context_kind Rules h = cc

-- it is a CONTEXT index
pub optimised_as : (m : StoreState) (i : List ℕ) (kind : Option IndexKind) → (it : IsCalled m i is_no_context kind) → kinds.kind it.index.body ≡ Context
optimised_as m i kind it = context_kind (kinds.kind it.index.body) it.mine

module _ (m : StoreState) (i : List ℕ) (name : Option (List ℕ)) (is : name ≡ Some i) where
  -- the limit is out of its range
  pub optimize_none : (level : Option Level) → level ≡ None → optimize_named m name level ≡ Refused OutOfRange
  optimize_none level none = ap (λ (n : Option (List ℕ)). optimize_named m n level) is ∙ ap (optimize_named m (Some i)) none

  pub optimize_of : (x : Index) (level : Option Level) (l : Level) → level ≡ Some l → get m.indexes i ≡ Some x → optimize_named m name level ≡ optimised m l i
  optimize_of x level l asked there =
      ap (λ (n : Option (List ℕ)). optimize_named m n level) is ∙ ap (optimize_named m (Some i)) asked
      ∙ ap (λ (o : Option Index). with_found o (UnknownName i) (λ (y : Index). optimised m l i)) there
