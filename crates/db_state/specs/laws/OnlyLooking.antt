-- Chains of refusals over effects that only look.
use Rattle.std.specs.Prelude.{Bool, true, false, Option, Some, None}
use Rattle.db_cond.specs.Faults.{Refusal}
use Rattle.db_state.specs.States.{StoreState}
use Rattle.db_state.specs.Effects.{Effect, OnlyLooks, refuse, refuse_by, with_found}

pub only_looks_by : (m : StoreState) (b : Bool) (refusal : Refusal) (e : Effect) → OnlyLooks m e → OnlyLooks m (refuse b refusal e)
only_looks_by m true refusal e kept = tt
only_looks_by m false refusal e kept = kept

pub only_looks_found : {X : Type 0} (m : StoreState) (o : Option X) (refusal : Refusal) (f : X → Effect) → ((x : X) → OnlyLooks m (f x)) → OnlyLooks m (with_found o refusal f)
only_looks_found m None refusal f kept = tt
only_looks_found m (Some x) refusal f kept = kept x

pub only_looks_unless : {X : Type 0} (m : StoreState) (o : Option X) (refusal : X → Refusal) (e : Effect) → OnlyLooks m e → OnlyLooks m (refuse_by o refusal e)
only_looks_unless m None refusal e kept = kept
only_looks_unless m (Some x) refusal e kept = tt
