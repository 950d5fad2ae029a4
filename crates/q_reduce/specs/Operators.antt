-- What stands around a part of a query.
use Rattle.std.specs.Prelude.{◌≡◌, refl}
use Rattle.q_tree.specs.ReducedQueries.{Reduced, Weight as ReducedWeight, Above as ReducedAbove, Within as ReducedWithin}
use Rattle.q_reduce.specs.declared.operators.Around.{Around}
use Rattle.q_reduce.specs.declared.operators.Around.TheVariants.{Weight, Above, Within}

-- a part of a reduced query with what stands around it
abbrev pub reduced_around : Around → Reduced → Reduced
reduced_around (Weight tenths) = ReducedWeight tenths
reduced_around (Above number) = ReducedAbove number
reduced_around (Within place) = ReducedWithin place

-- computed example: half the weight
of_half_weight : (part : Reduced) → reduced_around (Weight 5) part ≡ ReducedWeight 5 part
of_half_weight part = refl
