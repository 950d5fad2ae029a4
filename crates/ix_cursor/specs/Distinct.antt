-- How many different pairs there are, counted one after the other.
use Rattle.std.specs.Prelude.{◌≡◌, List, [], ◌∷◌, ◌++◌, refl}
use Rattle.std.specs.Bool.{if◌then◌else◌}
use Rattle.ct_base.specs.declared.numbers.Pair.{Pair}
use Rattle.ix_spans.specs.Occurrences.{has_pair}

-- with a pair more, unless it is there
abbrev pub with_new_pair : Pair → List Pair → List Pair
with_new_pair p found = if has_pair found p then found else found ++ p ∷ []

-- computed example
not_twice : with_new_pair (record { first = 1; last = 2 }) (record { first = 1; last = 2 } ∷ []) ≡ record { first = 1; last = 2 } ∷ []
not_twice = refl
