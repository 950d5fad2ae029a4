-- What was found, by whether it is there.
use Rattle.std.proofs.Common.{◌≡◌, Option, Some, None, subst}
use Rattle.std.specs.Prelude.{MatchOption}

pub found_some : {X : Type 0} (o : Option X) (x : X) (P : Type 0) (Q : X → Type 0) → o ≡ Some x → MatchOption o P Q → Q x
found_some None x P Q is p = cc
found_some (Some y) x P Q is p = subst Q (let e : y ≡ x = cc in e) p
