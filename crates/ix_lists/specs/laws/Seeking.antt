-- Laws of lists that are sought in.
use Rattle.std.specs.Prelude.{◌≡◌, ◌≤◌, true, List, [], ◌∷◌, length, refl}
use Rattle.std.proofs.Common.{arith}
use Rattle.ix_lists.specs.Seeking.{has_any}

pub any_of_some : {X : Type 0} (xs : List X) → 1 ≤ length xs → has_any xs ≡ true
any_of_some [] some = absurd (omega (arith, some))
any_of_some (x ∷ xs) some = refl
