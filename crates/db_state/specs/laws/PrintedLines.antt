-- The lines of a query, put one after another.
use Rattle.std.proofs.Common.{◌≡◌, ℕ, false, List, [], ◌∷◌, ◌++◌, length, map, eqb, refl, ap}
use Rattle.std.specs.List.{flat_map}
use Rattle.ct_base.specs.declared.lists.Value.{Value}
use Rattle.db_cond.specs.Lines.{line}
use Rattle.db_state.specs.Lines.{lines_or_none}

pub lines_each : {X : Type 0} (f : X → List Value) (xs : List X) → flat_map line (map f xs) ≡ flat_map (λ x. line (f x)) xs
lines_each f [] = refl
lines_each f (x ∷ xs) = ap (λ (l : List ℕ). line (f x) ++ l) (lines_each f xs)

pub lines_of_some : {X : Type 0} (f : X → List Value) (xs : List X) → eqb (length xs) 0 ≡ false → lines_or_none (map f xs) ≡ flat_map (λ x. line (f x)) xs
lines_of_some f [] h = cc
lines_of_some f (x ∷ xs) h = lines_each f (x ∷ xs)
