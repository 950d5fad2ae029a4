use Rattle.std.proofs.Common.{ℕ, List, take}
use Rattle.std.specs.List.{All}
use Rattle.db_names.specs.Parts.{IsEntryOf}
use Rattle.db_names.proofs.listings.first_on.Given as goal

abbrev pub invariant-loop-rest : goal.invariant-loop-rest
invariant-loop-rest l = All (λ e. (i : List ℕ) → IsEntryOf (e.0.items, e.1.items) i (record { kind = l.kind; target = l.target }) → ⊥) (take l.rest-index l.found)
