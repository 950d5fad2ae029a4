-- Some changes of a batch, and then more.
use Rattle.std.proofs.Common.{ℕ, List, [], ◌∷◌, ◌++◌, Some, None}
use Rattle.ct_keep.specs.Content.{Change}
use Rattle.ct_keep.specs.Changes.{AreWell}

pub well_more : (well : List ℕ → List ℕ → Type 0) (ws vs : List Change) → AreWell well ws → AreWell well vs → AreWell well (ws ++ vs)
well_more well [] vs a b = b
well_more well ((key, None) ∷ ws) vs a b = well_more well ws vs a b
well_more well ((key, Some value) ∷ ws) vs a b = (a.0, a.1, well_more well ws vs a.2 b)
