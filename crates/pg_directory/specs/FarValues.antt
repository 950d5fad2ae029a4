-- Items that stand over different long pages.
use Rattle.std.specs.Prelude.{◌≡◌, ◌≤◌, Bool, true, false, List, [], map, refl}
use Rattle.std.specs.Bool.{if◌then◌else◌}
use Rattle.pg_map.specs.ChainReading.{AreTaken, MayTake}
use Rattle.pg_map.specs.Holding.{Placed, one_if_long, chains_of}
use Rattle.pg_map.specs.Kinds.{Kind, StringItem}
use Rattle.pg_map.specs.Loose.{Stand}
use Rattle.pg_directory.specs.Trees.{StorePage, kind_of}

abbrev pub items_in : List Placed → List StringItem
items_in placed = map (λ (p : Placed). p.item) placed

-- Exactly where it is true, the items stand over different long pages that were not taken; these are taken then.
abbrev pub StandOr : Bool → List Kind → List StringItem → List Bool → List Bool → Type 0
StandOr true kinds items old new = (placed : List Placed) × (items_in placed ≡ items) × Stand kinds placed × AreTaken old new (chains_of placed)
StandOr false kinds items old new = (placed : List Placed) → items_in placed ≡ items → Stand kinds placed → MayTake old (chains_of placed) → ⊥

-- Exactly where it is true, the page is a long one that was not taken.
abbrev pub LeftIs : Bool → StorePage → Bool → Type 0
LeftIs true p taken = (one_if_long (kind_of p) ≡ 1) × (taken ≡ false)
LeftIs false p taken = one_if_long (kind_of p) ≤ (if taken then 1 else 0)

-- ---- example: no items stand anywhere, and take nothing
none_stand : (kinds : List Kind) (taken : List Bool) → StandOr true kinds [] taken taken
none_stand kinds taken = ([], refl, tt, record { counts = λ i low. omega Rattle.std.proofs.Common.arith })
