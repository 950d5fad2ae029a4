-- How often a disk is synced.
use Rattle.std.specs.Prelude.{◌≡◌, ℕ, ◌+◌, ◌≤◌, refl}
use Rattle.std.proofs.Common.{arith}
use Rattle.ct_site.specs.FaultCounts.{raised}
use Rattle.ct_site.specs.Disks.{DiskView}

-- It was synced so often at most.
abbrev pub SyncsAtMost : ℕ → DiskView → DiskView → Type 0
SyncsAtMost n old new = new.syncs ≤ old.syncs + n

-- ---- computed examples: two syncs are three at most, and not one at most
two_syncs : (disk : DiskView) → SyncsAtMost 3 (record disk { syncs = 5 }) (record disk { syncs = raised (raised 5) })
two_syncs disk = omega arith

more_than_one : (disk : DiskView) → SyncsAtMost 1 (record disk { syncs = 5 }) (record disk { syncs = raised (raised 5) }) → ⊥
more_than_one disk few = omega (arith, few)

five_and_two : raised (raised 5) ≡ 7
five_and_two = refl
