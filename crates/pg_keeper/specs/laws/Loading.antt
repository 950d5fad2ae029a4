-- What loading leaves, as the map that it recovers to.
use Rattle.std.proofs.Common.{◌≡◌, ℕ, List, Option, Some, None, ⊎_elim, inl, subst, ◌∙◌}
use Rattle.ct_base.specs.Moments.{Passes}
use Rattle.ct_base.specs.Told.{IsSaid}
use Rattle.ct_site.specs.Disks.{DiskView, IsSettled, Leaves, leaves_more}
use Rattle.ct_keep.specs.Content.{Content}
use Rattle.ct_keep.specs.Changes.{HoldsWell}
use Rattle.pg_journal.specs.Recovered.{Alike}
use Rattle.pg_journal.specs.laws.Recovered.{alike_itself}
use Rattle.pg_directory.specs.Holding.{RecoversTo}
use Rattle.pg_heap.specs.Recovering.{recovered}
use Rattle.pg_heap.specs.laws.Recovering.{alike_recovers, one_recovery, recovered_passes}
use Rattle.pg_keeper.specs.Loading.{AlikeOrOneMap, HasNoStore, IsOldOrOneMap}

-- of a file on which nothing was pending, what recovers to the pages that it did, or to its map
pub settled_moments : (well : List ℕ → List ℕ → Type 0) (old new : DiskView) (image : List ℕ) → IsSettled old image → Leaves old new (IsOldOrOneMap well old image) → Leaves old new (AlikeOrOneMap well image)
settled_moments well old new image settled leaves =
    leaves_more old new (IsOldOrOneMap well old image) (AlikeOrOneMap well image) leaves (λ left is. ⊎_elim (λ was. inl (alike_itself image left (settled.only left was))) (λ alike. alike) is)

-- an image that has a store of such entries isn't one that has none
pub no_two_stores : (well : List ℕ → List ℕ → Type 0) (image : List ℕ) (m : Content) → RecoversTo image (Some m) → HoldsWell well m → HasNoStore well image → ⊥
no_two_stores well image m is entries none = ⊎_elim
    (λ nothing. let e : Some m ≡ None = one_recovery image (Some m) None is nothing in cc)
    (λ other. let e : Some other.0 ≡ Some m = one_recovery image (Some other.0) (Some m) other.1 is in let same : m ≡ other.0 = cc in other.2 (subst (HoldsWell well) same entries)) none

-- of a file that has no store, what recovers to the pages that it did
pub foreign_moments : (well : List ℕ → List ℕ → Type 0) (old new : DiskView) (image : List ℕ) → HasNoStore well image → Leaves old new (AlikeOrOneMap well image) → Leaves old new (Alike image)
foreign_moments well old new image none leaves =
    leaves_more old new (AlikeOrOneMap well image) (Alike image) leaves (λ left is. ⊎_elim (λ alike. alike) (λ one. absurd (no_two_stores well image one.held one.was one.entries none)) is)

-- what is left recovers to what the image does
pub left_recovers : (well : List ℕ → List ℕ → Type 0) (image left : List ℕ) (o stopped : Option Content) → AlikeOrOneMap well image left → RecoversTo image o → RecoversTo left stopped → stopped ≡ o
left_recovers well image left o stopped is was now = ⊎_elim
    (λ alike. one_recovery image stopped o (alike_recovers image left stopped alike now) was)
    (λ one. one_recovery left stopped (Some one.held) now one.is ∙ one_recovery image (Some one.held) o one.was was) is

-- the moments of loading
pub load_passes : (well : List ℕ → List ℕ → Type 0) (old new : DiskView) (image : List ℕ) (o : Option Content) → RecoversTo image o → Leaves old new (AlikeOrOneMap well image)
    → Passes (recovered old.time) (recovered new.time) (λ stopped said. (stopped ≡ o) × IsSaid old.beside.said said)
load_passes well old new image o is leaves =
    recovered_passes old.time new.time (AlikeOrOneMap well image) (λ stopped. stopped ≡ o) old.beside.said leaves.time (λ left stopped alike r. left_recovers well image left o stopped alike is r)
