-- What loading a store gives whose entries may stand in order in a directory.
use Rattle.std.specs.Prelude.{◌≡◌, ℕ, List, length, Some, None, Result, Err}
use Rattle.std.proofs.Common.{sym, ◌∙◌}
use Rattle.ct_site.specs.Disks.{DiskView, IsSame, IsSettled}
use Rattle.ct_keep.specs.Content.{weight}
use Rattle.ct_keep.specs.Counting.{PrefixCounts, AreCounts}
use Rattle.pg_journal.specs.declared.faults.LoadFault.{LoadFault}
use Rattle.pg_journal.specs.declared.faults.LoadFault.TheVariants.{NotAStore}
use Rattle.pg_journal.specs.Recovered.{HasNoOpenGate, IsRecovered}
use Rattle.pg_journal.specs.Standing.{DiskStands}
use Rattle.pg_directory.specs.Holding.{RecoversTo}
use Rattle.pg_directory.specs.OpenStore.{IsStoreOf}
use Rattle.pg_directory.specs.Unused.{unused_to}
use Rattle.pg_directory.specs.declared.stores.OpenStore.{OpenStore}
use Rattle.pg_directory.specs.laws.OpenStore.{open_holds}

-- Where the disk tells its image, nothing is pending.
abbrev pub SettledIfTold : DiskView → Type 0
SettledIfTold disk = (image : List ℕ) → disk.image ≡ Some image → IsSettled disk image

-- A file that is refused is as it was, unless a batch was under way in it.
abbrev pub RefusedIsSame : {T : Type 0} → DiskView → DiskView → Result T LoadFault → Type 0
RefusedIsSame old new result = (image : List ℕ) → IsSettled old image → HasNoOpenGate image → result ≡ Err NotAStore → IsSame old new

-- The image recovers to pages for which the disk stands. They are the store that was opened, with these free pages, this
-- weight and these counts.
pub record IsStoreLoaded (image : List ℕ) (disk : DiskView) (homes : ℕ) (store : OpenStore) (unused : List ℕ) (total : ℕ) (counts : PrefixCounts) : Type 0 where
  pub pages : List (List ℕ)
  pub recovered : IsRecovered image pages
  pub stands : DiskStands disk homes pages
  pub opened : IsStoreOf store pages
  pub unused_is : unused ≡ unused_to opened.behind (length opened.behind)
  pub total_is : total ≡ weight opened.opened.held
  pub counted : AreCounts opened.opened.held counts

-- ---- a law beside it: the image recovers to the map of the store
recovers_to : (image : List ℕ) (disk : DiskView) (homes : ℕ) (store : OpenStore) (unused : List ℕ) (total : ℕ) (counts : PrefixCounts) (l : IsStoreLoaded image disk homes store unused total counts) → RecoversTo image (Some l.opened.opened.held)
recovers_to image disk homes store unused total counts l = (l.pages, l.recovered, open_holds store l.pages l.opened)

-- ---- example: of a disk that tells nothing, nothing is said to be pending
of_an_untold_disk : (disk : DiskView) → disk.image ≡ None → SettledIfTold disk
of_an_untold_disk disk none image told = absurd (let both : None ≡ Some image = sym none ∙ told in cc both)
