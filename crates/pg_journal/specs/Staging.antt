-- The disk between the four steps of a commit.
use Rattle.std.specs.Prelude.{◌≡◌, ℕ, ◌+◌, ◌-◌, ◌*◌, ◌≤◌, ◌<◌, List, [], ◌∷◌, length, take, drop, codes, refl, Some, Result}
use Rattle.ct_site.specs.declared.outside.Failed.{Failed}
use Rattle.ct_site.specs.Disks.{DiskView, IsSettled}
use Rattle.ct_site.specs.Writing.{Writes}
use Rattle.pg_journal.specs.Pages.{page, Numbered, put_on, homes_in, IsRoot}
use Rattle.ct_base.specs.Zeros.{zeros}
use Rattle.pg_journal.specs.Recovered.{IsStore, IsOpen, gate, batch_page, batch_count, batch_in, number_pages, filling}
use Rattle.ct_site.specs.Ranges.{SameIn}
use Rattle.pg_journal.specs.Standing.{IsShut}

-- Zeros were written from the end of what a read gives up to this place, where it ended before.
abbrev pub WritesUpTo : ℕ → DiskView → DiskView → Result (Unit {0}) Failed → Type 0
WritesUpTo end old new result = (image : List ℕ) → old.image ≡ Some image → Writes (length image) (zeros (end - length image)) old new result

-- The batch lies behind the homes, and page 1 tells of it.
pub record IsStaged (place : ℕ) (ws : List Numbered) (image : List ℕ) : Type 0 where
  pub at : batch_page image ≡ place
  pub count : batch_count image ≡ length ws
  pub inside : 4096 * (place + number_pages (length ws) + length ws) ≤ length image
  pub batch : batch_in image ≡ ws
  pub filling : take (filling (length ws)) (drop (4096 * place + 4 * length ws) image) ≡ zeros (filling (length ws))

-- and nothing is pending
pub record Staged (disk : DiskView) (homes : ℕ) (pages : List (List ℕ)) (place : ℕ) (batch : List Numbered) : Type 0 where
  pub image : List ℕ
  pub settled : IsSettled disk image
  pub shut : IsShut homes pages image
  pub staged : IsStaged place batch image

-- what the pages are to be
pub record IsGoal (place : ℕ) (goal : ℕ → List ℕ) : Type 0 where
  pub root : IsRoot (goal 2)
  pub inside : homes_in (goal 2) ≤ place

-- The gate is open, and with the batch the pages below it are those of the goal.
pub record IsSettling (place : ℕ) (batch : List Numbered) (goal : ℕ → List ℕ) (image : List ℕ) : Type 0 where
  pub store : IsStore image
  pub is_open : IsOpen image
  pub is : batch_in image ≡ batch
  pub at : batch_page image ≡ place
  pub pages : (i : ℕ) → 2 ≤ i → i < place → put_on batch (page image) i ≡ goal i

-- what holds over the goal that the disk settles on, with this batch
abbrev pub OverGoal : DiskView → List Numbered → ((ℕ → List ℕ) → Type 0) → Type 0
OverGoal disk batch holds = (place : ℕ) (goal : ℕ → List ℕ) (image : List ℕ) → IsSettled disk image → IsGoal place goal → IsSettling place batch goal image → holds goal

-- and they are so without it
pub record AtHome (disk : DiskView) (place : ℕ) (batch : List Numbered) (goal : ℕ → List ℕ) : Type 0 where
  pub image : List ℕ
  pub settled : IsSettled disk image
  pub settling : IsSettling place batch goal image
  pub home : (i : ℕ) → 2 ≤ i → i < place → page image i ≡ goal i

-- at most the gate is another
pub record IsGateWrite (x y : List ℕ) : Type 0 where
  pub long : length y ≡ length x
  pub before : SameIn 0 4096 x y
  pub after : (to : ℕ) → SameIn 4097 to x y

-- The gate is this byte, all else is as it was, and nothing is pending.
pub record IsGateSet (byte : ℕ) (old : List ℕ) (disk : DiskView) : Type 0 where
  pub image : List ℕ
  pub settled : IsSettled disk image
  pub write : IsGateWrite old image
  pub is : gate image ≡ byte

-- Some pages of the batch were put home; with those that are left the pages are those of the goal.
pub record IsPartHome (place : ℕ) (batch rest : List Numbered) (goal : ℕ → List ℕ) (image : List ℕ) : Type 0 where
  pub settling : IsSettling place batch goal image
  pub left : (i : ℕ) → 2 ≤ i → i < place → put_on rest (page image) i ≡ goal i

-- computed examples: a page that is left counts in place of the one at home; and where none is left, all are home
one_is_left : (pages : ℕ → List ℕ) → put_on ((3, codes "new") ∷ []) pages 3 ≡ codes "new"
one_is_left pages = refl

none_is_left : (place : ℕ) (batch : List Numbered) (goal : ℕ → List ℕ) (image : List ℕ) → IsPartHome place batch [] goal image → (i : ℕ) → 2 ≤ i → i < place → page image i ≡ goal i
none_is_left place batch goal image part i least less = part.left i least less
