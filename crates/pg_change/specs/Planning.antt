-- What the plan of a batch makes of the pages in memory, and the edits of the directory that it asks for.
use Rattle.std.specs.Prelude.{◌≡◌, ℕ, ◌+◌, ◌-◌, ◌*◌, ◌^◌, ◌≤◌, max, List, [], ◌∷◌, ◌++◌, None, length, map, codes, refl}
use Rattle.std.proofs.Common.{arith}
use Rattle.ct_keep.specs.Content.{Content, Change, after}
use Rattle.pg_directory.specs.Trees.{StorePage, kind_of}
use Rattle.pg_map.specs.Done.{IsDone}
use Rattle.pg_batch.specs.BatchPages.{changed_pages, put_pages}
use Rattle.pg_map.specs.Kinds.{Kind, Free, Slotted}
use Rattle.pg_leaves.specs.Editing.{edits_of}
use Rattle.pg_leaves.specs.declared.edits.Edit.{Edit}
use Rattle.pg_plan.specs.Changes.{StandAt}
use Rattle.pg_plan.specs.Drafts.{Drafted}
use Rattle.pg_plan.specs.FreePlaces.{ListsFree, used_pages}
use Rattle.pg_plan.specs.PlanSteps.{MakesChanges}
use Rattle.pg_plan.specs.Touched.{AreTouched}
use Rattle.pg_window.specs.Windows.{IsWindow, ChangesShown}
use Rattle.pg_change.specs.declared.planning.PlannedBatch.{PlannedBatch}
use Rattle.pg_change.specs.declared.rebuilding.Rebuilt.{Rebuilt}
use Rattle.pg_change.specs.Batches.{IsStoreAfter}
use Rattle.pg_change.specs.DirectoryImages.{AreSameWrites, AreGood}
use Rattle.pg_change.specs.KeyEdits.{AreEditsOf}
use Rattle.pg_change.specs.Next.{HaveKinds, next_pages}
use Rattle.pg_change.specs.Rebuilding.{own_numbers, rebuilt_writes}

-- The changes of a content were made, and the edits are those that they ask for, by the pages that they touched and the pages before.
pub record PlansEntries (pages : List StorePage) (old new : Drafted) (ws : List Change) (m : Content) (edits : List Edit) : Type 0 where
  pub makes : MakesChanges old new ws m
  pub numbers : List ℕ
  pub touched : AreTouched new numbers
  pub are : AreEditsOf pages new.now numbers ws (edits_of edits)

-- What is to be written of a directory, and the numbers of the pages that a draft changed.
pub record IsReadyToCommit (d : Drafted) (new : Rebuilt) (planned : PlannedBatch) : Type 0 where
  pub top : planned.top ≡ new.top
  pub directory : planned.directory ≡ new.directory
  pub touched : AreTouched d planned.numbers
  pub kinds : HaveKinds d.now planned.numbers
  pub count : 3 + length d.now ≤ 2 ^ 31
  pub same : AreSameWrites planned.images (rebuilt_writes new)
  pub good : AreGood planned.images

-- A draft has just begun over pages of a store. Those in memory hold this part of its map, and each key of a change that stands on one of
-- them stands on the one whose place is beside the change; none stands on a page that isn't in memory.
pub record IsBegun (pages : List StorePage) (part : Content) (ws : List Change) (places : List ℕ) (d : Drafted) : Type 0 where
  pub window : IsWindow pages d.before.kinds d.before.away
  pub holds : IsDone d.before.kinds part
  pub shown : ChangesShown (map kind_of pages) d.before.away ws
  pub stand : StandAt d.before.kinds ws places
  pub now : d.now ≡ d.before.kinds
  pub away : d.away ≡ d.before.away
  pub untouched : d.touched ≡ []

-- The pages that the commit leaves hold the map after the changes, with a directory of it; each free page is listed, and so is each of the
-- directory.
pub record IsPlanned (pages : List StorePage) (m : Content) (ws : List Change) (d : Drafted) (free : List ℕ) (planned : PlannedBatch) : Type 0 where
  pub new : Rebuilt
  pub top : planned.top ≡ new.top
  pub directory : planned.directory ≡ new.directory
  pub store : IsStoreAfter (next_pages pages d.now planned.images planned.numbers) (after ws m) new
  pub listed : ListsFree (map kind_of (next_pages pages d.now planned.images planned.numbers)) (free ++ map (λ (n : ℕ). n - 3) (own_numbers new.directory))

-- ---- how many pages there are then

-- A draft has at most so many pages and notes, and as many more as the directory of a store with so many home pages may need for so many
-- changes.
pub record NeedsFew (d : Drafted) (count noted homes changes : ℕ) : Type 0 where
  pub pages : length d.now ≤ count + 2 * homes + 1024 * changes
  pub notes : length d.touched ≤ noted + 3 * homes + 2048 * changes

-- So many pages behind the root are enough, over so many home pages: those that there are, or, where the free ones aren't enough, the used
-- ones and those of the entries that are put; and what the directory may need.
abbrev pub most_pages : List Kind → ℕ → List Change → ℕ
most_pages kinds homes ws = max (length kinds) (used_pages kinds + put_pages ws) + 2 * homes + 1024 * length ws

-- There are no more pages than these. Where the pages in memory held a map, no more were changed than those of the entries that the changes
-- found and put, and what the directory may change.
pub record HasFewPages (old new : Drafted) (homes : ℕ) (ws : List Change) (places : List ℕ) : Type 0 where
  pub pages : length new.now ≤ most_pages old.now homes ws
  pub notes : (m : Content) → IsDone old.now m → StandAt old.now ws places → length new.touched ≤ length old.touched + changed_pages ws m + 3 * homes + 2048 * length ws

-- ---- computed example: over three home pages one change brings at most 2 * 3 + 1,024 pages, and 3 * 3 + 2,048 notes
one_change : (d : Drafted) → NeedsFew d 3 0 3 1 → (length d.now ≤ 1033) × (length d.touched ≤ 2057)
one_change d few = let p = few.pages in let n = few.notes in (omega (arith, p), omega (arith, n))

-- of two pages behind the root one is free; a change that puts nothing may bring 2 * 5 + 1,024 pages to these
nothing_put : most_pages (Free ∷ Slotted [] ∷ []) 5 ((codes "k", None) ∷ []) ≡ 1036
nothing_put = refl
