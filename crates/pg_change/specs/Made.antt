-- What a plan and the directory made of the pages of a store: which of them were changed, and how.
use Rattle.std.specs.Prelude.{◌≡◌, ◌⊎◌, ℕ, ◌-◌, ◌≤◌, true, false, List, [], ◌∷◌, length, get_or, refl}
use Rattle.std.specs.List.{Contains}
use Rattle.pg_map.specs.Holding.{times}
use Rattle.pg_map.specs.Kinds.{Free, Slotted}
use Rattle.pg_directory.specs.Trees.{StorePage, Plain, page_at, one_if_directory}
use Rattle.pg_directory.specs.Written.{PageWrite, write_numbers}
use Rattle.pg_directory.specs.laws.Making.{AreOfDirectory}
use Rattle.pg_plan.specs.Drafts.{Drafted, Shown, SeesNone, TouchesHere}
use Rattle.pg_plan.specs.Touched.{AreTouched}
use Rattle.pg_window.specs.Windows.{ShowsPages}
use Rattle.pg_change.specs.DirectoryImages.{AreSameWrites}
use Rattle.pg_change.specs.Rebuilding.{AreAway, GoesTo}

-- Pages of which some were in memory; the draft of the planned changes; and the draft once the directory was made: its pages were those of
-- the numbers `ns`, and are those of `ms`, of which these are written.
pub record IsMade (pages : List StorePage) (before : Shown) (planned done : Drafted) (ns ms : List ℕ) (writes images : List PageWrite) (early numbers : List ℕ) : Type 0 where
  pub shows : ShowsPages pages before.kinds before.away
  pub directory : (i : ℕ) → 3 ≤ i → times i ns ≡ one_if_directory (page_at pages i)
  pub sees : SeesNone planned
  pub began : planned.before ≡ before
  pub stays : (at : ℕ) → get_or before.away at false ≡ true → get_or planned.away at false ≡ true
  pub here : TouchesHere planned
  pub early_are : AreTouched planned early
  pub away : AreAway planned ns
  pub goes : GoesTo planned done ns ms (write_numbers writes)
  pub ends : done.before ≡ before
  pub of_directory : AreOfDirectory writes
  pub within : (i : ℕ) → times i (write_numbers writes) ≤ times i ms
  pub same : AreSameWrites images writes
  pub touched : AreTouched done numbers
  pub grew : length pages ≤ length planned.now
  pub grown : length pages ≤ length done.now

-- ---- what became of the page of a number

-- It is what it was, and of the directory if it was.
pub record Stays (pages next : List StorePage) (planned done : Drafted) (ns ms early numbers : List ℕ) (i : ℕ) : Type 0 where
  pub page : page_at next i ≡ page_at pages i
  pub kind : get_or done.now (i - 3) Free ≡ get_or planned.now (i - 3) Free
  pub often : times i ms ≡ times i ns
  pub none : Contains numbers i → ⊥
  pub early_none : Contains early i → ⊥

-- It is what the plan made of it, and none of the directory.
pub record Changes (next : List StorePage) (planned done : Drafted) (ns ms early : List ℕ) (i : ℕ) : Type 0 where
  pub page : page_at next i ≡ Plain (get_or done.now (i - 3) Free)
  pub kind : get_or done.now (i - 3) Free ≡ get_or planned.now (i - 3) Free
  pub here : get_or planned.away (i - 3) false ≡ false
  pub was : times i ns ≡ 0
  pub is : times i ms ≡ 0
  pub early_has : Contains early i

-- It was one of the directory, and is free.
pub record Frees (next : List StorePage) (planned done : Drafted) (ns ms early : List ℕ) (i : ℕ) : Type 0 where
  pub page : page_at next i ≡ Plain Free
  pub kind : get_or done.now (i - 3) Free ≡ Free
  pub was : 1 ≤ times i ns
  pub is : times i ms ≡ 0

-- It was free, or one of the directory, and is one of the directory that was written.
pub record Takes (next : List StorePage) (planned done : Drafted) (ns ms : List ℕ) (writes : List PageWrite) (i : ℕ) : Type 0 where
  pub page : one_if_directory (page_at next i) ≡ 1
  pub kind : get_or done.now (i - 3) Free ≡ Slotted []
  pub was : (get_or planned.now (i - 3) Free ≡ Free) ⊎ (1 ≤ times i ns)
  pub is : times i ms ≡ 1
  pub written : 1 ≤ times i (write_numbers writes)

-- ---- example: a page that is free is changed to what the draft has
of_a_free_page : (next : List StorePage) (draft : Drafted) → page_at next 3 ≡ Plain Free → get_or draft.now 0 Free ≡ Free → 1 ≤ times 3 (3 ∷ []) → Frees next draft draft (3 ∷ []) [] [] 3
of_a_free_page next draft page kind was = record { page = page; kind = kind; was = was; is = refl }
