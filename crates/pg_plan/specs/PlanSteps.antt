-- What the steps of a plan leave of the keys on pages, and how many pages they take.
use Rattle.std.specs.Prelude.{◌≡◌, ◌≢◌, ◌⊎◌, ℕ, ◌+◌, ◌≤◌, List, [], ◌∷◌, ◌++◌, length, Option, refl}
use Rattle.std.specs.FinMap.{get}
use Rattle.ct_keep.specs.Content.{Content, Change, set_to, after}
use Rattle.pg_map.specs.Kinds.{Kind}
use Rattle.pg_plan.specs.Drafts.{Drafted}
use Rattle.pg_map.specs.Done.{IsDone, HasKeyAt}
use Rattle.pg_batch.specs.BatchPages.{changed_pages, entry_pages, long_pages}
use Rattle.pg_plan.specs.FreePlaces.{NeedsPages, used_pages}

-- No key has come to a page.
pub record NoNewKey (old new : List Kind) : Type 0 where
  pub none : (at : ℕ) (key : List ℕ) → HasKeyAt new at key → HasKeyAt old at key

-- At most so many pages were needed, and at most so many changes of pages were noted.
pub record TakesPages (old new : Drafted) (pages : ℕ) : Type 0 where
  pub needs : NeedsPages old.now new.now pages
  pub touches_are : length new.touched ≤ length old.touched + pages

-- A free page was added at this place, and that was noted last; or nothing changed.
pub record MayAdd (old new : Drafted) (at : ℕ) : Type 0 where
  pub used : used_pages new.now ≡ used_pages old.now
  pub touched : (new.touched ≡ old.touched) ⊎ (new.touched ≡ old.touched ++ at ∷ [])

-- Where the pages held a map, at most the pages of the key's entry were changed.
abbrev pub TouchesEntry : Drafted → Drafted → List ℕ → Type 0
TouchesEntry old new key = (m : Content) → IsDone old.now m → length new.touched ≤ length old.touched + entry_pages key (get m key)

-- One change was made: the pages hold the changed map, the key stands at this place if it stands anywhere, and no other key has come to
-- a page.
pub record MakesChange (old new : List Kind) (m : Content) (key : List ℕ) (value : Option (List ℕ)) (at : ℕ) : Type 0 where
  pub done : IsDone new (set_to key value m)
  pub others : (a : ℕ) (q : List ℕ) → q ≢ key → HasKeyAt new a q → HasKeyAt old a q
  pub here : (a : ℕ) → HasKeyAt new a key → a ≡ at

-- All changes were made, and so many pages were changed at most.
pub record MakesChanges (old new : Drafted) (ws : List Change) (m : Content) : Type 0 where
  pub done : IsDone new.now (after ws m)
  pub touches : length new.touched ≤ length old.touched + changed_pages ws m

-- ---- computed examples: 9,000 bytes take three long pages, and a full page takes one
of_9000 : long_pages 9000 ≡ 3
of_9000 = refl

of_a_page : long_pages 4088 ≡ 1
of_a_page = refl
