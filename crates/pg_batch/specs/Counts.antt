-- How changes change the counts of entries by their owners.
use Rattle.std.specs.Prelude.{◌≡◌, ℕ, ◌+◌, ◌-◌, List, [], ◌∷◌, Option, Some, None, is_some, refl}
use Rattle.std.specs.FinMap.{get}
use Rattle.ct_keep.specs.Content.{Content, Change}
use Rattle.ct_keep.specs.Counting.{key_count, PrefixCounts, prefix_count}
use Rattle.pg_directory.specs.declared.entries.EntryAt.{EntryAt}

-- how much a change counts under a prefix that puts an entry where there was none; what stood there is its place, if it had one
abbrev pub comes : List ℕ → Change → Option EntryAt → ℕ
comes prefix (key, None) had = 0
comes prefix (key, Some value) None = key_count prefix key
comes prefix (key, Some value) (Some e) = 0

-- how much one counts that takes an entry away
abbrev pub goes : List ℕ → Change → Option EntryAt → ℕ
goes prefix (key, Some value) had = 0
goes prefix (key, None) None = 0
goes prefix (key, None) (Some e) = key_count prefix key

-- how much some changes count together
abbrev pub counted_over : (Change → Option EntryAt → ℕ) → List Change → List (Option EntryAt) → ℕ
counted_over count [] os = 0
counted_over count (w ∷ ws) [] = 0
counted_over count (w ∷ ws) (o ∷ os) = count w o + counted_over count ws os

-- how much the entries count that come with some changes
abbrev pub new_count : List ℕ → List Change → List (Option EntryAt) → ℕ
new_count prefix ws os = counted_over (comes prefix) ws os

-- and those that go
abbrev pub gone_count : List ℕ → List Change → List (Option EntryAt) → ℕ
gone_count prefix ws os = counted_over (goes prefix) ws os

-- Just those keys had an entry in the content that have a place.
abbrev pub WereThere : Content → List Change → List (Option EntryAt) → Type 0
WereThere m [] [] = Unit {0}
WereThere m [] (o ∷ os) = ⊥
WereThere m (w ∷ ws) [] = ⊥
WereThere m (w ∷ ws) (o ∷ os) = (is_some o ≡ is_some (get m w.0)) × WereThere m ws os

-- ---- the counts that are kept

-- The entries came that some changes bring.
pub record CountsCame (ws : List Change) (os : List (Option EntryAt)) (old new : PrefixCounts) : Type 0 where
  pub each : (prefix : List ℕ) → prefix_count prefix new ≡ prefix_count prefix old + new_count prefix ws os

-- They went again.
pub record CountsLeft (ws : List Change) (os : List (Option EntryAt)) (old new : PrefixCounts) : Type 0 where
  pub each : (prefix : List ℕ) → prefix_count prefix new ≡ prefix_count prefix old - new_count prefix ws os

-- The entries went that they take away.
pub record CountsWent (ws : List Change) (os : List (Option EntryAt)) (old new : PrefixCounts) : Type 0 where
  pub each : (prefix : List ℕ) → prefix_count prefix new ≡ prefix_count prefix old - gone_count prefix ws os

-- The counts mean the same.
pub record SameCounts (old new : PrefixCounts) : Type 0 where
  pub each : (prefix : List ℕ) → prefix_count prefix new ≡ prefix_count prefix old

-- ---- computed examples: of the owner `t` one entry comes and one goes; a third is put where it was, and a fourth goes that wasn't there
abbrev four_changes : List Change
four_changes = (2 ∷ 1 ∷ 0x74 ∷ 7 ∷ [], Some []) ∷ (2 ∷ 1 ∷ 0x74 ∷ 8 ∷ [], None) ∷ (2 ∷ 1 ∷ 0x74 ∷ 9 ∷ [], Some []) ∷ (2 ∷ 1 ∷ 0x74 ∷ 10 ∷ [], None) ∷ []

module _ (e : EntryAt) where
  one_comes : new_count (2 ∷ 1 ∷ 0x74 ∷ []) four_changes (None ∷ Some e ∷ Some e ∷ None ∷ []) ≡ 1
  one_comes = refl

  one_goes : gone_count (2 ∷ 1 ∷ 0x74 ∷ []) four_changes (None ∷ Some e ∷ Some e ∷ None ∷ []) ≡ 1
  one_goes = refl
