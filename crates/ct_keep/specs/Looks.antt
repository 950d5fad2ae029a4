-- How much look-ups raise the counts of texts, posting rows and rules.
use Rattle.std.specs.Prelude.{ℕ, ◌≡◌, ◌+◌, ◌-◌, ◌^◌, ◌≤◌, ◌==◌, ◌||◌, min, Bool, true, false, List, [], ◌∷◌, Option, Some, None, refl}
use Rattle.std.specs.Option.{option_map}
use Rattle.std.specs.Bool.{if◌then◌else◌}
use Rattle.ct_keep.specs.Content.{Content, begins_with, entries_above, first_entry}
use Rattle.ct_keep.specs.KeeperViews.{KeeperView, Counts, is_either}

abbrev pub one_if : Bool → ℕ
one_if true = 1
one_if false = 0

-- what a look-up adds that asks for this key and hands out the entry of that one
abbrev pub look : List ℕ → Option (List ℕ) → Counts
look asked handed = record {
  texts = one_if (is_either 0x03 asked handed);
  rows = one_if (is_either 0x24 asked handed || is_either 0x25 asked handed);
  rules = one_if (is_either 0x2a asked handed);
  fulls = 0;
  commits = 0;
}

abbrev pub no_looks : Counts
no_looks = record { texts = 0; rows = 0; rules = 0; fulls = 0; commits = 0 }

-- what two parts add together
abbrev pub plus : Counts → Counts → Counts
plus a b = record { texts = a.texts + b.texts; rows = a.rows + b.rows; rules = a.rules + b.rules; fulls = a.fulls + b.fulls; commits = a.commits + b.commits }

-- what a look-up of the entry after a key adds
abbrev pub next_looks : List ℕ → Content → Counts
next_looks key m = look key (option_map (λ e. e.0) (first_entry (entries_above key m)))

-- What look-ups of one entry after the other add: from this key on, through the entries above it, to the first that isn't under the prefix.
abbrev pub looks : List ℕ → List ℕ → List (List ℕ × List ℕ) → Counts
looks prefix key [] = look key None
looks prefix key (e ∷ es) = plus (look key (Some e.0)) (if begins_with prefix e.0 then looks prefix e.0 es else no_looks)

-- what a scan of a prefix adds
abbrev pub scan_looks : List ℕ → Content → Counts
scan_looks prefix m = looks prefix prefix (entries_above prefix m)

-- the key of the first entry that isn't under the prefix: the one that the last look-up of a scan hands out
abbrev pub behind : List ℕ → List (List ℕ × List ℕ) → Option (List ℕ)
behind prefix [] = None
behind prefix (e ∷ es) = if begins_with prefix e.0 then behind prefix es else Some e.0

-- a count to which so much was added; it stands still at its end
abbrev pub raised_count : ℕ → ℕ → ℕ
raised_count n count = if n == 0 then count else min (count + n) (2 ^ 64 - 1)

abbrev pub with_looks : Counts → Counts → Counts
with_looks more c = record { texts = raised_count more.texts c.texts; rows = raised_count more.rows c.rows; rules = raised_count more.rules c.rules; fulls = raised_count more.fulls c.fulls; commits = raised_count more.commits c.commits }

-- Each of the three counts rose by no more than this.
pub record RisesBy (most old new : Counts) : Type 0 where
  pub texts : new.texts ≤ old.texts + most.texts
  pub rows : new.rows ≤ old.rows + most.rows
  pub rules : new.rules ≤ old.rules + most.rules

-- The counts rose by no more than this, however the call went.
abbrev pub LooksAtMost : {K : Type 0} → (K → KeeperView) → K → K → Counts → Type 0
LooksAtMost view old new most = RisesBy most (view old).counts (view new).counts

-- computed examples: a scan of two posting rows, behind which a text stands, asks three times, and the last look-up hands out the text
three_looks : looks (0x24 ∷ 1 ∷ []) (0x24 ∷ 1 ∷ []) ((0x24 ∷ 1 ∷ 5 ∷ [], []) ∷ (0x24 ∷ 1 ∷ 7 ∷ [], []) ∷ (0x03 ∷ [], []) ∷ []) ≡ record { texts = 1; rows = 3; rules = 0; fulls = 0; commits = 0 }
three_looks = refl

-- where nothing is under the prefix it asks once
one_look : looks (0x2a ∷ []) (0x2a ∷ []) ((0x2b ∷ [], []) ∷ []) ≡ record { texts = 0; rows = 0; rules = 1; fulls = 0; commits = 0 }
one_look = refl

raised_to_its_end : raised_count 3 (2 ^ 64 - 2) ≡ 2 ^ 64 - 1
raised_to_its_end = refl
