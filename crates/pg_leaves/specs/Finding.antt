-- Where keys that are looked for come among the keys of entries.
use Rattle.std.specs.Prelude.{◌≡◌, ◌≢◌, ℕ, ◌+◌, ◌-◌, ◌≤◌, ◌<◌, Bool, true, false, List, [], ◌∷◌, ◌++◌, length, take, drop, Option, None, Some, Result, IfOk, refl}
use Rattle.ct_site.specs.Disks.{DiskView}
use Rattle.pg_map.specs.Kinds.{Each}
use Rattle.pg_directory.specs.declared.entries.EntryAt.{EntryAt}
use Rattle.pg_directory.specs.Looking.{DiskHolds}
use Rattle.pg_directory.specs.Trees.{StorePage, key_at, HasString, IsBelow, IsAtMost, Rise}
use Rattle.pg_leaves.specs.declared.edits.Edit.{Edit}
use Rattle.pg_leaves.specs.declared.finding.NextLeaf.{NextLeaf}
use Rattle.pg_leaves.specs.Editing.{KeyEdit, keyed, pairs_below, pairs_above}

-- What is claimed of an answer over a disk that holds pages, where these are places of strings, in order of their keys.
abbrev pub OverPlaces : {T E : Type 0} → DiskView → ℕ → List EntryAt → Result T E → (List StorePage → T → Type 0) → Type 0
OverPlaces disk homes es result claim = (top : ℕ) (pages : List StorePage) → DiskHolds disk homes top pages → Each (HasString pages) es → Rise (key_at pages) es → IfOk result (λ x. claim pages x)

-- whether a key is this one, if it was read
abbrev pub IsKeyOr : Option Bool → List ℕ → List ℕ → Type 0
IsKeyOr None own key = ⊥
IsKeyOr (Some true) own key = own ≡ key
IsKeyOr (Some false) own key = own ≢ key

-- ---- among the entries that a leaf names

-- The first so many of the entries are those with keys below this one, and those behind so many the ones with keys above it.
pub record IsGapOf (pages : List StorePage) (es : List EntryAt) (key : List ℕ) (below most : ℕ) : Type 0 where
  pub low : pairs_below key (keyed pages es) ≡ keyed pages (take below es)
  pub high : pairs_above key (keyed pages es) ≡ keyed pages (drop most es)

abbrev pub IsGapOfOr : Option (ℕ × ℕ) → List StorePage → List EntryAt → List ℕ → Type 0
IsGapOfOr None pages es key = ⊥
IsGapOfOr (Some gap) pages es key = IsGapOf pages es key gap.0 gap.1

-- so many have keys below one, and so many keys that are at most it, where the last of these has just this key, or hasn't
abbrev pub IsGapAt : Bool → ℕ → ℕ → ℕ → Type 0
IsGapAt true rank below most = (below ≡ rank - 1) × (most ≡ rank)
IsGapAt false rank below most = (below ≡ rank) × (most ≡ rank)

-- the place of an edit, if it has one
abbrev pub places_given : Option EntryAt → List EntryAt
places_given None = []
places_given (Some e) = e ∷ []

-- The entries below the key of an edit were appended, and then its own place, if it has one; those with keys above it stand behind so many.
pub record PutsEdit (pages : List StorePage) (es : List EntryAt) (u : Edit) (old new : List EntryAt) (most : ℕ) : Type 0 where
  pub below : ℕ
  pub gap : IsGapOf pages es u.key.items below most
  pub is : new ≡ old ++ (take below es ++ places_given u.place)

-- ---- among the leaves

-- A key is below the first of some entries, if there is one; or it isn't.
abbrev pub ComesBefore : List StorePage → List EntryAt → List ℕ → Type 0
ComesBefore pages [] key = Unit {0}
ComesBefore pages (e ∷ es) key = IsBelow key (key_at pages e)

abbrev pub ComesBehind : List StorePage → List EntryAt → List ℕ → Type 0
ComesBehind pages [] key = ⊥
ComesBehind pages (e ∷ es) key = IsAtMost (key_at pages e) key

abbrev pub IsBeforeOr : Option Bool → List StorePage → List EntryAt → List ℕ → Type 0
IsBeforeOr None pages es key = ⊥
IsBeforeOr (Some true) pages es key = ComesBefore pages es key
IsBeforeOr (Some false) pages es key = ComesBehind pages es key

-- the first of the edits doesn't come before the first of the entries
abbrev pub StartsBehind : List StorePage → List EntryAt → List KeyEdit → Type 0
StartsBehind pages es [] = Unit {0}
StartsBehind pages es (u ∷ us) = ComesBehind pages es u.0

-- The first so many edits come before the first of the entries, and the next one doesn't.
pub record ArePartedAt (pages : List StorePage) (es : List EntryAt) (us : List KeyEdit) (count : ℕ) : Type 0 where
  pub before : Each (λ (u : KeyEdit). ComesBefore pages es u.0) (take count us)
  pub behind : StartsBehind pages es (drop count us)

abbrev pub ArePartedOr : Option ℕ → List StorePage → List EntryAt → List KeyEdit → Type 0
ArePartedOr None pages es us = ⊥
ArePartedOr (Some count) pages es us = ArePartedAt pages es us count

-- Of leaves with these least entries it is the last one whose least key is at most this one, or the first one.
pub record IsLeafFor (pages : List StorePage) (leasts : List EntryAt) (key : List ℕ) (at : ℕ) : Type 0 where
  pub low : 1 ≤ at → ComesBehind pages (drop at leasts) key
  pub high : ComesBefore pages (drop (at + 1) leasts) key
  pub less : 1 ≤ length leasts → at < length leasts

abbrev pub IsLeafForOr : Option ℕ → List StorePage → List EntryAt → List ℕ → Type 0
IsLeafForOr None pages leasts key = ⊥
IsLeafForOr (Some at) pages leasts key = IsLeafFor pages leasts key at

-- the key of the first edit
abbrev pub first_key : List KeyEdit → List ℕ
first_key [] = []
first_key (u ∷ us) = u.0

-- The next leaf that has edits: the first edit belongs to it, and so do so many in all.
pub record IsNextLeaf (pages : List StorePage) (leasts : List EntryAt) (us : List KeyEdit) (next : NextLeaf) : Type 0 where
  pub leaf : IsLeafFor pages leasts (first_key us) next.at
  pub parted : ArePartedAt pages (drop (next.at + 1) leasts) us next.edits

abbrev pub IsNextLeafOr : Option NextLeaf → List StorePage → List EntryAt → List KeyEdit → Type 0
IsNextLeafOr None pages leasts us = ⊥
IsNextLeafOr (Some next) pages leasts us = IsNextLeaf pages leasts us next

-- ---- computed examples
last_is_it : IsGapAt true 3 2 3
last_is_it = (refl, refl)

all_below : IsGapAt false 3 3 3
all_below = (refl, refl)
