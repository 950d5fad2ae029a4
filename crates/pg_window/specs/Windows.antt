-- Pages in memory that show a part of a store, and what the whole store is once they have changed.
use Rattle.std.specs.Prelude.{◌≡◌, ◌⊎◌, ℕ, ◌<◌, Bool, true, false, List, [], ◌∷◌, length, map, get_or, None, codes, refl}
use Rattle.std.proofs.Common.{inl, inr}
use Rattle.std.specs.Bool.{if◌then◌else◌}
use Rattle.ct_keep.specs.Content.{Content, Change}
use Rattle.std.specs.List.{Contains}
use Rattle.std.specs.FinMap.{get}
use Rattle.pg_map.specs.Done.{IsDone, HasKeyAt}
use Rattle.pg_map.specs.Holding.{IsLayout}
use Rattle.pg_map.specs.Kinds.{Kind, Free, Slotted, Long}
use Rattle.pg_directory.specs.Trees.{StorePage, Plain}
use Rattle.pg_window.specs.declared.sheets.Sheet.{Sheet}
use Rattle.pg_window.specs.Sheets.{sheet_kinds, is_away}

-- which pages are not in memory
abbrev pub away_of : List Sheet → List Bool
away_of sheets = map is_away sheets

-- What is in memory are pages of the store, none of them of its directory; each free page is in memory.
pub record ShowsPages (pages : List StorePage) (now : List Kind) (away : List Bool) : Type 0 where
  pub count : length now ≡ length pages
  pub flags : length away ≡ length pages
  pub shown : (at : ℕ) → at < length pages → get_or away at false ≡ false → get_or pages at (Plain Free) ≡ Plain (get_or now at Free)
  pub hidden : (at : ℕ) → get_or away at false ≡ true → get_or now at Free ≡ Slotted []
  pub free : (at : ℕ) → at < length pages → get_or pages at (Plain Free) ≡ Plain Free → get_or away at false ≡ false

-- By themselves they also hold a map: of each entry in memory all long pages are in memory, and of each long page in memory its entry is.
pub record IsWindow (pages : List StorePage) (now : List Kind) (away : List Bool) : Type 0 where
  pub shows : ShowsPages pages now away
  pub closed : (held : Content) × IsLayout now held

abbrev pub SheetsAreWindow : List StorePage → List Sheet → Type 0
SheetsAreWindow pages sheets = IsWindow pages (sheet_kinds sheets) (away_of sheets)

-- They hold this part of the map: the entries whose strings stand on them, with their values, and no others.
pub record HoldPart (now : List Kind) (m held : Content) : Type 0 where
  pub done : IsDone now held
  pub part : (at : ℕ) (key : List ℕ) → HasKeyAt now at key → get held key ≡ get m key
  pub others : (key : List ℕ) → ((at : ℕ) → HasKeyAt now at key → ⊥) → get held key ≡ None

-- at each place of the last list the old one where the flag is true, else the one of the last list, as behind the flags
abbrev pub merged : {X : Type 0} → List Bool → List X → List X → List X
merged [] old now = now
merged (b ∷ bs) [] now = now
merged (b ∷ bs) (x ∷ old) [] = []
merged (b ∷ bs) (x ∷ old) (y ∷ now) = (if b then x else y) ∷ merged bs old now

-- the pages of the whole store: those that are away as they were, and those in memory as they are now
abbrev pub stored : List Bool → List StorePage → List Kind → List StorePage
stored away pages later = merged away pages (map Plain later)

-- A page that has no string and no part of a value.
abbrev pub IsBare : Kind → Type 0
IsBare Free = Unit {0}
IsBare (Slotted []) = Unit {0}
IsBare (Slotted (s ∷ ss)) = ⊥
IsBare (Long next bytes) = ⊥

-- Pages that are away have nothing in memory.
pub record StayAway (now : List Kind) (away : List Bool) : Type 0 where
  pub bare : (at : ℕ) → get_or away at false ≡ true → IsBare (get_or now at Free)

-- No string of a key that is changed stands on a page that is away.
pub record ChangesShown (kinds : List Kind) (away : List Bool) (ws : List Change) : Type 0 where
  pub shown : (w : Change) (at : ℕ) → Contains ws w → HasKeyAt kinds at w.0 → get_or away at false ≡ false

-- Page by page they are the same, or have nothing.
abbrev pub DifferInBare : List Kind → List Kind → Type 0
DifferInBare [] [] = Unit {0}
DifferInBare [] (l ∷ ls) = ⊥
DifferInBare (k ∷ ks) [] = ⊥
DifferInBare (k ∷ ks) (l ∷ ls) = ((k ≡ l) ⊎ (IsBare k × IsBare l)) × DifferInBare ks ls

-- ---- computed example: of three pages the second one is away, and a fourth one is new
the_old_second : merged (false ∷ true ∷ false ∷ []) (Free ∷ Slotted (codes "a" ∷ []) ∷ Free ∷ []) (Slotted (codes "b" ∷ []) ∷ Slotted [] ∷ Free ∷ Long 0 (codes "v") ∷ [])
    ≡ Slotted (codes "b" ∷ []) ∷ Slotted (codes "a" ∷ []) ∷ Free ∷ Long 0 (codes "v") ∷ []
the_old_second = refl

a_bare_page : DifferInBare (Free ∷ Long 0 (codes "v") ∷ []) (Slotted [] ∷ Long 0 (codes "v") ∷ [])
a_bare_page = (inr (tt, tt), (inl refl, tt))
