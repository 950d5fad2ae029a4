-- Pages that are brought into memory, and go again.
use Rattle.std.specs.Prelude.{◌≡◌, ◌≢◌, ◌⊎◌, ℕ, ◌+◌, ◌-◌, ◌<◌, ◌≤◌, Bool, true, false, List, [], ◌∷◌, ◌++◌, length, map, get_or, set, refl}
use Rattle.std.specs.List.{Contains}
use Rattle.ct_site.specs.Disks.{DiskView}
use Rattle.ct_keep.specs.Content.{Content}
use Rattle.pg_map.specs.Holding.{kind_of_page, times, one_if_long, IsLayout}
use Rattle.pg_map.specs.Kinds.{Each, Kind, Free, Slotted, Long, IsKind}
use Rattle.pg_directory.specs.Trees.{StorePage, Plain, kind_of}
use Rattle.pg_directory.specs.Looking.{DiskHolds}
use Rattle.pg_window.specs.declared.sheets.Sheet.{Sheet}
use Rattle.pg_window.specs.declared.sheets.Sheet.TheVariants.{Free as FreeSheet, Away as AwaySheet}
use Rattle.pg_window.specs.Sheets.{sheet_kinds}
use Rattle.pg_window.specs.Windows.{away_of, SheetsAreWindow, ShowsPages}

abbrev pub SheetsShow : List StorePage → List Sheet → Type 0
SheetsShow pages sheets = ShowsPages pages (sheet_kinds sheets) (away_of sheets)

-- The disk stands for these pages, and those in memory show some of them.
pub record ShowsStore (disk : DiskView) (homes top : ℕ) (pages : List StorePage) (sheets : List Sheet) : Type 0 where
  pub holds : DiskHolds disk homes top pages
  pub shows : SheetsShow pages sheets

-- The disk stands for pages that hold the map, and those in memory are a window over them.
pub record IsStoreWindow (disk : DiskView) (homes top : ℕ) (pages : List StorePage) (m : Content) (sheets : List Sheet) : Type 0 where
  pub holds : DiskHolds disk homes top pages
  pub layout : IsLayout (map kind_of pages) m
  pub window : SheetsAreWindow pages sheets

-- the pages, those at these places away, the last of the places first
abbrev pub unloaded : List ℕ → List Sheet → List Sheet
unloaded [] sheets = sheets
unloaded (at ∷ more) sheets = set (unloaded more sheets) at AwaySheet

abbrev pub is_free : Kind → Bool
is_free Free = true
is_free (Slotted ss) = false
is_free (Long next bytes) = false

-- which pages are free
abbrev pub free_of : List Kind → List Bool
free_of kinds = map is_free kinds

-- Each page that was loaded is listed: with these away again, the pages are what they were. None of them is free, and each may be written.
pub record Loads (old new : List Sheet) (listed now_listed : List ℕ) : Type 0 where
  pub more : List ℕ
  pub list : now_listed ≡ listed ++ more
  pub back : unloaded more new ≡ old
  pub free : free_of (sheet_kinds new) ≡ free_of (sheet_kinds old)
  pub kinds : Each IsKind (sheet_kinds old) → Each IsKind (sheet_kinds new)

-- Each page of entries at one of these places is in memory.
pub record ArePagesThere (pages : List StorePage) (away : List Bool) (places : List ℕ) : Type 0 where
  pub each : (i : ℕ) (ss : List (List ℕ)) → i < length places → get_or pages (get_or places i 0) (Plain Free) ≡ Plain (Slotted ss) → get_or away (get_or places i 0) false ≡ false

-- A page of this kind is at a place where none was in memory.
pub record PutsKind (old new : List Sheet) (at : ℕ) (kind : Kind) : Type 0 where
  pub within : at < length old
  pub was : get_or old at FreeSheet ≡ AwaySheet
  pub kinds : sheet_kinds new ≡ set (sheet_kinds old) at kind
  pub away : away_of new ≡ set (away_of old) at false

-- Long pages of these numbers came into memory, and nothing else.
pub record AddsLongs (pages : List StorePage) (old new : List Sheet) (chain : List ℕ) : Type 0 where
  pub shows : SheetsShow pages new
  pub long : (i : ℕ) → 3 ≤ i → one_if_long (kind_of_page (sheet_kinds new) i) ≡ one_if_long (kind_of_page (sheet_kinds old) i) + times i chain
  pub others : (at : ℕ) → (get_or (away_of new) at false ≡ get_or (away_of old) at false) ⊎ (one_if_long (get_or (sheet_kinds new) at Free) ≡ 1)

-- ---- at rest

-- the place of the page of a number, counted from the first one behind the root
abbrev pub page_place : ℕ → ℕ
page_place number = number - 3

abbrev pub rested_sheet : Sheet → Sheet
rested_sheet FreeSheet = FreeSheet
rested_sheet sheet = AwaySheet

-- the pages, those at these places away unless they are free
abbrev pub rested : List ℕ → List Sheet → List Sheet
rested [] sheets = sheets
rested (at ∷ more) sheets = set (rested more sheets) at (rested_sheet (get_or (rested more sheets) at FreeSheet))

-- Each page that isn't free or away is at one of these places.
pub record ListsLoaded (sheets : List Sheet) (places : List ℕ) : Type 0 where
  pub all : (at : ℕ) → at < length sheets → (rested_sheet (get_or sheets at FreeSheet) ≡ get_or sheets at FreeSheet) ⊎ Contains places at

-- Each page of the store that is free is so in memory, and all others are away.
pub record IsResting (pages : List StorePage) (sheets : List Sheet) : Type 0 where
  pub count : length sheets ≡ length pages
  pub free : (at : ℕ) → at < length pages → get_or pages at (Plain Free) ≡ Plain Free → get_or sheets at FreeSheet ≡ FreeSheet
  pub others : (at : ℕ) → at < length pages → get_or pages at (Plain Free) ≢ Plain Free → get_or sheets at FreeSheet ≡ AwaySheet

-- ---- computed examples
all_away : unloaded (1 ∷ []) (FreeSheet ∷ FreeSheet ∷ []) ≡ FreeSheet ∷ AwaySheet ∷ []
all_away = refl

free_stays : rested (0 ∷ 1 ∷ []) (FreeSheet ∷ AwaySheet ∷ []) ≡ FreeSheet ∷ AwaySheet ∷ []
free_stays = refl
