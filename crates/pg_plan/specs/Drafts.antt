-- Pages that are changed in memory, and can go back to what they were.
use Rattle.std.specs.Prelude.{◌≡◌, ℕ, Bool, true, false, List, [], ◌∷◌, ◌++◌, length, get_or, set, map, Option, Some, None, refl}
use Rattle.std.specs.List.{Contains}
use Rattle.pg_plan.specs.declared.drafts.Note.{Note}
use Rattle.pg_map.specs.Kinds.{Kind, Free, Slotted, Long}
use Rattle.pg_window.specs.declared.sheets.Sheet.{Sheet}
use Rattle.pg_window.specs.declared.sheets.Sheet.TheVariants.{Free as FreeSheet, Away as AwaySheet}
use Rattle.pg_window.specs.Sheets.{sheet_kind, sheet_kinds, is_away}
use Rattle.pg_window.specs.Windows.{away_of}

-- the page that is kept, or a free one where nothing is kept
abbrev pub sheet_kept : Option Sheet → Sheet
sheet_kept None = FreeSheet
sheet_kept (Some sheet) = sheet

-- the pages with the notes undone, the last of them first
abbrev pub undone : List Note → List Sheet → List Sheet
undone [] sheets = sheets
undone (n ∷ ns) sheets = set (undone ns sheets) n.at (sheet_kept n.old)

abbrev pub touched_by : List Note → List ℕ
touched_by ns = map (λ (n : Note). n.at) ns

-- What pages are, and which of them aren't in memory.
pub record Shown : Type 0 where
  pub kinds : List Kind
  pub away : List Bool

abbrev pub shown : List Sheet → Shown
shown sheets = record { kinds = sheet_kinds sheets; away = away_of sheets }

-- What the pages were, what they are, which of them aren't in memory now, and which were changed, each counted from the first one behind
-- the root.
pub record Drafted : Type 0 where
  pub before : Shown
  pub now : List Kind
  pub away : List Bool
  pub touched : List ℕ

-- this page in place of another one
abbrev pub with_page : Drafted → ℕ → Sheet → Drafted
with_page d at sheet = record { before = d.before; now = set d.now at (sheet_kind sheet); away = set d.away at (is_away sheet); touched = d.touched }

-- the page at this place counts as changed
abbrev pub with_touched : Drafted → ℕ → Drafted
with_touched d at = record { before = d.before; now = d.now; away = d.away; touched = d.touched ++ at ∷ [] }

-- one free page more, which counts as changed
abbrev pub with_free_page : Drafted → Drafted
with_free_page d = record { before = d.before; now = d.now ++ Free ∷ []; away = d.away ++ false ∷ []; touched = d.touched ++ length d.now ∷ [] }

-- The last of the places is this one.
pub record EndsWith (places : List ℕ) (at : ℕ) : Type 0 where
  pub first : List ℕ
  pub is : places ≡ first ++ at ∷ []

-- Each place that was among these is still, and so is this one.
pub record NotesPage (old new : List ℕ) (at : ℕ) : Type 0 where
  pub here : Contains new at
  pub others : (i : ℕ) → Contains old i → Contains new i

-- The page at this place is in memory: one that isn't has the mark, and is seen as a page of entries that has none.
pub record IsHere (d : Drafted) (at : ℕ) : Type 0 where
  pub is : get_or d.away at false ≡ true → get_or d.now at Free ≡ Slotted [] → ⊥

-- Each page has a mark, and one that isn't in memory is seen as a page of entries that has none.
pub record SeesNone (d : Drafted) : Type 0 where
  pub count : length d.away ≡ length d.now
  pub kind : (at : ℕ) → get_or d.away at false ≡ true → get_or d.now at Free ≡ Slotted []

-- Each page that was changed is in memory.
pub record TouchesHere (d : Drafted) : Type 0 where
  pub here : (at : ℕ) → Contains d.touched at → get_or d.away at false ≡ false

-- Each page that wasn't in memory isn't still, its place has the kind that it had, and it doesn't count as changed where it didn't.
pub record StaysAway (old new : Drafted) : Type 0 where
  pub away : (at : ℕ) → get_or old.away at false ≡ true → get_or new.away at false ≡ true
  pub same : (at : ℕ) → get_or old.away at false ≡ true → get_or new.now at Free ≡ get_or old.now at Free
  pub here : TouchesHere old → TouchesHere new

-- ---- computed examples: a page that was free before, one that wasn't in memory, and a page at the end
free_again : undone (record { at = 0; old = None } ∷ []) (AwaySheet ∷ []) ≡ FreeSheet ∷ []
free_again = refl

away_again : undone (record { at = 1; old = Some AwaySheet } ∷ []) (FreeSheet ∷ FreeSheet ∷ []) ≡ FreeSheet ∷ AwaySheet ∷ []
away_again = refl

one_away : shown (FreeSheet ∷ AwaySheet ∷ []) ≡ record { kinds = Free ∷ Slotted [] ∷ []; away = false ∷ true ∷ [] }
one_away = refl

one_goes_away : with_page (record { before = shown []; now = Free ∷ []; away = false ∷ []; touched = [] }) 0 AwaySheet ≡ record { before = shown []; now = Slotted [] ∷ []; away = true ∷ []; touched = [] }
one_goes_away = refl

one_at_the_end : with_free_page (record { before = shown []; now = Long 0 (7 ∷ []) ∷ []; away = false ∷ []; touched = 0 ∷ [] })
    ≡ record { before = shown []; now = Long 0 (7 ∷ []) ∷ Free ∷ []; away = false ∷ false ∷ []; touched = 0 ∷ 1 ∷ [] }
one_at_the_end = refl
