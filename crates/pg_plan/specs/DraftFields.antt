-- The fields of a draft.
use Rattle.std.specs.Prelude.{◌≡◌, ℕ, ◌≤◌, ◌<◌, List, [], ◌∷◌, false, None, length, take, refl}
use Rattle.std.specs.List.{Contains}
use Rattle.pg_plan.specs.declared.drafts.Draft.TheInside.{Inside}
use Rattle.pg_plan.specs.declared.drafts.Note.{Note}
use Rattle.pg_map.specs.Kinds.{Each, Free}
use Rattle.pg_window.specs.declared.sheets.Sheet.{Sheet}
use Rattle.pg_window.specs.declared.sheets.Sheet.TheVariants.{Free as FreeSheet}
use Rattle.pg_window.specs.Sheets.{sheet_kinds}
use Rattle.pg_window.specs.Windows.{away_of}
use Rattle.pg_plan.specs.Drafts.{undone, touched_by, shown, Drafted}

abbrev pub draft_of : List Sheet → List Note → ℕ → Drafted
draft_of sheets notes before = record { before = shown (take before (undone notes sheets)); now = sheet_kinds sheets; away = away_of sheets; touched = touched_by notes }

abbrev pub drafted : Inside → Drafted
drafted d = draft_of d.sheets.items d.notes.items d.before

abbrev pub AreOnSheets : List Note → List Sheet → Type 0
AreOnSheets notes sheets = Each (λ (n : Note). n.at < length sheets) notes

-- Each note is of a page that is there, and each page that was not there has one.
pub record IsDraftOf (sheets : List Sheet) (notes : List Note) (before : ℕ) : Type 0 where
  pub within : Each (λ (n : Note). n.at < length sheets) notes
  pub grown : before ≤ length sheets
  pub new : (i : ℕ) → before ≤ i → i < length sheets → Contains (touched_by notes) i

abbrev pub IsDraft : Inside → Type 0
IsDraft d = IsDraftOf d.sheets.items d.notes.items d.before

-- ---- computed example: one page more, which has a note
one_page_more : draft_of (FreeSheet ∷ []) (record { at = 0; old = None } ∷ []) 0 ≡ record { before = record { kinds = []; away = [] }; now = Free ∷ []; away = false ∷ []; touched = 0 ∷ [] }
one_page_more = refl
