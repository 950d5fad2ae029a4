-- Pages behind the root of which some are in memory, as contracts see them.
use Rattle.std.specs.Prelude.{◌≡◌, Bool, true, false, List, [], ◌∷◌, map, refl}
use Rattle.pg_map.specs.Kinds.{Kind, Free, Slotted, Long}
use Rattle.pg_window.specs.declared.sheets.Sheet.{Sheet}
use Rattle.pg_window.specs.declared.sheets.Sheet.TheVariants.{Free as FreeSheet, Away as AwaySheet, Slotted as SlottedSheet, Long as LongSheet}

-- One that isn't in memory is seen as a page of entries that has none: it isn't free, and has no part of a value.
abbrev pub sheet_kind : Sheet → Kind
sheet_kind FreeSheet = Free
sheet_kind AwaySheet = Slotted []
sheet_kind (SlottedSheet page) = Slotted page.value
sheet_kind (LongSheet next bytes) = Long next bytes.items

abbrev pub sheet_kinds : List Sheet → List Kind
sheet_kinds sheets = map sheet_kind sheets

-- whether a page isn't in memory
abbrev pub is_away : Sheet → Bool
is_away FreeSheet = false
is_away AwaySheet = true
is_away (SlottedSheet page) = false
is_away (LongSheet next bytes) = false

-- ---- computed example
of_two : sheet_kinds (FreeSheet ∷ AwaySheet ∷ []) ≡ Free ∷ Slotted [] ∷ []
of_two = refl
