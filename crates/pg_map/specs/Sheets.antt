-- The pages in memory, as contracts see them.
use Rattle.std.specs.Prelude.{◌≡◌, refl, ℕ, List, [], ◌∷◌, ◌++◌, map}
use Rattle.std.specs.Int.{to_be_bytes, w16, w32}
use Rattle.pg_map.specs.declared.sheets.Sheet.{Sheet}
use Rattle.pg_map.specs.declared.sheets.Sheet.TheVariants.{Free as FreeSheet, Slotted as SlottedSheet, Long as LongSheet}
use Rattle.pg_map.specs.Kinds.{Kind, Free, Slotted, Long}

abbrev pub sheet_kind : Sheet → Kind
sheet_kind FreeSheet = Free
sheet_kind (SlottedSheet page) = Slotted page
sheet_kind (LongSheet next bytes) = Long next bytes.items

abbrev pub sheet_kinds : List Sheet → List Kind
sheet_kinds sheets = map sheet_kind sheets

-- the first eight bytes of a long page
abbrev pub head_of_long : ℕ → ℕ → List ℕ
head_of_long next count = 2 ∷ (to_be_bytes w32 next ++ (to_be_bytes w16 count ++ 0 ∷ []))

-- ---- computed example
head_of_the_last : head_of_long 0 3 ≡ 2 ∷ 0 ∷ 0 ∷ 0 ∷ 0 ∷ 0 ∷ 3 ∷ 0 ∷ []
head_of_the_last = refl
