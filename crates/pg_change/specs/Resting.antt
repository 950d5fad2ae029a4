-- A heap at rest: of its pages just the free ones are in memory.
use Rattle.std.specs.Prelude.{◌≡◌, ◌⊎◌, Bool, cond, ℕ, ◌+◌, List, [], ◌∷◌, zero, suc, length, get_or, refl}
use Rattle.std.proofs.Common.{ap, arith, inl, inr}
use Rattle.std.proofs.lemmas.Bool.{ne_eqb}
use Rattle.pg_map.specs.Kinds.{Each, Free}
use Rattle.pg_directory.specs.Trees.{StorePage, Plain, one_if_directory}
use Rattle.pg_plan.specs.FreePlaces.{times_listed, free_at, ListsFree}
use Rattle.pg_window.specs.Sheets.{sheet_kinds}
use Rattle.pg_window.specs.declared.sheets.Sheet.{Sheet}
use Rattle.pg_window.specs.declared.sheets.Sheet.TheVariants.{Free as FreeSheet, Away as AwaySheet}

-- A page that is free, or isn't in memory.
abbrev pub AtRest : Sheet → Type 0
AtRest s = (s ≡ FreeSheet) ⊎ (s ≡ AwaySheet)

-- The pages behind the root of a store of so many home pages: each is free, and its place is listed once, or it isn't in memory.
pub record IsResting (sheets : List Sheet) (homes : ℕ) (free : List ℕ) : Type 0 where
  pub count : homes ≡ 3 + length sheets
  pub rests : Each AtRest sheets
  pub listed : ListsFree (sheet_kinds sheets) free

-- The places are those of the pages of the directory, each once.
pub record ListsDirectory (pages : List StorePage) (places : List ℕ) : Type 0 where
  pub each : (at : ℕ) → times_listed places at ≡ one_if_directory (get_or pages at (Plain Free))

-- ---- computed example: of two pages the second one is free
of_two_pages : IsResting (AwaySheet ∷ FreeSheet ∷ []) 5 (1 ∷ [])
of_two_pages = record { count = refl; rests = (inr refl, (inl refl, tt)); listed = record { each = listed } }
  where
    listed : (at : ℕ) → times_listed (1 ∷ []) at ≡ free_at (sheet_kinds (AwaySheet ∷ FreeSheet ∷ [])) at
    listed zero = refl
    listed (suc zero) = refl
    listed (suc (suc at)) = ap (λ (b : Bool). cond b 1 0 + 0) (ne_eqb 1 (suc (suc at)) (λ is. omega (arith, is)))
