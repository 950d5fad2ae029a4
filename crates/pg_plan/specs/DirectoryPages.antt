-- Pages of the directory, which a plan takes from the free ones and gives back.
use Rattle.std.specs.Prelude.{◌≡◌, ◌≢◌, ◌≤◌, ◌<◌, ◌⊎◌, ℕ, zero, suc, true, false, List, [], ◌∷◌, ◌++◌, length, get_or, refl}
use Rattle.pg_map.specs.Kinds.{Kind, Free, Slotted}
use Rattle.pg_window.specs.Windows.{IsBare}
use Rattle.pg_plan.specs.Drafts.{Drafted, shown, NotesPage}
use Rattle.std.proofs.Common.{arith}
use Rattle.std.proofs.lemmas.List.Elements.{Contains-append_left, Contains-push}

-- All places but one are as they were.
pub record OthersStay (old new : Drafted) (at : ℕ) : Type 0 where
  pub kinds : (i : ℕ) → i ≢ at → get_or new.now i Free ≡ get_or old.now i Free
  pub away : (i : ℕ) → i ≢ at → get_or new.away i false ≡ get_or old.away i false

-- The page at this place, which was free or is one more at the end, isn't in memory from now on.
pub record IsPageTaken (old new : Drafted) (at : ℕ) : Type 0 where
  pub was : get_or old.now at Free ≡ Free
  pub within : at < length new.now
  pub grown : length old.now ≤ length new.now
  pub kind : get_or new.now at Free ≡ Slotted []
  pub away : get_or new.away at false ≡ true
  pub others : OthersStay old new at
  pub notes : NotesPage old.touched new.touched at

-- The page at this place is free.
pub record IsPageGiven (old new : Drafted) (at : ℕ) : Type 0 where
  pub count : length new.now ≡ length old.now
  pub kind : get_or new.now at Free ≡ Free
  pub away : get_or new.away at false ≡ false
  pub others : OthersStay old new at
  pub touched : new.touched ≡ old.touched ++ at ∷ []

-- Place by place the pages are the same, or have no string and no part of a value.
pub record OnlyBare (old new : List Kind) : Type 0 where
  pub each : (at : ℕ) → (get_or new at Free ≡ get_or old at Free) ⊎ (IsBare (get_or old at Free) × IsBare (get_or new at Free))

-- ---- computed example: the only page, which was free, is taken
the_only_page : IsPageTaken (record { before = shown []; now = Free ∷ []; away = false ∷ []; touched = [] }) (record { before = shown []; now = Slotted [] ∷ []; away = true ∷ []; touched = 0 ∷ [] }) 0
the_only_page = record {
  was = refl;
  within = omega arith;
  grown = omega arith;
  kind = refl;
  away = refl;
  others = record { kinds = kinds; away = marks };
  notes = record { here = Contains-push [] 0; others = λ i has. Contains-append_left [] (0 ∷ []) i has };
}
  where
    kinds : (i : ℕ) → i ≢ 0 → get_or (Slotted [] ∷ []) i Free ≡ get_or (Free ∷ []) i Free
    kinds zero apart = absurd (apart refl)
    kinds (suc i) apart = refl

    marks : (i : ℕ) → i ≢ 0 → get_or (true ∷ []) i false ≡ get_or (false ∷ []) i false
    marks zero apart = absurd (apart refl)
    marks (suc i) apart = refl
