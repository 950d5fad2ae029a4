-- What was answered when `hear` was called.
use Rattle.std.specs.Prelude.{ℕ, ◌≡◌, ◌⊎◌, false, List, [], ◌∷◌, ◌++◌, Option, Some, codes, refl}
use Rattle.std.specs.Str.{chars, is_utf8}
use lib.Utf8.{encode}
use Rattle.ct_base.specs.Told.{with_prefix, with_suffix}
use Rattle.ct_site.specs.Hearings.{Hearing, WasCalled}
use Rattle.db_engine.specs.Runs.{Turn, pieces, transcript, Step, turn_by, statement}
use Rattle.db_console.specs.Worlds.{World, HasPieces, world}

-- `hear` was called so in a run whose turns these are, which began where this was left of the script and took these bytes of it
-- in all: of those that it had taken by then each statement that a newline ends was answered, and each of these replies, and
-- nothing else, had been said.
pub record AskedThen (left : Option (List ℕ)) (taken : List ℕ) (limit : ℕ) (was : World) (turns : List Turn) (h : Hearing) : Type 0 where
  pub part : List ℕ
  pub later : List ℕ
  pub prefix : taken ≡ part ++ later
  pub left_then : left ≡ with_prefix part (Some h.left)
  pub done : List Turn
  pub others : List Turn
  pub first : turns ≡ done ++ others
  pub rest : List ℕ
  pub cut : HasPieces false part (pieces done) rest
  pub said_then : with_suffix was.said (transcript limit was.state done) ≡ Some h.said

-- Each call of `hear` that is told now and wasn't before has P.
pub record Calls (old new : Option (List Hearing)) (P : Hearing → Type 0) : Type 0 where
  pub each : (h : Hearing) → WasCalled new h → WasCalled old h ⊎ P h

-- computed examples: `hear` was called again when the line that it had given was answered
abbrev first_line : List Turn
first_line = turn_by (statement (codes "SELEC")) Step ∷ []

after_a_line : AskedThen (Some (codes "SELEC;\n-- bye")) (codes "SELEC;\n-- bye") 65536 (world []) first_line (record { left = codes "-- bye"; said = codes "E10: statement not understood\n" })
unfolding chars is_utf8 encode
after_a_line = record {
  part = codes "SELEC;\n";
  later = codes "-- bye";
  prefix = refl;
  left_then = refl;
  done = first_line;
  others = [];
  first = refl;
  rest = [];
  cut = record { statements = codes "SELEC" ∷ []; cut = (_, refl, (refl, refl)); are = refl };
  said_then = refl;
}
