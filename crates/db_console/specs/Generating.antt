-- A script that is generated, and the line that sums up its run.
use Rattle.std.specs.Prelude.{ℕ, ◌≡◌, ◌⊎◌, Bool, true, false, List, [], ◌∷◌, ◌++◌, map, codes, refl}
use Rattle.std.specs.Str.{chars, is_utf8}
use lib.Utf8.{encode}
use Rattle.ct_site.specs.Disks.{DiskView, Says}
use Rattle.ct_keep.specs.KeeperViews.{counted}
use Rattle.db_state.specs.States.{empty_state}
use Rattle.db_engine.specs.Runs.{Piece, Step, Turn, statement, rest_piece, transcript, turn_by}
use Rattle.gen_script.specs.Hits.{hit_count}
use Rattle.gen_script.specs.Scripts.{script}
use Rattle.gen_script.specs.Summaries.{summary}
use Rattle.db_console.specs.Limits.{statement_limit}
use Rattle.db_console.specs.Worlds.{HasPieces, IsPartOf}

-- each of these pieces, answered by its step
abbrev pub by_steps : List Piece → List Turn
by_steps pieces = map (λ (p : Piece). turn_by p Step) pieces

-- what a run of these pieces from the empty state says, where each of them is answered by its step
abbrev pub said_by : List Piece → List ℕ
said_by pieces = transcript statement_limit empty_state (by_steps pieces)

-- The run of the script from the empty state, in which each statement is answered by its step, says so many hits.
pub record HasHits (script : List ℕ) (hits : ℕ) : Type 0 where
  pub pieces : List Piece
  pub rest : List ℕ
  pub cut : HasPieces true script pieces rest
  pub counts : hits ≡ hit_count (said_by pieces)

-- The script for so many rows, and the line that sums up its run.
pub record IsGenerated (rows : ℕ) (bytes : List ℕ) : Type 0 where
  pub hits : ℕ
  pub has : HasHits (script rows) hits
  pub is : bytes ≡ script rows ++ summary rows hits

-- Bytes were said to a site, by any number of calls of which the last one may have failed, and nothing else was done: no call of `hear` or of its disk.
pub record SaysTo (failed : Bool) (bytes : List ℕ) (old new : DiskView) : Type 0 where
  pub says : Says bytes old new
  pub counts : new.beside.say_faults ≡ counted failed old.beside.say_faults

-- The first of the bytes were said, and not all of them, for a fault.
pub record SaysToInPart (bytes : List ℕ) (old new : DiskView) : Type 0 where
  pub part : List ℕ
  pub is : IsPartOf part bytes
  pub says : SaysTo true part old new

-- What was generated was said, and all of it where the status is 0, and not all of it where the status is 4; where it is 5, there was no memory, and nothing was said.
abbrev pub Generates : ℕ → ℕ → DiskView → DiskView → Type 0
Generates rows status old new =
    ((status ≡ 0) × (bytes : List ℕ) × IsGenerated rows bytes × SaysTo false bytes old new)
    ⊎ ((status ≡ 4) × (bytes : List ℕ) × IsGenerated rows bytes × SaysToInPart bytes old new)
    ⊎ (status ≡ 5)

-- computed example: a script that is no statement has no hits
no_statement : HasHits (codes "SELEC;\n-- bye\n") 0
unfolding chars is_utf8 encode
no_statement = record {
  pieces = statement (codes "SELEC") ∷ rest_piece (codes "-- bye\n") ∷ [];
  rest = codes "-- bye\n";
  cut = record { statements = codes "SELEC" ∷ []; cut = (_, refl, (refl, refl)); are = refl };
  counts = refl;
}
