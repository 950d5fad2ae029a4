-- How a run of the console ends, by its status.
use Rattle.std.specs.Prelude.{ℕ, suc, ◌≡◌, ◌≢◌, ◌≤◌, ◌==◌, ◌⊎◌, ◌↔◌, Bool, true, false, List, [], ◌∷◌, ◌++◌, length, Option, Some, codes, refl, None}
use Rattle.std.specs.Str.{chars, is_utf8}
use lib.Utf8.{encode}
use Rattle.std.proofs.Common.{lit<, inr, arith}
use Rattle.std.specs.FinMap.{empty}
use Rattle.ct_base.specs.Told.{with_prefix, with_suffix}
use Rattle.ct_base.specs.Moments.{Passes}
use Rattle.ct_site.specs.Disks.{Beside}
use Rattle.ct_keep.specs.Content.{Content}
use Rattle.ct_keep.specs.declared.keepers.KeepFault.{KeepFault}
use Rattle.ct_keep.specs.declared.keepers.KeepFault.TheVariants as keep_fault
use Rattle.ct_keep.specs.KeeperViews.{KeeperView, PassesRoom, IsDurable}
use Rattle.ct_keep.specs.InMemory.{in_memory, settled_in_memory}
use Rattle.ct_keep.specs.KeeperStates.{KeeperState, no_counts, mem_view}
use Rattle.st_cut.specs.Seen.{Seen}
use Rattle.db_state.specs.laws.Empty.{empty_stands}
use Rattle.db_engine.specs.Runs.{Piece, Turn, pieces, state_after, transcript, AllAllowed, AllObeyLimit, statement, rest_piece, Step, turn_by}
use Rattle.db_console.specs.Looking.{TurnsLook}
use Rattle.db_console.specs.Worlds.{World, HasPieces, LeavesState, IsMoment, IsPartOf, IsPrefixOf, CommitsWithin, world_after, world}
use Rattle.db_console.specs.Asking.{AskedThen, Calls}
use Rattle.db_console.specs.Views.{Shows, EndsHere, ToldEnd, ToldEndOnce, HearRose, SayRose, FaultsAre, Breaks, ServesEnd}
use Rattle.db_console.specs.declared.endings.Ending.{Ending}
use Rattle.db_console.specs.declared.endings.Ending.TheVariants.{Done, HearFault, SayFault, NoMemory, DiskFault, PastLimit}
use Rattle.db_console.specs.declared.saying.AnswerFault.{AnswerFault}
use Rattle.db_console.specs.declared.saying.AnswerFault.TheVariants.{Say, Disk}

abbrev pub status_of : Ending → ℕ
status_of Done = 0
status_of HearFault = 3
status_of SayFault = 4
status_of NoMemory = 5
status_of DiskFault = 6
status_of PastLimit = 8

abbrev pub ending_of : AnswerFault → Ending
ending_of Say = SayFault
ending_of Disk = DiskFault

-- how the keeper failed in a run that ended so
abbrev pub fault_of_ending : Ending → Option KeepFault
fault_of_ending DiskFault = Some keep_fault.Disk
fault_of_ending ending = None

-- The end of the script was served, and the run ends so.
abbrev pub EndsRun : Ending → KeeperView → KeeperView → Seen → Type 0
EndsRun Done old new before = ServesEnd old new before
EndsRun SayFault old new before = Breaks true Say [] old new before
EndsRun DiskFault old new before = Breaks true Disk [] old new before
EndsRun ending old new before = ⊥

-- ---- what was answered, and what was said of it

-- The turns are those of a script, whole or as far as it has come: each piece of it was answered, and each reply was said.
-- Each of them obeys the limit on the content. A crash now leaves the state after them.
pub record SaidAll (limit store : ℕ) (whole : Bool) (script : List ℕ) (was : World) (turns : List Turn) (new : KeeperView) : Type 0 where
  pub rest : List ℕ
  pub cut : HasPieces whole script (pieces turns) rest
  pub content : Content
  pub limited : AllObeyLimit limit store was.state turns was.content content
  pub shows : Shows new (world_after limit was turns content)
  pub settled : IsDurable new

-- The turns are those of the first pieces of a script, and the answer of the last one broke off.
pub record AreFirst (whole : Bool) (script : List ℕ) (turns done : List Turn) : Type 0 where
  pub last : Turn
  pub split : turns ≡ done ++ last ∷ []
  pub later : List Piece
  pub rest : List ℕ
  pub cut : HasPieces whole script (pieces turns ++ later) rest

-- The reply to the last one was said in part: the bytes said are a prefix of all that the turns say, and not all of it,
-- and begin with all that the turns before the last one say. Where it is told what was said before and how many bytes may
-- be said in all, all that the turns say would have been too many. Each turn obeys the limit on the content. A crash now leaves the
-- state after all of them.
pub record SaidInPart (limit store : ℕ) (whole : Bool) (script : List ℕ) (was : World) (turns : List Turn) (new : KeeperView) : Type 0 where
  pub done : List Turn
  pub first : AreFirst whole script turns done
  pub said : List ℕ
  pub content : Content
  pub limited : AllObeyLimit limit store was.state turns was.content content
  pub shows : Shows new (record { content = content; state = state_after limit was.state turns; said = with_suffix was.said said })
  pub part : IsPartOf said (transcript limit was.state turns)
  pub prefix : IsPrefixOf (transcript limit was.state done) said
  pub passes : PassesRoom new.fixed.say_room was.said (transcript limit was.state turns)
  pub settled : IsDurable new

-- The disk failed in the last one: all was said that the turns before it say, each of which obeys the limit on the content, and a crash
-- leaves the state before it or after it.
pub record FailedInLast (limit store : ℕ) (whole : Bool) (script : List ℕ) (was : World) (turns : List Turn) (new : KeeperView) : Type 0 where
  pub done : List Turn
  pub content : Content
  pub limited : AllObeyLimit limit store was.state done was.content content
  pub first : AreFirst whole script turns done
  pub told : new.beside.said ≡ with_suffix was.said (transcript limit was.state done)
  pub leaves : (left : Option Content) (said : List ℕ) → new.now left said → LeavesState left (state_after limit was.state done) ⊎ LeavesState left (state_after limit was.state turns)

-- Which turns were answered and what was said of them, by how the run ended and by the bytes taken from the script. `store` is how much
-- the content may weigh.
abbrev pub Ends : ℕ → ℕ → ℕ → List ℕ → World → List Turn → KeeperView → Ending → Type 0
-- each statement of the script, and the rest
Ends limit store most taken was turns new Done = SaidAll limit store true taken was turns new
-- the statements that a newline ends in the bytes taken
Ends limit store most taken was turns new HearFault = SaidAll limit store false taken was turns new
-- up to one whose reply was said in part; the end of the bytes taken counts as the script's end only where nothing is left
Ends limit store most taken was turns new SayFault = (whole : Bool) × (whole ≡ true → EndsHere new.beside) × SaidInPart limit store whole taken was turns new
-- nothing
Ends limit store most taken was turns new NoMemory = (turns ≡ []) × Shows new was × IsDurable new
-- up to one in which the disk failed
Ends limit store most taken was turns new DiskFault = (whole : Bool) × (whole ≡ true → EndsHere new.beside) × FailedInLast limit store whole taken was turns new
-- the statements that a newline ends in the first `most` bytes
Ends limit store most taken was turns new PastLimit = (first : List ℕ) × (more : ℕ) × (taken ≡ first ++ more ∷ []) × (length first ≡ most) × SaidAll limit store false first was turns new

-- The answers of a run. At each moment since its start, and now, a crash leaves the state after some of the first turns,
-- and what was said by then is a prefix of what these say. There were at most as many commits as statements among the turns. These looked up
-- no more than they may at the content at entry; where something is said of all of them, that content stays, unless the disk failed.
pub record Course (limit most : ℕ) (taken : List ℕ) (was : World) (old new : KeeperView) (ending : Ending) : Type 0 where
  pub turns : List Turn
  pub allowed : AllAllowed limit old.fixed.limit was.state turns
  pub ends : Ends limit old.fixed.limit most taken was turns new ending
  pub moments : Passes old.time new.time (IsMoment limit was turns)
  pub now : (left : Option Content) (said : List ℕ) → new.now left said → IsMoment limit was turns left said
  pub commits : CommitsWithin turns old new
  pub looks : TurnsLook limit turns old new (fault_of_ending ending)
  -- what was taken so far is answered before `hear` is called again
  pub asked : Calls old.beside.hearings new.beside.hearings (AskedThen old.beside.left taken limit was turns)

-- ---- why it ended so

abbrev pub Because : ℕ → List ℕ → KeeperView → KeeperView → Ending → Type 0
-- `hear` answered that the script ends, and wasn't called again
Because most taken old new Done = (length taken ≤ most) × EndsHere new.beside × ToldEnd true old.beside new.beside
-- `hear` never answered that the script ends
Because most taken old new HearFault = (length taken ≤ most) × ToldEnd false old.beside new.beside
Because most taken old new SayFault = (length taken ≤ most) × ToldEndOnce old.beside new.beside
-- nothing was heard or said
Because most taken old new NoMemory = (taken ≡ []) × (new.beside ≡ old.beside)
Because most taken old new DiskFault = (length taken ≤ most) × ToldEndOnce old.beside new.beside
Because most taken old new PastLimit = (length taken ≡ suc most) × ToldEnd false old.beside new.beside

-- The counts of faults after a run with this status: that of hearing rose exactly with 3, that of saying with 4, that of the disk with 6.
abbrev pub FaultsBy : ℕ → KeeperView → KeeperView → Type 0
FaultsBy status old new = FaultsAre (status == 3) (status == 4) (status == 6) old new

-- whether the keeper may be called again
abbrev pub IsReadyAfter : Ending → KeeperView → Type 0
IsReadyAfter DiskFault new = Unit {0}
IsReadyAfter ending new = new.ready

-- What a run of the console did that ended so. It takes statements of at most `limit` bytes, and scripts of at most `most`.
pub record Outcome (limit most : ℕ) (old new : KeeperView) (ending : Ending) : Type 0 where
  -- the bytes taken from the script
  pub taken : List ℕ
  pub prefix : old.beside.left ≡ with_prefix taken new.beside.left
  pub faults : FaultsBy (status_of ending) old new
  pub fixed : new.fixed ≡ old.fixed
  pub because : Because most taken old new ending
  pub ready : IsReadyAfter ending new
  pub course : (was : World) → Shows old was → Course limit most taken was old new ending

-- A run over a keeper ended with this status.
abbrev pub ServedWith : ℕ → ℕ → KeeperView → KeeperView → ℕ → Type 0
ServedWith limit most old new status = (ending : Ending) × (status ≡ status_of ending) × Outcome limit most old new ending

-- ---- what follows where the script is told

-- The status is 8 exactly where `most` bytes were taken, and one more came.
pub record TellsPast (most status : ℕ) (old new : Beside) : Type 0 where
  pub tells : (taken left : List ℕ) → old.left ≡ Some (taken ++ left) → new.left ≡ Some left → (status ≡ 8) ↔ (length taken ≡ suc most)

-- Without a fault a script of at most `most` bytes is served to its end, unless there is no memory. `quiet` says that no fault of the disk came.
pub record Completes (most status : ℕ) (old new : Beside) (quiet : Type 0) : Type 0 where
  pub completes : (script : List ℕ) → old.left ≡ Some script → length script ≤ most → ¬ HearRose old new → ¬ SayRose old new → quiet → (status ≡ 0) ⊎ (status ≡ 5)

-- ---- over a keeper in memory

-- Hearing doesn't fail there, and there is no disk: a run ends with 0, 4, 5 or 8.
pub in_memory_ends : (limit most : ℕ) (old new : KeeperState) (ending : Ending) → Outcome limit most (mem_view old) (mem_view new) ending → (status_of ending ≢ 3) × (status_of ending ≢ 6)
in_memory_ends limit most old new Done o = (λ is. omega arith, λ is. omega arith)
in_memory_ends limit most old new HearFault o = (λ is. let rose = o.faults.hear in omega (arith, rose), λ is. omega arith)
in_memory_ends limit most old new SayFault o = (λ is. omega arith, λ is. omega arith)
in_memory_ends limit most old new NoMemory o = (λ is. omega arith, λ is. omega arith)
in_memory_ends limit most old new DiskFault o = (λ is. omega arith, λ is. let rose = o.faults.disk in omega (arith, rose))
in_memory_ends limit most old new PastLimit o = (λ is. omega arith, λ is. omega arith)

-- ---- computed examples: over a keeper that may say 40 bytes in all. Of a script of 14 bytes ten were allowed, and one more was taken
abbrev bad : List ℕ → Turn
bad text = turn_by (statement text) Step

abbrev telling : List ℕ → List ℕ → KeeperView
telling left said = in_memory empty 0 no_counts (record { left = Some left; said = Some said; hearings = None; ends = 0; hear_faults = 0; say_faults = 0 }) (Some 40)

ten_bytes : Ends 65536 0 10 (codes "SELEC;\nSELE") (world []) (bad (codes "SELEC") ∷ []) (telling (codes "C;\n") (codes "E10: statement not understood\n")) PastLimit
unfolding chars is_utf8 encode
ten_bytes = (
  codes "SELEC;\nSEL",
  69,
  refl,
  refl,
  record {
    rest = codes "SEL";
    cut = record { statements = codes "SELEC" ∷ []; cut = (_, refl, (refl, refl)); are = refl };
    content = empty;
    limited = (empty, (empty_stands, inr (omega arith), refl), refl);
    shows = record { said = refl; holds = refl; stands = empty_stands };
    settled = settled_in_memory empty 0 no_counts _ _;
  },
)

-- hearing failed after a whole statement, which no newline had ended yet
not_ended : Ends 65536 0 10 (codes "SELEC;") (world []) [] (telling (codes "\n") []) HearFault
not_ended = record {
  rest = codes "SELEC;";
  cut = record { statements = []; cut = (refl, refl); are = refl };
  content = empty;
  limited = refl;
  shows = record { said = refl; holds = refl; stands = empty_stands };
  settled = settled_in_memory empty 0 no_counts _ _;
}

-- the first reply was said, and a prefix of the second one, since both have 54 bytes
in_part : SaidInPart 4 0 true (codes "a;\nSELEC;") (world []) (bad (codes "a") ∷ bad (codes "SELEC") ∷ []) (telling [] (codes "E10: statement not understood\nE1"))
unfolding chars is_utf8 encode
in_part = record {
  done = bad (codes "a") ∷ [];
  first = record {
    last = bad (codes "SELEC");
    split = refl;
    later = rest_piece [] ∷ [];
    rest = [];
    cut = record { statements = codes "a" ∷ codes "SELEC" ∷ []; cut = (_, refl, (_, refl, (refl, refl))); are = refl };
  };
  said = codes "E10: statement not understood\nE1";
  content = empty;
  limited = (empty, (empty_stands, inr (omega arith), refl), (empty, (empty_stands, inr (omega arith), refl), refl));
  shows = record { said = refl; holds = refl; stands = empty_stands };
  part = record { rest = codes "9: statement too long\n"; is = refl; more = lit< tt };
  prefix = record { rest = codes "E1"; is = refl };
  passes = record { passes = λ most said room was. let forty : 40 ≡ most = cc in let nothing : [] ≡ said = cc in rw (← forty, ← nothing) (lit< tt) };
  settled = settled_in_memory empty 0 no_counts _ _;
}

-- a crash while the first reply was said, which left the state after the first statement
a_moment : IsMoment 4 (world []) (bad (codes "a") ∷ bad (codes "SELEC") ∷ []) (Some empty) (codes "E10: stat")
unfolding chars is_utf8 encode
a_moment = record {
  done = bad (codes "a") ∷ [];
  later = bad (codes "SELEC") ∷ [];
  split = refl;
  leaves = record { content = empty; is = refl; stands = empty_stands };
  says = record { part = codes "E10: stat"; later = codes "ement not understood\n"; split = refl; is = refl };
}
