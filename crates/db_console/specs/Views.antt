-- What the console does to what is known of a keeper.
use Rattle.std.specs.Prelude.{ℕ, ◌≡◌, ◌==◌, ◌⊎◌, Bool, true, false, List, [], ◌∷◌, ◌++◌, Option, Some, None, Result, Ok, Err, refl}
use denote.Ref.{Bor}
use Rattle.ct_base.specs.Causes.{Rose}
use Rattle.ct_base.specs.Told.{with_suffix, IsNothing, IsSaid}
use Rattle.ct_base.specs.Moments.{Passes}
use Rattle.ct_site.specs.Disks.{Beside}
use Rattle.ct_keep.specs.Content.{Content}
use Rattle.ct_keep.specs.declared.keepers.KeepFault.{KeepFault}
use Rattle.ct_keep.specs.KeeperViews.{KeeperView, TakesAsBefore, KeeperHears, KeeperSays, PassesRoom, IsDurable, counted}
use Rattle.st_cut.specs.Seen.{Seen, StandsOpen, ShowsText}
use Rattle.db_state.specs.States.{StandsForState}
use Rattle.db_engine.specs.Runs.{Piece, statement, Answer, Step, Turn, turn_by, turn, effect_by, pieces, IsAllowed, ObeysLimit}
use Rattle.db_console.specs.Looking.{PieceLooks, TurnsLook, fault_of_answer}
use Rattle.db_console.specs.Worlds.{World, HasPieces, LeavesState, IsMoment, Leads, Served, ServedTo, Answered, IsPartOf, CommitsWithin, CommitsFor}
use Rattle.db_console.specs.declared.saying.AnswerFault.{AnswerFault}
use Rattle.db_console.specs.declared.saying.AnswerFault.TheVariants.{Say, Disk}

-- This is a world that the keeper shows: it holds the content, which stands for the state, and it tells that so much was said.
pub record Shows (view : KeeperView) (world : World) : Type 0 where
  pub said : view.beside.said ≡ world.said
  pub holds : view.content ≡ Some world.content
  pub stands : StandsForState world.content world.state

-- the count of faults of hearing, of saying, or of the disk, rose or stands at its last value
abbrev pub HearRose : Beside → Beside → Type 0
HearRose old new = Rose old.hear_faults new.hear_faults

abbrev pub SayRose : Beside → Beside → Type 0
SayRose old new = Rose old.say_faults new.say_faults

abbrev pub DiskRose : KeeperView → KeeperView → Type 0
DiskRose old new = Rose old.disk_faults new.disk_faults

-- the script ends here, where it is told
abbrev pub EndsHere : Beside → Type 0
EndsHere beside = IsNothing beside.left

-- `hear` answered once more that the script ends, exactly where `ended` is true.
abbrev pub ToldEnd : Bool → Beside → Beside → Type 0
ToldEnd ended old new = new.ends ≡ counted ended old.ends

-- It answered so at most once more, and only where nothing is left.
pub record ToldEndOnce (old new : Beside) : Type 0 where
  pub ended : Bool
  pub told : ToldEnd ended old new
  pub here : ended ≡ true → EndsHere new

-- a call of `hear` with this result answered that the script ends
abbrev pub tells_end : {E : Type 0} → Result ℕ E → Bool
tells_end (Ok count) = count == 0
tells_end (Err fault) = false

-- The counts of faults of hearing, of saying and of the disk: each rose by one, up to 2^64 - 1, where this says so, and is else as it was.
pub record FaultsAre (of_hear of_say of_disk : Bool) (old new : KeeperView) : Type 0 where
  pub hear : new.beside.hear_faults ≡ counted of_hear old.beside.hear_faults
  pub say : new.beside.say_faults ≡ counted of_say old.beside.say_faults
  pub disk : new.disk_faults ≡ counted of_disk old.disk_faults

-- none of them rose
abbrev pub NoFault : KeeperView → KeeperView → Type 0
NoFault old new = FaultsAre false false false old new

-- Bytes were heard by one call, which may have failed or answered that the script ends, and nothing else was done.
pub record Heard (failed ended : Bool) (heard : List ℕ) (old new : KeeperView) : Type 0 where
  pub hears : KeeperHears heard old new
  pub counts : new.beside.hear_faults ≡ counted failed old.beside.hear_faults
  pub end : ToldEnd ended old.beside new.beside

-- Bytes were said, by any number of calls of which the last one may have failed, and nothing else was done.
pub record Spoke (failed : Bool) (bytes : List ℕ) (old new : KeeperView) : Type 0 where
  pub says : KeeperSays bytes old new
  pub counts : new.beside.say_faults ≡ counted failed old.beside.say_faults

-- The first of the bytes were said, and not all of them, for a fault. Where the room for what is said is told, all of them would have passed it.
pub record SpokeInPart (bytes : List ℕ) (old new : KeeperView) : Type 0 where
  pub part : List ℕ
  pub is : IsPartOf part bytes
  pub spoke : Spoke true part old new
  pub passes : PassesRoom old.fixed.say_room old.beside.said bytes

-- what answering leaves, whether it fails or not
pub record HearsNothing (old new : KeeperView) : Type 0 where
  pub left : new.beside.left ≡ old.beside.left
  pub hearings : new.beside.hearings ≡ old.beside.hearings
  pub ends : new.beside.ends ≡ old.beside.ends
  pub well : TakesAsBefore old new
  pub fixed : new.fixed ≡ old.fixed

-- ---- one piece

-- A piece has this reply, and nothing of it was said yet.
pub record Replied (limit : ℕ) (piece : Piece) (was : World) (old new : KeeperView) (reply : List ℕ) : Type 0 where
  pub answer : Answer
  pub allowed : IsAllowed limit old.fixed.limit was.state piece answer
  pub is : reply ≡ (turn limit was.state (turn_by piece answer)).1
  pub content : Content
  pub holds : new.content ≡ Some content
  pub stands : StandsForState content (turn limit was.state (turn_by piece answer)).0
  pub limited : ObeysLimit old.fixed.limit was.state (effect_by limit was.state piece) answer was.content content
  pub moments : Passes old.time new.time (IsMoment limit was (turn_by piece answer ∷ []))

-- what a crash leaves where the disk failed in a turn: the state before it or after it; and nothing of it was said
pub record LeavesEither (limit : ℕ) (was : World) (last : Turn) (left : Option Content) (said : List ℕ) : Type 0 where
  pub leaves : LeavesState left was.state ⊎ LeavesState left (turn limit was.state last).0
  pub said_before : IsSaid was.said said

-- The disk failed in the answer to a piece, which counts as one by its step.
pub record Halted (limit : ℕ) (piece : Piece) (was : World) (old new : KeeperView) : Type 0 where
  pub moments : Passes old.time new.time (IsMoment limit was (turn_by piece Step ∷ []))
  pub now : (left : Option Content) (said : List ℕ) → new.now left said → LeavesEither limit was (turn_by piece Step) left said

-- A piece was answered, and the reply was said. No more was looked up than the piece may.
pub record AnswersPiece (limit : ℕ) (piece : Piece) (old new : KeeperView) : Type 0 where
  pub unheard : HearsNothing old new
  pub faults : NoFault old new
  pub ready : new.ready
  pub commits : CommitsFor piece old new
  pub looks : PieceLooks limit piece old new None
  pub answers : (was : World) → Shows old was → (now : World) × Shows new now × Answered limit old.fixed.limit piece was now old new

-- what holds unless the disk failed
abbrev pub UnlessByDisk : AnswerFault → Type 0 → Type 0
UnlessByDisk Say P = P
UnlessByDisk Disk P = Unit {0}

abbrev pub is_say : AnswerFault → Bool
is_say Say = true
is_say Disk = false

abbrev pub is_disk : AnswerFault → Bool
is_disk Say = false
is_disk Disk = true

-- The cause: one fault of that device, and no other.
pub record FailsBy (fault : AnswerFault) (old new : KeeperView) : Type 0 where
  pub faults : FaultsAre false (is_say fault) (is_disk fault) old new

-- The last turn obeys the limit on the content. Its reply was said in part, behind what had been said; where the room for that is told,
-- the whole of it would have passed it.
pub record SaysInPart (limit store : ℕ) (was : World) (last : Turn) (new : KeeperView) : Type 0 where
  pub content : Content
  pub limited : ObeysLimit store was.state (effect_by limit was.state last.piece) last.answer was.content content
  pub part : List ℕ
  pub reply : IsPartOf part (turn limit was.state last).1
  pub passes : PassesRoom new.fixed.say_room was.said (turn limit was.state last).1
  pub shows : Shows new (record { content = content; state = (turn limit was.state last).0; said = with_suffix was.said part })
  pub settled : IsDurable new

-- The disk failed in the last turn, and nothing of its reply was said.
pub record FailsInTurn (limit : ℕ) (was : World) (last : Turn) (new : KeeperView) : Type 0 where
  pub told : new.beside.said ≡ was.said
  pub now : (left : Option Content) (said : List ℕ) → new.now left said → LeavesEither limit was last left said

-- what is left of a turn whose answer broke off for this fault
abbrev pub LeavesTurn : AnswerFault → ℕ → ℕ → World → Turn → KeeperView → Type 0
LeavesTurn Say limit store was last new = SaysInPart limit store was last new
LeavesTurn Disk limit store was last new = FailsInTurn limit was last new

-- The answer to a piece broke off for this fault.
pub record BrokeOff (limit : ℕ) (piece : Piece) (fault : AnswerFault) (was : World) (old new : KeeperView) : Type 0 where
  pub answer : Answer
  pub allowed : IsAllowed limit old.fixed.limit was.state piece answer
  pub moments : Passes old.time new.time (IsMoment limit was (turn_by piece answer ∷ []))
  pub by : LeavesTurn fault limit old.fixed.limit was (turn_by piece answer) new

-- The same, in each world that the keeper showed, with its cause and what it left alone.
pub record BreaksOff (limit : ℕ) (piece : Piece) (fault : AnswerFault) (old new : KeeperView) : Type 0 where
  pub unheard : HearsNothing old new
  pub cause : FailsBy fault old new
  pub ready : UnlessByDisk fault new.ready
  pub commits : CommitsFor piece old new
  pub looks : PieceLooks limit piece old new (fault_of_answer fault)
  pub breaks_off : (was : World) → Shows old was → BrokeOff limit piece fault was old new

-- ---- the piece whose text is given, where that isn't too long

-- what holds of each text for which this is given, the text itself or nothing, by the limit that its length is held to
abbrev pub OverTexts : Option (Bor (List ℕ)) → (ℕ → List ℕ → Type 0) → Type 0
OverTexts given holds = (limit : ℕ) (text : List ℕ) → ShowsText limit given text → holds limit text

-- what holds of each world that a keeper shows
abbrev pub OverWorlds : KeeperView → (World → Type 0) → Type 0
OverWorlds view holds = (was : World) → Shows view was → holds was

-- The statement has this reply, and nothing of it was said yet.
abbrev pub RepliesToText : Option (Bor (List ℕ)) → List ℕ → KeeperView → KeeperView → Type 0
RepliesToText given reply old new = OverTexts given (λ limit text. OverWorlds old (λ was. Replied limit (statement text) was old new reply))

-- The disk failed in the answer to the statement.
abbrev pub HaltsInText : Option (Bor (List ℕ)) → KeeperView → KeeperView → Type 0
HaltsInText given old new = OverTexts given (λ limit text. OverWorlds old (λ was. Halted limit (statement text) was old new))

-- However the statement was answered, it looked up no more than it may.
abbrev pub LooksForText : Option (Bor (List ℕ)) → KeeperView → KeeperView → Option KeepFault → Type 0
LooksForText given old new fault = OverTexts given (λ limit text. PieceLooks limit (statement text) old new fault)

-- The piece, a statement or a rest, was answered, and the reply was said.
abbrev pub AnswersText : (List ℕ → Piece) → Option (Bor (List ℕ)) → KeeperView → KeeperView → Type 0
AnswersText piece given old new = OverTexts given (λ limit text. AnswersPiece limit (piece text) old new)

-- The answer to it broke off for this fault.
abbrev pub BreaksOffText : (List ℕ → Piece) → AnswerFault → Option (Bor (List ℕ)) → KeeperView → KeeperView → Type 0
BreaksOffText piece fault given old new = OverTexts given (λ limit text. BreaksOff limit (piece text) fault old new)

-- ---- some bytes

-- Bytes were served: each statement that a newline ends in them was answered.
pub record Serves (bytes : List ℕ) (old new : KeeperView) (before after : Seen) : Type 0 where
  pub unheard : HearsNothing old new
  pub faults : NoFault old new
  pub ready : new.ready
  pub serves : (limit : ℕ) (held : List ℕ) → StandsOpen limit before held → (was : World) → Shows old was → (now : World) × Shows new now × ServedTo limit old.fixed.limit held bytes was now old new after

-- Where `held` stood open, serving `bytes` answered some pieces of them, and then the answer to the next one broke off.
-- Each moment that came between is one of these turns, and there were at most as many commits as statements among them, and at most four
-- syncs for each. The turns looked up no more than they may.
pub record Broke (limit store : ℕ) (whole : Bool) (fault : AnswerFault) (held bytes : List ℕ) (was : World) (old new : KeeperView) : Type 0 where
  pub turns : List Turn
  pub mid : World
  pub leads : Leads limit store was turns mid
  pub last : Turn
  pub allowed : IsAllowed limit store mid.state last.piece last.answer
  pub later : List Piece
  pub rest : List ℕ
  pub cut : HasPieces whole (held ++ bytes) (pieces turns ++ last.piece ∷ later) rest
  pub moments : Passes old.time new.time (IsMoment limit was (turns ++ last ∷ []))
  pub commits : CommitsWithin (turns ++ last ∷ []) old new
  pub looks : TurnsLook limit (turns ++ last ∷ []) old new (fault_of_answer fault)
  pub by : LeavesTurn fault limit store mid last new

-- Serving bytes broke off for this fault.
pub record Breaks (whole : Bool) (fault : AnswerFault) (bytes : List ℕ) (old new : KeeperView) (before : Seen) : Type 0 where
  pub unheard : HearsNothing old new
  pub cause : FailsBy fault old new
  pub ready : UnlessByDisk fault new.ready
  pub breaks : (limit : ℕ) (held : List ℕ) → StandsOpen limit before held → (was : World) → Shows old was → Broke limit old.fixed.limit whole fault held bytes was old new

-- The end of the script was served.
pub record ServesEnd (old new : KeeperView) (before : Seen) : Type 0 where
  pub unheard : HearsNothing old new
  pub faults : NoFault old new
  pub ready : new.ready
  pub serves : (limit : ℕ) (held : List ℕ) → StandsOpen limit before held → (was : World) → Shows old was → (now : World) × Shows new now × Served limit old.fixed.limit true held [] was now old new

-- computed examples: nothing is asked where the disk failed, and a fault of saying isn't one of the disk
nothing_by_disk : UnlessByDisk Disk ⊥
nothing_by_disk = tt

saying_alone : is_say Say ∷ is_disk Say ∷ is_say Disk ∷ is_disk Disk ∷ [] ≡ true ∷ false ∷ false ∷ true ∷ []
saying_alone = refl

-- a call that heard nothing answered that the script ends, and one that failed did not
nothing_heard : tells_end {E = ℕ} (Ok 0) ∷ tells_end {E = ℕ} (Ok 7) ∷ tells_end {E = ℕ} (Err 1) ∷ [] ≡ true ∷ false ∷ false ∷ []
nothing_heard = refl
