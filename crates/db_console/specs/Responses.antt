-- What is said to a text that isn't too long.
use Rattle.std.specs.Prelude.{ℕ, ◌≡◌, true, false, List, [], Option, Some, Result, Ok, Err, codes, refl}
use Rattle.std.specs.Option.{MatchOption}
use denote.Ref.{Bor}
use Rattle.ct_keep.specs.Content.{Content}
use Rattle.ct_keep.specs.declared.keepers.KeepFault.TheVariants.{Disk}
use Rattle.ct_keep.specs.KeeperViews.{KeeperView}
use Rattle.st_parse.specs.Grammar.{Read}
use Rattle.st_parse.specs.declared.parsing.StatementFault.{StatementFault}
use Rattle.st_parse.specs.declared.parsing.StatementFault.TheVariants.{Syntax, Memory}
use Rattle.db_cond.specs.Faults.{not_understood, statement_too_long, store_full, out_of_memory}
use Rattle.db_state.specs.States.{StoreState, StandsForState}
use Rattle.db_engine.specs.Steps.{effect_of, is_utf8_text}
use Rattle.db_engine.specs.Runs.{Answer, Full, answered, can_fill}
use Rattle.db_state.specs.Plans.{Moves, HasNoPlace}
use Rattle.db_engine.specs.Executing.{fault_for}
use Rattle.db_engine.specs.declared.replies.Reply.{Reply}
use Rattle.db_engine.specs.declared.replies.Reply.TheVariants.{Text, Full as FullReply, NoMemory as NoMemoryReply}
use Rattle.db_engine.specs.declared.replies.Stop.{Stop}
use Rattle.db_engine.specs.declared.replies.Stop.TheVariants.{Disk as DiskStop}
use Rattle.db_console.specs.declared.responses.Response.{Response}
use Rattle.db_console.specs.declared.responses.Response.TheVariants.{Nothing, Lines, NotUnderstood, TooLong, Full as StoreFull, NoMemory}

abbrev pub response_bytes : Response → List ℕ
response_bytes Nothing = []
response_bytes (Lines lines) = lines
response_bytes NotUnderstood = not_understood
response_bytes TooLong = statement_too_long
response_bytes StoreFull = store_full
response_bytes NoMemory = out_of_memory

-- what is said to what executing a statement answered
abbrev pub response_to : Reply → Response
response_to (Text lines) = Lines lines
response_to FullReply = StoreFull
response_to NoMemoryReply = NoMemory

-- what is said to a text that isn't read as a statement
abbrev pub response_to_unread : StatementFault → Response
response_to_unread Syntax = NotUnderstood
response_to_unread Memory = NoMemory

-- the bytes as a text, or nothing where they are none
abbrev pub IsTextOf : Option (Bor (List ℕ)) → List ℕ → Type 0
IsTextOf found bytes = MatchOption found (is_utf8_text bytes ≡ false) (λ text. (is_utf8_text bytes ≡ true) × (text.now ≡ bytes))

-- What was read has this reply.
pub record HasReply (m : StoreState) (r : Read) (c : Content) (old new : KeeperView) (reply : List ℕ) : Type 0 where
  pub answer : Answer
  pub moves : Moves m (effect_of m r) c old new (fault_for answer)
  pub is : reply ≡ (answered answer m (effect_of m r)).1
  pub place : answer ≡ Full → HasNoPlace m (effect_of m r) old.fixed.limit
  pub can : answer ≡ Full → can_fill r ≡ true

-- the same, or the disk failed
abbrev pub Responds : StoreState → Read → Content → KeeperView → KeeperView → Result Response Stop → Type 0
Responds m r c old new (Ok response) = HasReply m r c old new (response_bytes response)
Responds m r c old new (Err DiskStop) = Moves m (effect_of m r) c old new (Some Disk)

-- The response to what was read, over each state that the content stands for.
abbrev pub RespondsToRead : Read → KeeperView → KeeperView → Result Response Stop → Type 0
RespondsToRead r old new result = (m : StoreState) (c : Content) → old.content ≡ Some c → StandsForState c m → Responds m r c old new result

-- computed examples: what is said where the store is full, to nothing, and to a text that is no statement
full_line : response_bytes StoreFull ≡ codes "E80: store full\n"
full_line = refl

nothing_line : response_bytes Nothing ≡ []
nothing_line = refl

no_statement_line : response_bytes (response_to_unread Syntax) ≡ codes "E10: statement not understood\n"
no_statement_line = refl
