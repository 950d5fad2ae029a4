-- The response to a statement, from what reading and executing it gave.
use Rattle.std.proofs.Common.{◌≡◌, ◌≤◌, ◌<◌, ℕ, List, [], Bool, true, false, leb, Option, Some, Result, Ok, Err, Bor, length, refl, sym, ap, ◌∙◌, subst, arith}
use Rattle.std.specs.Result.{IfOk, OnErr}
use Rattle.std.specs.Str.{chars}
use Rattle.ct_keep.specs.Content.{Content}
use Rattle.ct_keep.specs.declared.keepers.KeepFault.{KeepFault}
use Rattle.ct_keep.specs.declared.keepers.KeepFault.TheVariants.{Disk}
use Rattle.ct_keep.specs.KeeperViews.{KeeperView, IsDurable}
use Rattle.st_cut.specs.Seen.{ShowsText}
use Rattle.st_parse.specs.Grammar.{Read, Blank, NoStatement, Found, ParseGives, read}
use Rattle.st_parse.specs.declared.statements.Statement.{Statement}
use Rattle.st_parse.specs.declared.parsing.StatementFault.{StatementFault}
use Rattle.st_parse.specs.declared.parsing.StatementFault.TheVariants.{Syntax, Memory}
use Rattle.db_cond.specs.Faults.{NotUnderstood, StatementTooLong, out_of_memory, not_understood, statement_too_long}
use Rattle.db_state.specs.States.{StoreState, StandsForState}
use Rattle.db_state.specs.Effects.{Effect, OnlyLooks, Refused, state_by, reply_by, is_done}
use Rattle.db_state.specs.Room.{room}
use Rattle.db_engine.specs.Steps.{effect, may_fill, effect_of, is_utf8_text, read_bytes, statement_step, rest_of, rest_step}
use Rattle.db_engine.specs.Runs.{Answer, Step, NoMemory, Full, statement, rest_piece, answered, can_fill, IsAllowed}
use Rattle.db_state.specs.Plans.{Moves, HasNoPlace}
use Rattle.db_engine.specs.Executing.{fault_for, ExecutesStatement, IsAnswered, IsReplyBy}
use Rattle.db_engine.specs.declared.replies.Reply.{Reply}
use Rattle.db_engine.specs.declared.replies.Reply.TheVariants.{Text as TextReply, Full as FullReply, NoMemory as NoMemoryReply}
use Rattle.db_console.specs.Worlds.{World}
use Rattle.db_engine.specs.declared.replies.Stop.{Stop}
use Rattle.db_engine.specs.declared.replies.Stop.TheVariants.{Disk as DiskStop}
use Rattle.db_console.specs.declared.responses.Response.{Response}
use Rattle.db_console.specs.declared.responses.Response.TheVariants.{Nothing}
use Rattle.db_console.specs.Responses.{HasReply, RespondsToRead, response_bytes, response_to, response_to_unread}
use Rattle.db_console.specs.Looking.{ReadLooks}
use Rattle.db_console.specs.Views.{Shows, Replied, Halted, RepliesToText, HaltsInText, LooksForText}
use Rattle.db_console.proofs.LookLaws.{looks_text}
use Rattle.db_console.proofs.Answering.{moves_not, moves_short, replied_by, halted_by}

-- ---- what was read

-- its step, which keeps the state, with nothing to do
reply_still : (m : StoreState) (r : Read) (c : Content) (k : KeeperView) (reply : List ℕ) → k.ready → IsDurable k → k.content ≡ Some c → StandsForState c m → OnlyLooks m (effect_of m r) → reply ≡ reply_by (effect_of m r)
    → HasReply m r c k k reply
reply_still m r c k reply ready settled holds stands looks is = record {
  answer = Step;
  moves = moves_not m (effect_of m r) c k ready settled holds stands looks;
  is = is;
  place = λ e. cc;
  can = λ e. cc;
}

reply_blank : (m : StoreState) (r : Read) (c : Content) (k : KeeperView) → k.ready → IsDurable k → k.content ≡ Some c → StandsForState c m → r ≡ Blank → HasReply m r c k k []
reply_blank m r c k ready settled holds stands e = reply_still m r c k [] ready settled holds stands (rw e refl) (rw e refl)

reply_no_statement : (m : StoreState) (r : Read) (c : Content) (k : KeeperView) → k.ready → IsDurable k → k.content ≡ Some c → StandsForState c m → r ≡ NoStatement → HasReply m r c k k not_understood
reply_no_statement m r c k ready settled holds stands e = reply_still m r c k not_understood ready settled holds stands (rw e tt) (rw e refl)

-- for want of memory
reply_short : (m : StoreState) (r : Read) (c : Content) (k : KeeperView) → k.ready → IsDurable k → k.content ≡ Some c → HasReply m r c k k out_of_memory
reply_short m r c k ready settled holds = record { answer = NoMemory; moves = moves_short m (effect_of m r) c k ready settled holds; is = refl; place = λ e. cc; can = λ e. cc }

-- what executing answered, as what is said to it
reply_executed : (m : StoreState) (s : Statement) (c : Content) (old new : KeeperView) (reply : Reply) → IsAnswered m (effect m s) (may_fill s) c old new reply → HasReply m (Found s) c old new (response_bytes (response_to reply))
reply_executed m s c old new reply a = record { answer = a.answer; moves = a.moves; is = said a.answer reply a.says; place = a.place; can = a.may_fill }
  where
    said : (answer : Answer) (reply : Reply) → IsReplyBy answer (effect m s) reply → response_bytes (response_to reply) ≡ (answered answer m (effect m s)).1
    said Step (TextReply lines) is = is
    said Step FullReply is = absurd is
    said Step NoMemoryReply is = absurd is
    said NoMemory (TextReply lines) is = absurd is
    said NoMemory FullReply is = absurd is
    said NoMemory NoMemoryReply is = refl
    said Full (TextReply lines) is = absurd is
    said Full FullReply is = refl
    said Full NoMemoryReply is = absurd is

pub responds_reply : (s : Statement) (old new : KeeperView) (reply : Reply) (response : Response) → response ≡ response_to reply → ExecutesStatement s old new (Ok reply) → RespondsToRead (Found s) old new (Ok response)
responds_reply s old new reply response is executes = λ m c holds stands.
    subst (λ (r : Response). HasReply m (Found s) c old new (response_bytes r)) (sym is) (reply_executed m s c old new reply (executes m c holds stands))

pub responds_stop : (s : Statement) (old new : KeeperView) (stop : Stop) → ExecutesStatement s old new (Err stop) → RespondsToRead (Found s) old new (Err stop)
responds_stop s old new DiskStop executes = executes

-- what was read is the statement that was executed
pub responds_found : (r : Read) (found : Option Statement) (s : Statement) (old new : KeeperView) (result : Result Response Stop) → found ≡ Some s → ParseGives (Ok found) r → RespondsToRead (Found s) old new result → RespondsToRead r old new result
responds_found r found s old new result is gives responds =
    let read : r ≡ Found s = subst (λ (o : Option Statement). ParseGives (Ok o) r) is gives in
    subst (λ (x : Read). RespondsToRead x old new result) (sym read) responds

-- nothing was executed
pub responds_blank : (r : Read) (k : KeeperView) → k.ready → IsDurable k → r ≡ Blank → RespondsToRead r k k (Ok Nothing)
responds_blank r k ready settled is = λ m c holds stands. reply_blank m r c k ready settled holds stands is

pub responds_unread : (r : Read) (k : KeeperView) (fault : StatementFault) (response : Response) → response ≡ response_to_unread fault → k.ready → IsDurable k → ParseGives (Err fault) r → RespondsToRead r k k (Ok response)
responds_unread r k Syntax response is ready settled gives = λ m c holds stands.
    subst (λ (x : Response). HasReply m r c k k (response_bytes x)) (sym is) (reply_no_statement m r c k ready settled holds stands gives)
responds_unread r k Memory response is ready settled gives = λ m c holds stands.
    subst (λ (x : Response). HasReply m r c k k (response_bytes x)) (sym is) (reply_short m r c k ready settled holds)

-- ---- the step of a statement

within_limit : (n limit : ℕ) → n ≤ limit → leb n limit ≡ true
within_limit n limit h = grind arith

past_limit : (n limit : ℕ) → limit < n → leb n limit ≡ false
past_limit n limit h = grind arith

step_within : (limit : ℕ) (m : StoreState) (bytes : List ℕ) → length bytes ≤ limit → statement_step limit m bytes ≡ effect_of m (read_bytes bytes)
step_within limit m bytes short = rw (within_limit (length bytes) limit short) refl

read_text : (bytes : List ℕ) → is_utf8_text bytes ≡ true → read_bytes bytes ≡ read (chars bytes)
read_text bytes text = rw text refl

read_no_text : (bytes : List ℕ) → is_utf8_text bytes ≡ false → read_bytes bytes ≡ NoStatement
read_no_text bytes text = rw text refl

step_past : (limit : ℕ) (m : StoreState) (bytes : List ℕ) → limit < length bytes → statement_step limit m bytes ≡ Refused StatementTooLong
step_past limit m bytes long = rw (past_limit (length bytes) limit long) refl

step_no_text : (limit : ℕ) (m : StoreState) (bytes : List ℕ) → length bytes ≤ limit → is_utf8_text bytes ≡ false → statement_step limit m bytes ≡ Refused NotUnderstood
step_no_text limit m bytes short text = step_within limit m bytes short ∙ ap (effect_of m) (read_no_text bytes text)

step_text : (limit : ℕ) (m : StoreState) (bytes : List ℕ) → length bytes ≤ limit → is_utf8_text bytes ≡ true → statement_step limit m bytes ≡ effect_of m (read (chars bytes))
step_text limit m bytes short text = step_within limit m bytes short ∙ ap (effect_of m) (read_text bytes text)

-- ---- the response to a statement

module _ (limit : ℕ) (ended : List ℕ) (was : World) (old : KeeperView) (shows : Shows old was) where
  -- it is refused
  replied_refused : (f : Effect) (bytes : List ℕ) → old.ready → IsDurable old → statement_step limit was.state ended ≡ f → OnlyLooks was.state f → bytes ≡ reply_by f → Replied limit (statement ended) was old old bytes
  replied_refused f bytes ready settled e looks is =
      replied_by limit (statement ended) was old old shows Step bytes
      (moves_not was.state (statement_step limit was.state ended) was.content old ready settled shows.holds shows.stands (subst (OnlyLooks was.state) (sym e) looks))
      tt (is ∙ ap reply_by (sym e))

  pub replied_past : old.ready → IsDurable old → limit < length ended → Replied limit (statement ended) was old old statement_too_long
  replied_past ready settled long = replied_refused (Refused StatementTooLong) statement_too_long ready settled (step_past limit was.state ended long) tt refl

  pub replied_no_text : old.ready → IsDurable old → length ended ≤ limit → is_utf8_text ended ≡ false → Replied limit (statement ended) was old old not_understood
  replied_no_text ready settled short text = replied_refused (Refused NotUnderstood) not_understood ready settled (step_no_text limit was.state ended short text) tt refl

  module _ (new : KeeperView) (short : length ended ≤ limit) (text : is_utf8_text ended ≡ true) where
    same_step : effect_of was.state (read (chars ended)) ≡ statement_step limit was.state ended
    same_step = sym (step_text limit was.state ended short text)

    allowed_by : (a : Answer) → (a ≡ Full → HasNoPlace was.state (effect_of was.state (read (chars ended))) old.fixed.limit) → (a ≡ Full → can_fill (read (chars ended)) ≡ true) → IsAllowed limit old.fixed.limit was.state (statement ended) a
    allowed_by Step place can = tt
    allowed_by NoMemory place can = (refl, short, text)
    allowed_by Full place can = (
      refl,
      ap is_done (sym same_step) ∙ (place refl).done,
      ap can_fill (read_text ended text) ∙ can refl,
      subst (λ (f : Effect). old.fixed.limit < room (state_by was.state f)) same_step (place refl).over,
    )

    pub replied_text : (bytes : List ℕ) → HasReply was.state (read (chars ended)) was.content old new bytes → Replied limit (statement ended) was old new bytes
    replied_text bytes h =
        replied_by limit (statement ended) was old new shows h.answer bytes
        (subst (λ (f : Effect). Moves was.state f was.content old new (fault_for h.answer)) same_step h.moves)
        (allowed_by h.answer h.place h.can)
        (h.is ∙ ap (λ (f : Effect). (answered h.answer was.state f).1) same_step)

    pub halted_text : Moves was.state (effect_of was.state (read (chars ended))) was.content old new (Some Disk) → Halted limit (statement ended) was old new
    halted_text moves = halted_by limit (statement ended) was old new shows (subst (λ (f : Effect). Moves was.state f was.content old new (Some Disk)) same_step moves)

-- what is given is these bytes, which are this text
module _ (given : Option (Bor (List ℕ))) (bytes : Bor (List ℕ)) (is : given ≡ Some bytes) where
  shown_as : (limit : ℕ) (ended : List ℕ) → ShowsText limit given ended → (bytes.now ≡ ended) × (length ended ≤ limit)
  shown_as limit ended shown = rw is at shown

  pub no_text_given : (old : KeeperView) → old.ready → IsDurable old → is_utf8_text bytes.now ≡ false → RepliesToText given not_understood old old
  no_text_given old ready settled text limit ended shown was w =
      let p : (bytes.now ≡ ended) × (length ended ≤ limit) = shown_as limit ended shown in
      replied_no_text limit ended was old w ready settled p.1 (subst (λ (xs : List ℕ). is_utf8_text xs ≡ false) p.0 text)

  module _ (text : List ℕ) (found : (is_utf8_text bytes.now ≡ true) × (text ≡ bytes.now)) (old new : KeeperView) where
    abbrev All : Result Response Stop → Type 0
    All result = RespondsToRead (read (chars text)) old new result

    of_ended : (ended : List ℕ) → bytes.now ≡ ended → is_utf8_text ended ≡ true
    of_ended ended e = subst (λ (xs : List ℕ). is_utf8_text xs ≡ true) e found.0

    same_text : (ended : List ℕ) → bytes.now ≡ ended → text ≡ ended
    same_text ended e = found.1 ∙ e

    pub looks_given : (fault : Option KeepFault) → ReadLooks (read (chars text)) old new fault → LooksForText given old new fault
    looks_given fault looks = λ limit ended shown.
        let p : (bytes.now ≡ ended) × (length ended ≤ limit) = shown_as limit ended shown in
        looks_text limit ended text old new fault p.1 (of_ended ended p.0) (same_text ended p.0) looks

    pub replied_given : (result : Result Response Stop) → All result → IfOk result (λ response. RepliesToText given (response_bytes response) old new)
    replied_given (Err e) all = tt
    replied_given (Ok response) all = λ limit ended shown was w.
        let p : (bytes.now ≡ ended) × (length ended ≤ limit) = shown_as limit ended shown in
        replied_text limit ended was old w new p.1 (of_ended ended p.0) (response_bytes response)
        (subst (λ (xs : List ℕ). HasReply was.state (read (chars xs)) was.content old new (response_bytes response)) (same_text ended p.0) (all was.state was.content w.holds w.stands))

    pub halted_given : (result : Result Response Stop) → All result → OnErr result (HaltsInText given old new)
    halted_given (Ok response) all = tt
    halted_given (Err DiskStop) all = λ limit ended shown was w.
        let p : (bytes.now ≡ ended) × (length ended ≤ limit) = shown_as limit ended shown in
        halted_text limit ended was old w new p.1 (of_ended ended p.0)
        (subst (λ (xs : List ℕ). Moves was.state (effect_of was.state (read (chars xs))) was.content old new (Some Disk)) (same_text ended p.0) (all was.state was.content w.holds w.stands))

-- ---- the response to a rest

rest_read_looks : (m : StoreState) (r : Read) → OnlyLooks m (rest_of m r)
rest_read_looks m Blank = refl
rest_read_looks m NoStatement = tt
rest_read_looks m (Found s) = tt

-- it changes nothing
rest_looks : (limit : ℕ) (m : StoreState) (bytes : List ℕ) → OnlyLooks m (rest_step limit m bytes)
rest_looks limit m bytes = by_test (leb (length bytes) limit) refl
  where
    by_test : (b : Bool) → leb (length bytes) limit ≡ b → OnlyLooks m (rest_step limit m bytes)
    by_test true e = rw e (rest_read_looks m (read_bytes bytes))
    by_test false e = rw e tt

pub replied_rest : (limit : ℕ) (rest bytes : List ℕ) (was : World) (k : KeeperView) → k.ready → IsDurable k → bytes ≡ reply_by (rest_step limit was.state rest) → Shows k was → Replied limit (rest_piece rest) was k k bytes
replied_rest limit rest bytes was k ready settled is shows =
    replied_by limit (rest_piece rest) was k k shows Step bytes
    (moves_not was.state (rest_step limit was.state rest) was.content k ready settled shows.holds shows.stands (rest_looks limit was.state rest))
    tt is
