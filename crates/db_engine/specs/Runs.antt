-- A run: how the pieces of a script were answered, the state that they lead to, and all that was said.
use Rattle.std.specs.Prelude.{ℕ, ◌≡◌, ◌≤◌, ◌<◌, Bool, true, false, List, [], ◌∷◌, ◌++◌, map, length, refl, codes}
use Rattle.std.specs.Bool.{if◌then◌else◌}
use Rattle.std.specs.FinMap.{empty}
use Rattle.std.proofs.Common.{ap, sym, ◌∙◌, subst, inl, inr, ⊎_elim, arith, append_assoc}
use Rattle.db_cond.specs.Faults.{out_of_memory, store_full}
use Rattle.st_parse.specs.Grammar.{Read, NoStatement, Found}
use Rattle.st_parse.specs.Grammar.{Blank}
use Rattle.ct_keep.specs.Content.{Content, weight}
use Rattle.ct_keep.specs.KeeperViews.{KeepsLimit, PassesLimit}
use Rattle.ct_entry.specs.Keys.{at}
use Rattle.db_state.specs.States.{StoreState, StandsForState, empty_state}
use Rattle.db_state.specs.laws.Empty.{empty_stands}
use Rattle.db_state.specs.Effects.{Effect, state_by, reply_by, is_done}
use Rattle.db_state.specs.Entries.{Makes}
use Rattle.db_state.specs.laws.SamePostings.{same_here}
use Rattle.db_state.specs.Room.{room}
use Rattle.db_engine.specs.Steps.{statement_step, rest_step, is_utf8_text, read_bytes, may_fill}
use Rattle.std.specs.Str.{chars, is_utf8}
use lib.Utf8.{encode}
use Rattle.std.proofs.lemmas.Bool.{false≢true}

-- a statement, or what stands behind the last one
pub record Piece : Type 0 where
  pub text : List ℕ
  pub is_ended : Bool

abbrev pub statement : List ℕ → Piece
statement text = record { text = text; is_ended = true }

abbrev pub rest_piece : List ℕ → Piece
rest_piece text = record { text = text; is_ended = false }

-- how a piece was answered: by its step, for want of memory, or that the store is full
pub data Answer : Type 0 where
  Step : Answer
  NoMemory : Answer
  Full : Answer

-- a piece with its answer
pub record Turn : Type 0 where
  pub piece : Piece
  pub answer : Answer

abbrev pub turn_by : Piece → Answer → Turn
turn_by piece answer = record { piece = piece; answer = answer }

abbrev pub pieces : List Turn → List Piece
pieces turns = map (λ (t : Turn). t.piece) turns

-- what a piece does by itself; a statement may have `limit` bytes
abbrev pub effect_by : ℕ → StoreState → Piece → Effect
effect_by limit m piece = if piece.is_ended then statement_step limit m piece.text else rest_step limit m piece.text

-- the state after an answer, and what is said with it
abbrev pub answered : Answer → StoreState → Effect → StoreState × List ℕ
answered Step m effect = (state_by m effect, reply_by effect)
answered NoMemory m effect = (m, out_of_memory)
answered Full m effect = (m, store_full)

-- the state after a turn, and what is said in it
abbrev pub turn : ℕ → StoreState → Turn → StoreState × List ℕ
turn limit m t = answered t.answer m (effect_by limit m t.piece)

-- the state after the turns
abbrev pub state_after : ℕ → StoreState → List Turn → StoreState
state_after limit m [] = m
state_after limit m (t ∷ ts) = state_after limit (turn limit m t).0 ts

-- all that is said in the turns
abbrev pub transcript : ℕ → StoreState → List Turn → List ℕ
transcript limit m [] = []
transcript limit m (t ∷ ts) = (turn limit m t).1 ++ transcript limit (turn limit m t).0 ts

-- These turns lead from the old state to the new one, and this is said in them.
pub record Ran (limit : ℕ) (old : StoreState) (turns : List Turn) (new : StoreState) (said : List ℕ) : Type 0 where
  pub state : new ≡ state_after limit old turns
  pub says : said ≡ transcript limit old turns

-- ---- which answers are allowed

-- what is read is a statement that may fill the store
abbrev pub can_fill : Read → Bool
can_fill Blank = false
can_fill NoStatement = false
can_fill (Found s) = may_fill s

-- For want of memory no other piece is answered than a statement that is a text and isn't too long; and that the store is full
-- only a statement that isn't refused and may fill the store, whose state would take more room than the store has.
abbrev pub IsAllowed : ℕ → ℕ → StoreState → Piece → Answer → Type 0
IsAllowed limit store m piece Step = Unit {0}
IsAllowed limit store m piece NoMemory = (piece.is_ended ≡ true) × (length piece.text ≤ limit) × (is_utf8_text piece.text ≡ true)
IsAllowed limit store m piece Full =
    (piece.is_ended ≡ true) × (is_done (statement_step limit m piece.text) ≡ true) × (can_fill (read_bytes piece.text) ≡ true) × (store < room (state_by m (statement_step limit m piece.text)))

-- each answer is, in its turn
abbrev pub AllAllowed : ℕ → ℕ → StoreState → List Turn → Type 0
AllAllowed limit store m [] = Unit {0}
AllAllowed limit store m (t ∷ ts) = IsAllowed limit store m t.piece t.answer × AllAllowed limit store (turn limit m t).0 ts

-- ---- how the limit binds

-- In the state m this effect would lead from the content c to one that there is no room to go to.
pub record WouldPassLimit (store : ℕ) (m : StoreState) (effect : Effect) (c : Content) : Type 0 where
  pub next : Content
  pub stands : StandsForState next (state_by m effect)
  pub makes : Makes effect c next
  pub passes : PassesLimit store c next

-- A piece with this effect in the state m was answered so over the content c, which then was `next`, and the limit bound: by its step
-- it leads to a content that is within the limit or no heavier, with the rows of postings that the effect makes, and nothing else changes the content;
-- that the store is full is answered only where its step would lead to one that is over the limit and heavier.
abbrev pub ObeysLimit : ℕ → StoreState → Effect → Answer → Content → Content → Type 0
ObeysLimit store m effect Step c next = StandsForState next (state_by m effect) × KeepsLimit store c next × Makes effect c next
ObeysLimit store m effect NoMemory c next = next ≡ c
ObeysLimit store m effect Full c next = (next ≡ c) × WouldPassLimit store m effect c

-- Each of these turns obeys the limit. They lead from the content c, which stands for the state m, to `last`.
abbrev pub AllObeyLimit : ℕ → ℕ → StoreState → List Turn → Content → Content → Type 0
AllObeyLimit limit store m [] c last = last ≡ c
AllObeyLimit limit store m (t ∷ ts) c last =
    (next : Content) × ObeysLimit store m (effect_by limit m t.piece) t.answer c next × AllObeyLimit limit store (turn limit m t).0 ts next last

-- laws: after one of them the content is within the limit, or no heavier than before it; and so it is after all of them (`RunsKeepLimit`)
pub obeys_keeps : (store : ℕ) (m : StoreState) (effect : Effect) (answer : Answer) (c next : Content) → ObeysLimit store m effect answer c next → KeepsLimit store c next
obeys_keeps store m effect Step c next obeys = obeys.1
obeys_keeps store m effect NoMemory c next same = let light = ap weight same in inr (omega (arith, light))
obeys_keeps store m effect Full c next obeys = let light = ap weight obeys.0 in inr (omega (arith, light))

keeps_then : (store : ℕ) (c mid last : Content) → KeepsLimit store c mid → KeepsLimit store mid last → KeepsLimit store c last
keeps_then store c mid last first second = ⊎_elim
    inl
    (λ lighter. ⊎_elim (λ within. inl (omega (arith, lighter, within))) (λ light. inr (omega (arith, lighter, light))) first)
    second

pub all_keep : (limit store : ℕ) (m : StoreState) (turns : List Turn) (c last : Content) → AllObeyLimit limit store m turns c last → KeepsLimit store c last
all_keep limit store m [] c last same = let light = ap weight same in inr (omega (arith, light))
all_keep limit store m (t ∷ ts) c last obey =
    keeps_then store c obey.0 last (obeys_keeps store m (effect_by limit m t.piece) t.answer c obey.0 obey.1) (all_keep limit store (turn limit m t).0 ts obey.0 last obey.2)

-- After turns that obey the limit the content is within it, or no heavier than before them.
abbrev pub RunsKeepLimit : Type 0
RunsKeepLimit = (limit store : ℕ) (m : StoreState) (turns : List Turn) (c last : Content) → AllObeyLimit limit store m turns c last → KeepsLimit store c last

-- ---- runs one after the other

pub state_after-append : (limit : ℕ) (m : StoreState) (ts us : List Turn) → state_after limit m (ts ++ us) ≡ state_after limit (state_after limit m ts) us
state_after-append limit m [] us = refl
state_after-append limit m (t ∷ ts) us = state_after-append limit (turn limit m t).0 ts us

pub transcript-append : (limit : ℕ) (m : StoreState) (ts us : List Turn) → transcript limit m (ts ++ us) ≡ transcript limit m ts ++ transcript limit (state_after limit m ts) us
transcript-append limit m [] us = refl
transcript-append limit m (t ∷ ts) us =
    ap (λ (l : List ℕ). (turn limit m t).1 ++ l) (transcript-append limit (turn limit m t).0 ts us)
    ∙ sym (append_assoc (turn limit m t).1 (transcript limit (turn limit m t).0 ts) (transcript limit (state_after limit (turn limit m t).0 ts) us))

pub allowed-append : (limit store : ℕ) (m : StoreState) (ts us : List Turn) → AllAllowed limit store m ts → AllAllowed limit store (state_after limit m ts) us → AllAllowed limit store m (ts ++ us)
allowed-append limit store m [] us first second = second
allowed-append limit store m (t ∷ ts) us first second = (first.0, allowed-append limit store (turn limit m t).0 ts us first.1 second)

pub obey-append : (limit store : ℕ) (m : StoreState) (ts us : List Turn) (c mid last : Content)
    → AllObeyLimit limit store m ts c mid → AllObeyLimit limit store (state_after limit m ts) us mid last → AllObeyLimit limit store m (ts ++ us) c last
obey-append limit store m [] us c mid last same second = subst (λ (x : Content). AllObeyLimit limit store m us x last) same second
obey-append limit store m (t ∷ ts) us c mid last first second = (first.0, first.1, obey-append limit store (turn limit m t).0 ts us first.0 mid last first.2 second)

-- computed examples

-- of two statements that are the same, the first is answered for want of memory, and the second by its step
two_turns : transcript 65536 empty_state (turn_by (statement (codes "SELEC")) NoMemory ∷ turn_by (statement (codes "SELEC")) Step ∷ [])
    ≡ codes "E90: out of memory\nE10: statement not understood\n"
unfolding chars is_utf8 encode
two_turns = refl

-- a statement that is full, a note, and a rest without its end
three_turns : transcript 65536 empty_state (turn_by (statement (codes "COMMIT")) Full ∷ turn_by (statement (codes "-- note")) Step ∷ turn_by (rest_piece (codes "COMMIT")) Step ∷ [])
    ≡ codes "E80: store full\nE10: statement not understood\n"
unfolding chars is_utf8 encode
three_turns = refl

-- an answer for want of memory leaves the state
state_stays : (m : StoreState) (text : List ℕ) → state_after 65536 m (turn_by (statement text) NoMemory ∷ []) ≡ m
state_stays m text = refl

-- a step that changes nothing obeys each limit; and one to a heavier content that is over the limit doesn't
nothing_obeys : (store : ℕ) → AllObeyLimit 65536 store empty_state (turn_by (statement (codes "COMMIT")) Step ∷ []) empty empty
unfolding chars is_utf8 encode
nothing_obeys store = (empty, (empty_stands, inr (omega arith), same_here empty_state (at empty)), refl)

too_heavy : (m : StoreState) (effect : Effect) (c next : Content) → weight c ≡ 64 → weight next ≡ 128 → ObeysLimit 100 m effect Step c next → ⊥
too_heavy m effect c next light heavy obeys = ⊎_elim (λ within. omega (arith, heavy, within)) (λ lighter. omega (arith, light, heavy, lighter)) obeys.1

-- no rest is answered so, nor that the store is full
rest_has_memory : (m : StoreState) (text : List ℕ) → IsAllowed 65536 64 m (rest_piece text) NoMemory → ⊥
rest_has_memory m text is = false≢true is.0

rest_is_never_full : (m : StoreState) (text : List ℕ) → IsAllowed 65536 64 m (rest_piece text) Full → ⊥
rest_is_never_full m text is = false≢true is.0
