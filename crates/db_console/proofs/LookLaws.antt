-- What the pieces of a script look up, one after the other.
use Rattle.std.proofs.Common.{◌≡◌, ◌≤◌, ◌++◌, ◌∷◌, [], ℕ, List, true, Option, Some, None, Ok, Err, length, refl, sym, ap, subst, ◌∙◌}
use Rattle.std.specs.Str.{chars}
use Rattle.std.proofs.lemmas.Bool.{le-leb}
use Rattle.ct_keep.specs.Content.{Content}
use Rattle.ct_keep.specs.declared.keepers.KeepFault.{KeepFault}
use Rattle.ct_keep.specs.declared.keepers.KeepFault.TheVariants as keep_fault
use Rattle.ct_keep.specs.KeeperViews.{KeeperView}
use Rattle.st_parse.specs.Grammar.{Read, Found, ParseGives, read}
use Rattle.st_parse.specs.declared.statements.Statement.{Statement}
use Rattle.db_looks.specs.Allowances.{together}
use Rattle.db_looks.specs.laws.Composing.{nothing_more, more_nothing, of_three, over_still, over_then, over_as}
use Rattle.db_state.specs.States.{StoreState, StandsForState}
use Rattle.db_engine.specs.Steps.{is_utf8_text}
use Rattle.db_engine.specs.Runs.{Piece, statement, rest_piece, Step, Turn, turn_by}
use Rattle.db_engine.specs.Executing.{fault_of_stop}
use Rattle.db_engine.specs.Looking.{LooksAsAllowed}
use Rattle.db_engine.specs.declared.replies.Reply.{Reply}
use Rattle.db_engine.specs.declared.replies.Stop.{Stop}
use Rattle.db_engine.specs.declared.replies.Stop.TheVariants.{Disk as DiskStop}
use Rattle.db_console.specs.declared.responses.Response.{Response}
use Rattle.db_console.specs.Looking.{read_allowance, piece_allowance, turns_allowance, ReadLooks, PieceLooks, TurnsLook}

-- ---- turns

turns_allowance-append : (limit : ℕ) (c : Content) (m : StoreState) (ts us : List Turn) → turns_allowance limit c m (ts ++ us) ≡ together (turns_allowance limit c m ts) (turns_allowance limit c m us)
turns_allowance-append limit c m [] us = sym (nothing_more (turns_allowance limit c m us))
turns_allowance-append limit c m (t ∷ ts) us =
    ap (together (piece_allowance limit c m t.piece)) (turns_allowance-append limit c m ts us)
    ∙ sym (of_three (piece_allowance limit c m t.piece) (turns_allowance limit c m ts) (turns_allowance limit c m us))

pub looks_none : (limit : ℕ) (k : KeeperView) → TurnsLook limit [] k k None
looks_none limit k = over_still StandsForState _ k

-- those of some turns, and then of others
pub looks_then : (limit : ℕ) (ts us : List Turn) (a b c : KeeperView) (fault : Option KeepFault) → TurnsLook limit ts a b None → TurnsLook limit us b c fault → TurnsLook limit (ts ++ us) a c fault
looks_then limit ts us a b c fault first second =
    over_then StandsForState (λ x m. turns_allowance limit x m ts) (λ x m. turns_allowance limit x m us) _ a b c fault (λ x m. turns_allowance-append limit x m ts us) first second

-- those of one piece
pub looks_turn : (limit : ℕ) (t : Turn) (old new : KeeperView) (fault : Option KeepFault) → PieceLooks limit t.piece old new fault → TurnsLook limit (t ∷ []) old new fault
looks_turn limit t old new fault looks = over_as StandsForState (λ c m. piece_allowance limit c m t.piece) _ old new fault (λ c m. more_nothing (piece_allowance limit c m t.piece)) looks

-- and of an empty rest behind them
pub looks_last : (limit : ℕ) (t : Turn) (old new : KeeperView) → PieceLooks limit t.piece old new None → TurnsLook limit (t ∷ turn_by (rest_piece []) Step ∷ []) old new None
looks_last limit t old new looks = looks_then limit (t ∷ []) (turn_by (rest_piece []) Step ∷ []) old new new None (looks_turn limit t old new None looks) (over_still StandsForState _ new)

-- ---- one piece

-- a statement that is a text and isn't too long is what is read of it
piece_reads : (limit : ℕ) (bytes : List ℕ) (c : Content) (m : StoreState) → length bytes ≤ limit → is_utf8_text bytes ≡ true → piece_allowance limit c m (statement bytes) ≡ read_allowance c m (read (chars bytes))
piece_reads limit bytes c m short text = rw (le-leb (length bytes) limit short, text) refl

pub looks_text : (limit : ℕ) (bytes text : List ℕ) (old new : KeeperView) (fault : Option KeepFault) → length bytes ≤ limit → is_utf8_text bytes ≡ true → text ≡ bytes → ReadLooks (read (chars text)) old new fault → PieceLooks limit (statement bytes) old new fault
looks_text limit bytes text old new fault short is_text same looks =
    over_as StandsForState (λ c m. read_allowance c m (read (chars bytes))) _ old new fault (λ c m. piece_reads limit bytes c m short is_text) (subst (λ (xs : List ℕ). ReadLooks (read (chars xs)) old new fault) same looks)

-- ---- what was read

-- it is the statement that was executed
pub looks_found : (r : Read) (found : Option Statement) (s : Statement) (old new : KeeperView) (fault : Option KeepFault) → found ≡ Some s → ParseGives (Ok found) r → ReadLooks (Found s) old new fault → ReadLooks r old new fault
looks_found r found s old new fault is gives looks =
    let read : r ≡ Found s = subst (λ (o : Option Statement). ParseGives (Ok o) r) is gives in
    subst (λ (x : Read). ReadLooks x old new fault) (sym read) looks

-- what stops `execute` is the disk
pub looks_stop : (s : Statement) (old new : KeeperView) (stop : Stop) → LooksAsAllowed s old new (fault_of_stop {T = Reply} (Err stop)) → ReadLooks (Found s) old new (fault_of_stop {T = Response} (Err stop))
looks_stop s old new DiskStop looks = looks

pub looks_failed : (limit : ℕ) (piece : Piece) (stop : Stop) (old new : KeeperView) → PieceLooks limit piece old new (fault_of_stop {T = Response} (Err stop)) → PieceLooks limit piece old new (Some keep_fault.Disk)
looks_failed limit piece DiskStop old new looks = looks
