-- What serving some bytes of a script does to the world, and what a crash in between leaves of it.
use Rattle.std.specs.Prelude.{ℕ, ◌≡◌, ◌≤◌, ◌<◌, ◌+◌, ◌*◌, Bool, true, false, List, [], ◌∷◌, ◌++◌, length, map, count_by, codes, Option, Some, None, refl}
use Rattle.std.specs.FinMap.{empty}
use Rattle.std.proofs.Common.{inr, arith}
use Rattle.std.specs.Str.{chars, is_utf8}
use Rattle.std.specs.Fmt.{digits}
use lib.Utf8.{encode}
use Rattle.ucd_category.proofs.Computing.{ucd_category}
use Rattle.caseless.proofs.Computing.{caseless}
use Rattle.tx_chars.specs.Keys.{key_text}
use Rattle.ct_base.specs.Told.{with_suffix, SaysPart}
use Rattle.ct_base.specs.Moments.{Passes}
use Rattle.ct_base.specs.laws.Moments.{passes_none}
use Rattle.ct_keep.specs.Content.{Content}
use Rattle.ct_keep.specs.KeeperViews.{KeeperView, AtMostOneCommit, NoCommit}
use Rattle.st_cut.specs.Cut.{Cuts}
use Rattle.st_cut.specs.Seen.{Seen, StandsOpen}
use Rattle.db_looks.specs.laws.Composing.{over_still}
use Rattle.db_state.specs.States.{StoreState, empty_state, StandsForState}
use Rattle.db_state.specs.laws.Empty.{empty_stands}
use Rattle.db_state.specs.laws.SamePostings.{same_here}
use Rattle.db_engine.specs.Runs.{Piece, statement, rest_piece, Answer, Step, Turn, turn_by, pieces, state_after, transcript, AllAllowed, AllObeyLimit, Ran}
use Rattle.db_console.specs.Looking.{TurnsLook}

-- all pieces of these statements, and of the rest where the script has ended
abbrev pub pieces_of : Bool → List (List ℕ) → List ℕ → List Piece
pieces_of false statements rest = map statement statements
pieces_of true statements rest = map statement statements ++ rest_piece rest ∷ []

-- The script, whole or as far as it has come, has these pieces, and this is what follows its last end.
pub record HasPieces (whole : Bool) (script : List ℕ) (all : List Piece) (rest : List ℕ) : Type 0 where
  pub statements : List (List ℕ)
  pub cut : Cuts whole script statements rest
  pub are : all ≡ pieces_of whole statements rest

-- What a turn changes: the content of the store, the state that it stands for, and the bytes said, where they are told.
pub record World : Type 0 where
  pub content : Content
  pub state : StoreState
  pub said : Option (List ℕ)

-- the world after these turns, which lead to this content, when all that they say was said
abbrev pub world_after : ℕ → World → List Turn → Content → World
world_after limit old turns content = record { content = content; state = state_after limit old.state turns; said = with_suffix old.said (transcript limit old.state turns) }

-- how many of these turns are of statements
abbrev pub statement_count : List Turn → ℕ
statement_count turns = count_by (λ (t : Turn). t.piece.is_ended) turns

-- At most as many commits were called as these turns answer statements, and for each of these the disk was synced four times at most;
-- a rest counts for none.
abbrev pub CommitsWithin : List Turn → KeeperView → KeeperView → Type 0
CommitsWithin turns old new = (new.counts.commits ≤ old.counts.commits + statement_count turns) × (new.disk_syncs ≤ old.disk_syncs + 4 * statement_count turns)

-- For a piece at most one commit was called; none was called where it is a rest.
pub record CommitsFor (piece : Piece) (old new : KeeperView) : Type 0 where
  pub once : AtMostOneCommit old new
  pub none : piece.is_ended ≡ false → NoCommit old new

-- What a crash leaves is a content that stands for this state.
pub record LeavesState (left : Option Content) (m : StoreState) : Type 0 where
  pub content : Content
  pub is : left ≡ Some content
  pub stands : StandsForState content m

-- A moment of these turns: a crash leaves the state after some of the first ones, and what was said by then is a prefix of what these say.
pub record IsMoment (limit : ℕ) (old : World) (turns : List Turn) (left : Option Content) (said : List ℕ) : Type 0 where
  pub done : List Turn
  pub later : List Turn
  pub split : turns ≡ done ++ later
  pub leaves : LeavesState left (state_after limit old.state done)
  pub says : SaysPart old.said (transcript limit old.state done) said

-- These turns lead from the old world to the new one, each obeys the limit on the content, and all that is said in them was said.
-- `store` is how much the content of the store may weigh.
pub record Leads (limit store : ℕ) (old : World) (turns : List Turn) (new : World) : Type 0 where
  pub said : List ℕ
  pub run : Ran limit old.state turns new.state said
  pub told : new.said ≡ with_suffix old.said said
  pub allowed : AllAllowed limit store old.state turns
  pub limited : AllObeyLimit limit store old.state turns old.content new.content

-- Where `held` stood open, serving `bytes` answered each statement that ends in them, and said each reply.
-- Where they end the script it answered the rest too. Each moment that came between is one of these turns, and there were
-- at most as many commits as statements among them, and at most four syncs for each. The turns looked up no more than they may.
pub record Served (limit store : ℕ) (whole : Bool) (held bytes : List ℕ) (old new : World) (before after : KeeperView) : Type 0 where
  pub turns : List Turn
  pub rest : List ℕ
  pub cut : HasPieces whole (held ++ bytes) (pieces turns) rest
  pub leads : Leads limit store old turns new
  pub moments : Passes before.time after.time (IsMoment limit old turns)
  pub commits : CommitsWithin turns before after
  pub looks : TurnsLook limit turns before after None

-- The same, as far as the script has come; the cutter then holds what stands open.
pub record ServedTo (limit store : ℕ) (held bytes : List ℕ) (old new : World) (before after : KeeperView) (cutter : Seen) : Type 0 where
  pub served : Served limit store false held bytes old new before after
  pub stands : StandsOpen limit cutter served.rest

-- a prefix of some bytes
pub record IsPrefixOf (prefix all : List ℕ) : Type 0 where
  pub rest : List ℕ
  pub is : all ≡ prefix ++ rest

-- a prefix of some bytes, and not all of them
pub record IsPartOf (part all : List ℕ) : Type 0 where
  pub rest : List ℕ
  pub is : all ≡ part ++ rest
  pub more : 0 < length rest

-- A piece was answered, and the reply was said.
pub record Answered (limit store : ℕ) (piece : Piece) (old new : World) (before after : KeeperView) : Type 0 where
  pub answer : Answer
  pub leads : Leads limit store old (turn_by piece answer ∷ []) new
  pub moments : Passes before.time after.time (IsMoment limit old (turn_by piece answer ∷ []))

-- computed examples: a script of one statement and a rest that is a comment
abbrev pub world : List ℕ → World
world said = record { content = empty; state = empty_state; said = Some said }

half_a_word : (k : KeeperView) → Served 65536 0 true [] (codes "SELEC;\n-- note") (world []) (world (codes "E10: statement not understood\n")) k k
unfolding chars is_utf8 encode
half_a_word k = record {
  turns = turn_by (statement (codes "SELEC")) Step ∷ turn_by (rest_piece (codes "-- note")) Step ∷ [];
  rest = codes "-- note";
  cut = record { statements = codes "SELEC" ∷ []; cut = (_, refl, (refl, refl)); are = refl };
  leads = record {
    said = codes "E10: statement not understood\n";
    run = record { state = refl; says = refl };
    told = refl;
    allowed = (tt, (tt, tt));
    limited = (empty, (empty_stands, inr (omega arith), refl), (empty, (empty_stands, inr (omega arith), same_here empty_state _), refl));
  };
  moments = passes_none k.time _;
  commits = (omega arith, omega arith);
  looks = over_still StandsForState _ k;
}

-- a statement that a newline ends, while the next one stands open
some_text : (k : KeeperView) → Served 65536 0 false (codes "EXEC CTX_DOC") (codes ".POLICY_TOKENS('some text'); \nSELEC;") (world (codes "x")) (world (codes "xsome|0|4\ntext|5|4\n")) k k
unfolding encode digits chars is_utf8 caseless ucd_category key_text
some_text k = record {
  turns = turn_by (statement (codes "EXEC CTX_DOC.POLICY_TOKENS('some text')")) Step ∷ [];
  rest = codes "SELEC;";
  cut = record { statements = codes "EXEC CTX_DOC.POLICY_TOKENS('some text')" ∷ []; cut = (_, refl, (refl, refl)); are = refl };
  leads = record { said = codes "some|0|4\ntext|5|4\n"; run = record { state = refl; says = refl }; told = refl; allowed = (tt, tt); limited = (empty, (empty_stands, inr (omega arith), same_here empty_state _), refl) };
  moments = passes_none k.time _;
  commits = (omega arith, omega arith);
  looks = over_still StandsForState _ k;
}

-- the rest of a script isn't a statement, so two turns may have called one commit
one_of_two : statement_count (turn_by (statement (codes "SELEC")) Step ∷ turn_by (rest_piece (codes "-- note")) Step ∷ []) ≡ 1
one_of_two = refl
