-- Optimising changes no later reply.
use Rattle.std.specs.Prelude.{ℕ, ◌≡◌, Bool, true, false, not, ◌&&◌, List, [], ◌∷◌, ◌++◌, filter, codes, refl}
use Rattle.std.specs.Bool.{if◌then◌else◌}
use Rattle.std.specs.Str.{chars, is_utf8}
use lib.Utf8.{encode}
use Rattle.st_parse.specs.declared.procedures.Procedure.{Procedure}
use Rattle.st_parse.specs.declared.procedures.Procedure.TheVariants.{PolicyTokens, SyncIndex, OptimizeIndex, ResultSet, Define, Thesaurus}
use Rattle.st_parse.specs.declared.statements.Statement.{Statement}
use Rattle.st_parse.specs.declared.statements.Statement.TheVariants.{CreateTable, DropTable, DropIndex, CreateIndex, Insert, Update, Delete, Select, Exec, Commit}
use Rattle.st_parse.specs.Grammar.{Read, Blank, NoStatement, Found}
use Rattle.db_state.specs.States.{StoreState, empty_state}
use Rattle.db_state.specs.Effects.{state_by}
use Rattle.db_state.specs.Alike.{AreAlike, IsSameInAlike}
use Rattle.db_engine.specs.Steps.{read_bytes}
use Rattle.db_engine.specs.Runs.{AllAllowed, Full, Piece, Step, Turn, effect_by, rest_piece, state_after, statement, transcript, turn, turn_by}

-- ---- optimisations

abbrev pub calls_optimize_index : Procedure → Bool
calls_optimize_index PolicyTokens = false
calls_optimize_index SyncIndex = false
calls_optimize_index OptimizeIndex = true
calls_optimize_index ResultSet = false
calls_optimize_index (Define definition) = false
calls_optimize_index (Thesaurus procedure) = false

abbrev pub optimizes : Statement → Bool
optimizes (CreateTable name columns) = false
optimizes (CreateIndex name table column kind parameters parallel) = false
optimizes (Insert table columns values) = false
optimizes (Update table assigns conds) = false
optimizes (Delete table conds) = false
optimizes (DropTable name) = false
optimizes (DropIndex name) = false
optimizes (Select list table preds orders) = false
optimizes (Exec procedure args) = calls_optimize_index procedure
optimizes Commit = false

abbrev pub reads_optimize : Read → Bool
reads_optimize Blank = false
reads_optimize NoStatement = false
reads_optimize (Found s) = optimizes s

-- the piece of a script is a call of OPTIMIZE_INDEX, whatever its arguments are
abbrev pub is_optimisation : Piece → Bool
is_optimisation piece = piece.is_ended && reads_optimize (read_bytes piece.text)

-- the turns but for these
abbrev pub without_optimisations : List Turn → List Turn
without_optimisations turns = filter (λ t. not (is_optimisation t.piece)) turns

-- what is said in turns but for the replies to these
abbrev pub said_beside_optimising : ℕ → StoreState → List Turn → List ℕ
said_beside_optimising limit m [] = []
said_beside_optimising limit m (t ∷ ts) = (if is_optimisation t.piece then [] else (turn limit m t).1) ++ said_beside_optimising limit (turn limit m t).0 ts

-- none of them was answered that the store is full
abbrev pub NoneIsFull : List Turn → Type 0
NoneIsFull [] = Unit {0}
NoneIsFull (t ∷ ts) = (t.answer ≡ Full → ⊥) × NoneIsFull ts

-- ---- the promise

-- OPTIMISING CHANGES NO LATER REPLY. Two states are alike where they differ in no more than how tidy their indexes are and what these waste. Which pieces are
-- answered that memory was wanting, or that the store is full, is a part of the turns: only these answers may differ once an index was optimised.
pub record OptimisingChangesNoReply : Type 0 where
  -- an optimisation leads to a state like the one before
  pub optimising : (limit : ℕ) (m : StoreState) (piece : Piece) → is_optimisation piece ≡ true → AreAlike (state_by m (effect_by limit m piece)) m
  -- in states that are alike each piece has the same reply, and leads to states that are alike
  pub pieces : (limit : ℕ) (piece : Piece) → IsSameInAlike (λ m. effect_by limit m piece)
  -- from such states the same is said in all turns
  pub runs : (limit : ℕ) (m n : StoreState) → AreAlike m n → (turns : List Turn) → transcript limit m turns ≡ transcript limit n turns
  pub states : (limit : ℕ) (m n : StoreState) → AreAlike m n → (turns : List Turn)
      → AreAlike (state_after limit m turns) (state_after limit n turns)
  -- so what is said beside the replies to optimisations is what is said where nothing is optimised
  pub without : (limit : ℕ) (m : StoreState) (turns : List Turn) → said_beside_optimising limit m turns ≡ transcript limit m (without_optimisations turns)
  -- and these may be answered so too, where none of them was answered that the store is full
  pub allowed : (limit store : ℕ) (m : StoreState) (turns : List Turn) → NoneIsFull (without_optimisations turns) → AllAllowed limit store m turns
      → AllAllowed limit store m (without_optimisations turns)

-- ---- computed examples

fast : is_optimisation (statement (codes "EXEC CTX_DDL.OPTIMIZE_INDEX('di', 'FAST')")) ≡ true
unfolding chars is_utf8 encode
fast = refl

no_sync : is_optimisation (statement (codes "EXEC CTX_DDL.SYNC_INDEX('di')")) ≡ false
unfolding chars is_utf8 encode
no_sync = refl

-- what stands behind the last statement of a script is none
no_rest : is_optimisation (rest_piece (codes "EXEC CTX_DDL.OPTIMIZE_INDEX('di', 'FAST')")) ≡ false
no_rest = refl

-- an optimisation with a name that is none, and a COMMIT
abbrev two_turns : List Turn
two_turns = turn_by (statement (codes "EXEC CTX_DDL.OPTIMIZE_INDEX('no name', 'FULL')")) Step ∷ turn_by (statement (codes "COMMIT")) Step ∷ []

both_said : transcript 65536 empty_state two_turns ≡ codes "E30: bad attribute or value\nCommit complete.\n"
unfolding chars is_utf8 encode
both_said = refl

one_beside : said_beside_optimising 65536 empty_state two_turns ≡ codes "Commit complete.\n"
unfolding chars is_utf8 encode
one_beside = refl

one_left : without_optimisations two_turns ≡ turn_by (statement (codes "COMMIT")) Step ∷ []
unfolding chars is_utf8 encode
one_left = refl

-- a statement that was answered that the store is full has no room
no_room : NoneIsFull (turn_by (statement (codes "COMMIT")) Full ∷ []) → ⊥
no_room have = have.0 refl
