-- Runs from states that are alike.
use Rattle.std.proofs.Common.{◌≡◌, ℕ, Bool, true, false, cond, List, [], ◌∷◌, ◌++◌, refl, ◌∙◌}
use Rattle.std.specs.Prelude.{nat_le, length, not}
use Rattle.std.proofs.lemmas.Bool.{and_parts}
use Rattle.st_parse.specs.declared.statements.Arg.{Arg}
use Rattle.st_parse.specs.declared.procedures.Procedure.{Procedure}
use Rattle.st_parse.specs.declared.procedures.Procedure.TheVariants.{PolicyTokens, SyncIndex, OptimizeIndex, ResultSet, Define, Thesaurus}
use Rattle.st_parse.specs.declared.statements.Statement.{Statement}
use Rattle.st_parse.specs.declared.statements.Statement.TheVariants.{CreateTable, DropTable, DropIndex, CreateIndex, Insert, Update, Delete, Select, Exec, Commit}
use Rattle.st_parse.specs.Grammar.{Read, Blank, NoStatement, Found}
use Rattle.db_cond.specs.Faults.{StatementTooLong}
use Rattle.db_state.specs.States.{StoreState}
use Rattle.db_state.specs.Effects.{Effect, Refused, state_by}
use Rattle.db_state.specs.Alike.{AreAlike, HaveSameOutcome, IsSameInAlike, DoesSamePlain}
use Rattle.db_state.specs.laws.AlikeChecks.{alike_from_plain, does_plain}
use Rattle.db_change.specs.laws.Alike.{create_table_plain, delete_from_plain, drop_table_plain, insert_into_plain, update_plain}
use Rattle.db_hits.specs.laws.Alike.{result_set_plain}
use Rattle.db_index.specs.Kinds.{built_kind}
use Rattle.db_index.specs.laws.Alike.{create_index_plain, drop_index_plain, optimize_index_alike, optimize_index_plain, policy_tokens_plain, sync_index_plain}
use Rattle.db_prefs.specs.laws.Alike.{define_plain}
use Rattle.db_select.specs.Choosing.{selection}
use Rattle.db_select.specs.laws.Alike.{select_statement_plain}
use Rattle.db_thes.specs.laws.Alike.{call_thesaurus_plain}
use Rattle.db_engine.specs.Alike.{NoneIsFull, OptimisingChangesNoReply, is_optimisation, optimizes, calls_optimize_index, reads_optimize, said_beside_optimising, without_optimisations}
use Rattle.db_engine.specs.Runs.{AllAllowed, Answer, Full, IsAllowed, NoMemory, Piece, Step, Turn, answered, effect_by, state_after, transcript, turn}
use Rattle.db_engine.specs.Steps.{call, commit_complete, effect, effect_of, read_bytes, rest_of, rest_step, statement_step}

-- ---- a statement

call_plain : (procedure : Procedure) (args : List Arg) → DoesSamePlain (λ m. call m procedure args)
call_plain PolicyTokens args = policy_tokens_plain args
call_plain SyncIndex args = sync_index_plain args
call_plain OptimizeIndex args = optimize_index_plain args
call_plain ResultSet args = result_set_plain args
call_plain (Define definition) args = define_plain definition args
call_plain (Thesaurus procedure) args = call_thesaurus_plain procedure args

effect_plain : (s : Statement) → DoesSamePlain (λ m. effect m s)
effect_plain (CreateTable name columns) = create_table_plain name columns
effect_plain (CreateIndex name table column kind parameters parallel) = create_index_plain name table column (built_kind kind) parameters parallel
effect_plain (Insert table columns values) = insert_into_plain table columns values
effect_plain (Update table assigns conds) = update_plain table assigns conds
effect_plain (Delete table conds) = delete_from_plain table conds
effect_plain (DropTable name) = drop_table_plain name
effect_plain (DropIndex name) = drop_index_plain name
effect_plain (Select list table preds orders) = select_statement_plain (selection list orders) table preds
effect_plain (Exec procedure args) = call_plain procedure args
effect_plain Commit = λ m. does_plain m commit_complete

read_plain : (read : Read) → DoesSamePlain (λ m. effect_of m read)
read_plain Blank = λ m. does_plain m []
read_plain NoStatement = λ m. refl
read_plain (Found s) = effect_plain s

rest_plain : (read : Read) → DoesSamePlain (λ m. rest_of m read)
rest_plain Blank = λ m. does_plain m []
rest_plain NoStatement = λ m. refl
rest_plain (Found s) = λ m. refl

-- where it isn't too long
within_plain : (f : StoreState → Effect) → DoesSamePlain f → (b : Bool) → DoesSamePlain (λ m. cond b (f m) (Refused StatementTooLong))
within_plain f plainly true = plainly
within_plain f plainly false = λ m. refl

step_plain : (limit : ℕ) (text : List ℕ) → DoesSamePlain (λ m. statement_step limit m text)
step_plain limit text = within_plain (λ m. effect_of m (read_bytes text)) (read_plain (read_bytes text)) (nat_le (length text) limit)

rest_step_plain : (limit : ℕ) (text : List ℕ) → DoesSamePlain (λ m. rest_step limit m text)
rest_step_plain limit text = within_plain (λ m. rest_of m (read_bytes text)) (rest_plain (read_bytes text)) (nat_le (length text) limit)

piece_plain : (limit : ℕ) (piece : Piece) → DoesSamePlain (λ m. effect_by limit m piece)
piece_plain limit piece = go piece.is_ended
  where
    go : (b : Bool) → DoesSamePlain (λ m. cond b (statement_step limit m piece.text) (rest_step limit m piece.text))
    go true = step_plain limit piece.text
    go false = rest_step_plain limit piece.text

pieces_alike : (limit : ℕ) (piece : Piece) → IsSameInAlike (λ m. effect_by limit m piece)
pieces_alike limit piece = alike_from_plain (λ m. effect_by limit m piece) (piece_plain limit piece)

-- ---- an optimisation

call_optimises : (m : StoreState) (procedure : Procedure) (args : List Arg) → calls_optimize_index procedure ≡ true
    → AreAlike (state_by m (call m procedure args)) m
call_optimises m PolicyTokens args is = cc
call_optimises m SyncIndex args is = cc
call_optimises m OptimizeIndex args is = optimize_index_alike m args
call_optimises m ResultSet args is = cc
call_optimises m (Define definition) args is = cc
call_optimises m (Thesaurus procedure) args is = cc

optimises : (m : StoreState) (s : Statement) → optimizes s ≡ true → AreAlike (state_by m (effect m s)) m
optimises m (CreateTable name columns) is = cc
optimises m (CreateIndex name table column kind parameters parallel) is = cc
optimises m (Insert table columns values) is = cc
optimises m (Update table assigns conds) is = cc
optimises m (Delete table conds) is = cc
optimises m (DropTable name) is = cc
optimises m (DropIndex name) is = cc
optimises m (Select list table preds orders) is = cc
optimises m (Exec procedure args) is = call_optimises m procedure args is
optimises m Commit is = cc

read_optimises : (m : StoreState) (read : Read) → reads_optimize read ≡ true → AreAlike (state_by m (effect_of m read)) m
read_optimises m Blank is = cc
read_optimises m NoStatement is = cc
read_optimises m (Found s) is = optimises m s is

piece_optimises : (limit : ℕ) (m : StoreState) (piece : Piece) → is_optimisation piece ≡ true → AreAlike (state_by m (effect_by limit m piece)) m
piece_optimises limit m piece is =
    go piece.is_ended (nat_le (length piece.text) limit) (and_parts piece.is_ended (reads_optimize (read_bytes piece.text)) is).0
  where
    go : (ended within : Bool) → ended ≡ true
        → AreAlike (state_by m (cond ended (cond within (effect_of m (read_bytes piece.text)) (Refused StatementTooLong)) (rest_step limit m piece.text))) m
    go true true e = read_optimises m (read_bytes piece.text) (and_parts piece.is_ended (reads_optimize (read_bytes piece.text)) is).1
    go true false e = refl
    go false within e = cc

-- ---- a run

answer_alike : (answer : Answer) (m n : StoreState) (e f : Effect) → AreAlike m n → HaveSameOutcome m n e f
    → ((answered answer m e).1 ≡ (answered answer n f).1) × AreAlike (answered answer m e).0 (answered answer n f).0
answer_alike Step m n e f alike both = (both.reply, both.states)
answer_alike NoMemory m n e f alike both = (refl, alike)
answer_alike Full m n e f alike both = (refl, alike)

turn_alike : (limit : ℕ) (m n : StoreState) (t : Turn) → AreAlike m n
    → ((turn limit m t).1 ≡ (turn limit n t).1) × AreAlike (turn limit m t).0 (turn limit n t).0
turn_alike limit m n t alike = answer_alike t.answer m n (effect_by limit m t.piece) (effect_by limit n t.piece) alike (pieces_alike limit t.piece m n alike)

runs_alike : (limit : ℕ) (m n : StoreState) → AreAlike m n → (turns : List Turn) → transcript limit m turns ≡ transcript limit n turns
runs_alike limit m n alike [] = refl
runs_alike limit m n alike (t ∷ ts) =
    let both = turn_alike limit m n t alike in
    let rest = runs_alike limit (turn limit m t).0 (turn limit n t).0 both.1 ts in
    (λ j. both.0 j ++ rest j)

states_alike : (limit : ℕ) (m n : StoreState) → AreAlike m n → (turns : List Turn)
    → AreAlike (state_after limit m turns) (state_after limit n turns)
states_alike limit m n alike [] = alike
states_alike limit m n alike (t ∷ ts) = states_alike limit (turn limit m t).0 (turn limit n t).0 (turn_alike limit m n t alike).1 ts

-- ---- a run without its optimisations

turn_optimises : (limit : ℕ) (m : StoreState) (t : Turn) → is_optimisation t.piece ≡ true → AreAlike (turn limit m t).0 m
turn_optimises limit m t is = go t.answer
  where
    go : (answer : Answer) → AreAlike (answered answer m (effect_by limit m t.piece)).0 m
    go Step = piece_optimises limit m t.piece is
    go NoMemory = refl
    go Full = refl

beside : (limit : ℕ) (m n : StoreState) → AreAlike m n → (turns : List Turn)
    → said_beside_optimising limit m turns ≡ transcript limit n (without_optimisations turns)
beside limit m n alike [] = refl
beside limit m n alike (t ∷ ts) = go (is_optimisation t.piece) refl (λ k like. beside limit next k like ts)
  where
    next : StoreState
    next = (turn limit m t).0

    go : (b : Bool) → is_optimisation t.piece ≡ b
        → ((k : StoreState) → AreAlike next k → said_beside_optimising limit next ts ≡ transcript limit k (without_optimisations ts))
        → cond b [] (turn limit m t).1 ++ said_beside_optimising limit next ts
        ≡ transcript limit n (cond (not b) (t ∷ without_optimisations ts) (without_optimisations ts))
    go true is rest = rest n (turn_optimises limit m t is ∙ alike)
    go false is rest =
        let both = turn_alike limit m n t alike in
        let later = rest (turn limit n t).0 both.1 in
        (λ j. both.0 j ++ later j)

-- ---- which answers are allowed

-- all but that the store is full, in any state
answer_allowed : (limit store : ℕ) (m n : StoreState) (piece : Piece) (answer : Answer) → (answer ≡ Full → ⊥) → IsAllowed limit store m piece answer
    → IsAllowed limit store n piece answer
answer_allowed limit store m n piece Step room is = is
answer_allowed limit store m n piece NoMemory room is = is
answer_allowed limit store m n piece Full room is = absurd (room refl)

allowed_without : (limit store : ℕ) (m n : StoreState) (turns : List Turn) → NoneIsFull (without_optimisations turns) → AllAllowed limit store m turns
    → AllAllowed limit store n (without_optimisations turns)
allowed_without limit store m n [] room all = tt
allowed_without limit store m n (t ∷ ts) room all = go (is_optimisation t.piece) (λ k later. allowed_without limit store (turn limit m t).0 k ts later all.1) room
  where
    go : (b : Bool) → ((k : StoreState) → NoneIsFull (without_optimisations ts) → AllAllowed limit store k (without_optimisations ts))
        → NoneIsFull (cond (not b) (t ∷ without_optimisations ts) (without_optimisations ts)) → AllAllowed limit store n (cond (not b) (t ∷ without_optimisations ts) (without_optimisations ts))
    go true rest room = rest n room
    go false rest room = (answer_allowed limit store m n t.piece t.answer room.0 all.0, rest (turn limit n t).0 room.1)

pub optimising_changes_no_reply : OptimisingChangesNoReply
optimising_changes_no_reply = record {
  optimising = piece_optimises;
  pieces = pieces_alike;
  runs = runs_alike;
  states = states_alike;
  without = λ limit m turns. beside limit m m refl turns;
  allowed = λ limit store m turns room all. allowed_without limit store m m turns room all;
}
