-- What executing a statement does to what is known of a keeper.
use Rattle.std.specs.Prelude.{ℕ, pos, ◌≡◌, ◌⊎◌, Bool, true, false, List, [], Option, Some, None, Result, Ok, Err, codes, refl}
use Rattle.ct_base.specs.Causes.{Rose}
use Rattle.ct_keep.specs.Content.{Content}
use Rattle.ct_keep.specs.declared.keepers.KeepFault.{KeepFault}
use Rattle.ct_keep.specs.declared.keepers.KeepFault.TheVariants.{Memory, Disk, Full as NoRoom}
use Rattle.ct_keep.specs.KeeperViews.{counted, KeeperView}
use Rattle.st_parse.specs.declared.statements.Arg.{Arg}
use Rattle.st_parse.specs.declared.statements.SelectList.TheVariants.{Star}
use Rattle.st_parse.specs.declared.procedures.Definition.TheVariants.{CreateStoplist}
use Rattle.st_parse.specs.declared.statements.IndexKind.TheVariants.{Context}
use Rattle.st_parse.specs.declared.statements.Whole.TheVariants.{Fits}
use Rattle.st_parse.specs.declared.procedures.Procedure.{Procedure}
use Rattle.st_parse.specs.declared.procedures.Procedure.TheVariants.{PolicyTokens, SyncIndex, OptimizeIndex, ResultSet, Define, Thesaurus}
use Rattle.st_parse.specs.declared.statements.Statement.{Statement}
use Rattle.st_parse.specs.declared.statements.Statement.TheVariants.{CreateTable, DropTable, DropIndex, CreateIndex, Insert, Update, Delete, Select, Exec, Commit}
use Rattle.db_cond.specs.Faults.{store_full}
use Rattle.db_state.specs.States.{StoreState, StandsForState}
use Rattle.db_state.specs.Effects.{Effect, reply_by}
use Rattle.db_change.specs.Creating.{table_created}
use Rattle.db_index.specs.Indexing.{index_created}
use Rattle.db_change.specs.Inserting.{row_created}
use Rattle.db_change.specs.Updating.{rows_updated}
use Rattle.db_change.specs.Deleting.{rows_deleted}
use Rattle.db_change.specs.Dropping.{table_dropped}
use Rattle.db_index.specs.Dropping.{index_dropped}
use Rattle.db_index.specs.Tokenizing.{reads_no_preference}
use Rattle.db_state.specs.Lines.{call_done}
use Rattle.db_engine.specs.Steps.{effect, may_fill}
use Rattle.db_engine.specs.Runs.{Answer, Step, NoMemory, Full}
use Rattle.db_engine.specs.declared.replies.Reply.{Reply}
use Rattle.db_engine.specs.declared.replies.Reply.TheVariants.{Text as ReplyText, Full as ReplyFull, NoMemory as ReplyNoMemory}
use Rattle.db_engine.specs.declared.replies.Stop.{Stop}
use Rattle.db_engine.specs.declared.replies.Stop.TheVariants.{Disk as DiskStop}
use Rattle.db_state.specs.Plans.{DoneLines, line_for_all, Moves, HasNoPlace, CommitsOnce, ContentStays, IsMade, IsRefused}

-- ---- the answers of `execute`

-- how the keeper answered where a statement is answered so
abbrev pub fault_for : Answer → Option KeepFault
fault_for Step = None
fault_for NoMemory = Some Memory
fault_for Full = Some NoRoom

-- the reply by the answer
abbrev pub IsReplyBy : Answer → Effect → Reply → Type 0
IsReplyBy Step effect (ReplyText reply) = reply ≡ reply_by effect
IsReplyBy Step effect ReplyFull = ⊥
IsReplyBy Step effect ReplyNoMemory = ⊥
IsReplyBy NoMemory effect (ReplyText reply) = ⊥
IsReplyBy NoMemory effect ReplyFull = ⊥
IsReplyBy NoMemory effect ReplyNoMemory = Unit {0}
IsReplyBy Full effect (ReplyText reply) = ⊥
IsReplyBy Full effect ReplyFull = Unit {0}
IsReplyBy Full effect ReplyNoMemory = ⊥

-- A statement with this effect was answered. `may` tells whether it may fill the store.
pub record IsAnswered (m : StoreState) (effect : Effect) (may : Bool) (c : Content) (old new : KeeperView) (reply : Reply) : Type 0 where
  pub answer : Answer
  pub moves : Moves m effect c old new (fault_for answer)
  pub says : IsReplyBy answer effect reply
  pub place : answer ≡ Full → HasNoPlace m effect old.fixed.limit
  pub may_fill : answer ≡ Full → may ≡ true
  pub fulls : answer ≡ Full → Rose old.counts.fulls new.counts.fulls

abbrev pub Executes : StoreState → Effect → Bool → Content → KeeperView → KeeperView → Result Reply Stop → Type 0
Executes m effect may c old new (Ok reply) = IsAnswered m effect may c old new reply
Executes m effect may c old new (Err DiskStop) = Moves m effect c old new (Some Disk)

-- The statement was answered so over each state that the content stands for, where it is told.
abbrev pub ExecutesStatement : Statement → KeeperView → KeeperView → Result Reply Stop → Type 0
ExecutesStatement s old new result = (m : StoreState) (c : Content) → old.content ≡ Some c → StandsForState c m → Executes m (effect m s) (may_fill s) c old new result

abbrev pub fault_of_stop : {T : Type 0} → Result T Stop → Option KeepFault
fault_of_stop (Ok x) = None
fault_of_stop (Err DiskStop) = Some Disk

-- ---- what `execute` promises over any content, also one that stands for no state

-- the lines by which the call of a procedure says that its change is made
abbrev pub call_line : Procedure → Option DoneLines
call_line PolicyTokens = None
call_line SyncIndex = Some (line_for_all call_done)
call_line OptimizeIndex = Some (line_for_all call_done)
call_line ResultSet = None
call_line (Define definition) = Some (line_for_all call_done)
call_line (Thesaurus procedure) = Some (line_for_all call_done)

-- The lines by which a statement says that its change is made. None where it changes nothing: it only looks, or is COMMIT.
abbrev pub done_line : Statement → Option DoneLines
done_line (CreateTable name columns) = Some (line_for_all table_created)
done_line (CreateIndex name table column kind parameters parallel) = Some (line_for_all index_created)
done_line (Insert table columns values) = Some (line_for_all row_created)
done_line (Update table assigns conds) = Some rows_updated
done_line (Delete table conds) = Some rows_deleted
done_line (DropTable name) = Some (line_for_all table_dropped)
done_line (DropIndex name) = Some (line_for_all index_dropped)
done_line (Exec procedure args) = call_line procedure
done_line (Select list table preds orders) = None
done_line Commit = None

-- whether the call of a procedure with these arguments replies the same in every state
abbrev pub is_fixed_call : Procedure → List Arg → Bool
is_fixed_call PolicyTokens args = reads_no_preference args
is_fixed_call SyncIndex args = false
is_fixed_call OptimizeIndex args = false
is_fixed_call ResultSet args = false
is_fixed_call (Define definition) args = false
is_fixed_call (Thesaurus procedure) args = false

-- Whether the reply to a statement is the same in every state: it asks of a text alone, or is COMMIT.
abbrev pub is_fixed : Statement → Bool
is_fixed (CreateTable name columns) = false
is_fixed (CreateIndex name table column kind parameters parallel) = false
is_fixed (Insert table columns values) = false
is_fixed (Update table assigns conds) = false
is_fixed (Delete table conds) = false
is_fixed (DropTable name) = false
is_fixed (DropIndex name) = false
is_fixed (Select list table preds orders) = false
is_fixed (Exec procedure args) = is_fixed_call procedure args
is_fixed Commit = true

-- The store was full: how often the keeper found that rose, and the content stays as it is.
pub record IsFull (old new : KeeperView) : Type 0 where
  pub stays : ContentStays old new
  pub rose : Rose old.counts.fulls new.counts.fulls

-- How a statement was answered that says by one of these lines that its change is made.
abbrev pub Tells : DoneLines → KeeperView → KeeperView → Result Reply Stop → Type 0
Tells done old new (Ok (ReplyText reply)) = IsMade done reply old new ⊎ IsRefused reply old new
Tells done old new (Ok ReplyFull) = IsFull old new
Tells done old new (Ok ReplyNoMemory) = ContentStays old new
Tells done old new (Err DiskStop) = CommitsOnce old new (Some Disk)

-- this holds of the reply, where it is a text
abbrev pub IfText : (List ℕ → Type 0) → Result Reply Stop → Type 0
IfText says (Ok (ReplyText reply)) = says reply
IfText says (Ok ReplyFull) = Unit {0}
IfText says (Ok ReplyNoMemory) = Unit {0}
IfText says (Err stop) = Unit {0}

abbrev pub is_full_reply : Result Reply Stop → Bool
is_full_reply (Ok (ReplyText reply)) = false
is_full_reply (Ok ReplyFull) = true
is_full_reply (Ok ReplyNoMemory) = false
is_full_reply (Err stop) = false

-- That the store is full is answered exactly where the keeper answered so, by the count of it.
abbrev pub FullByCount : KeeperView → KeeperView → Result Reply Stop → Type 0
FullByCount old new result = new.counts.fulls ≡ counted (is_full_reply result) old.counts.fulls

-- no text says that the store is full
abbrev pub NoTextIsFull : Result Reply Stop → Type 0
NoTextIsFull result = IfText (λ reply. reply ≡ store_full → ⊥) result

-- computed examples
two_rows : done_line (Delete (codes "docs") []) ≡ Some rows_deleted
two_rows = refl

row_line : done_line (Insert (codes "docs") None []) ≡ Some (line_for_all (codes "1 row created.\n"))
row_line = refl

sync_line : done_line (Exec SyncIndex []) ≡ Some (line_for_all (codes "PL/SQL procedure successfully completed.\n"))
sync_line = refl

definition_line : done_line (Exec (Define CreateStoplist) []) ≡ Some (line_for_all (codes "PL/SQL procedure successfully completed.\n"))
definition_line = refl

-- whatever PARALLEL gives, also a number of threads for which it is refused
index_line : done_line (CreateIndex (codes "di") (codes "docs") (codes "body") Context None (Some (Fits (pos 17)))) ≡ Some (line_for_all (codes "Index created.\n"))
index_line = refl

select_line : done_line (Select Star (codes "docs") [] []) ≡ None
select_line = refl

result_line : done_line (Exec ResultSet []) ≡ None
result_line = refl

tokens_fixed : is_fixed (Exec PolicyTokens []) ≡ true
tokens_fixed = refl
