-- What the ways out of a statement tell over any content.
use Rattle.std.proofs.Common.{◌≡◌, ℕ, true, List, [], ◌∷◌, ◌++◌, Some, None, Ok, Vec, refl, sym, ap, ◌∙◌, inl, inr, arith}
use Rattle.std.specs.Prelude.{codes}
use Rattle.std.specs.declared.alloc.Global.{Global}
use Rattle.ct_keep.specs.KeeperViews.{KeeperView}
use Rattle.db_cond.specs.Faults.{Refusal, NotUnderstood, UnknownName, ExistsAlready, WrongValues, KeyExists, ValueTooLong, StatementTooLong, QuerySyntax, NotInProfile, QueryNumber, NotOneWord, UnknownSection, FieldInside, UnknownThesaurus, TooManyTerms, QueryTooLarge, OutOfRange, NoIndexOfKind, BadValue, LimitReached, InNoSubIndex, refusal_line, store_full}
use Rattle.st_parse.specs.declared.procedures.Procedure.TheVariants.{PolicyTokens, SyncIndex, OptimizeIndex, ResultSet, Define, Thesaurus}
use Rattle.st_parse.specs.declared.statements.Statement.{Statement}
use Rattle.st_parse.specs.declared.statements.Statement.TheVariants.{CreateTable, DropTable, DropIndex, CreateIndex, Insert, Update, Delete, Select, Exec, Commit}
use Rattle.db_change.specs.Creating.{table_created}
use Rattle.db_index.specs.Indexing.{index_created}
use Rattle.db_change.specs.Inserting.{row_created}
use Rattle.db_change.specs.Updating.{rows_updated}
use Rattle.db_change.specs.Deleting.{rows_deleted}
use Rattle.db_change.specs.Dropping.{table_dropped}
use Rattle.db_index.specs.Dropping.{index_dropped}
use Rattle.db_state.specs.Lines.{call_done}
use Rattle.db_engine.specs.Executing.{done_line, is_fixed, Tells}
use Rattle.db_state.specs.Plans.{DoneLines, line_for_all, Returns}
use Rattle.db_engine.specs.declared.replies.Reply.TheVariants.{Text as ReplyText}

-- ---- lines

second : List ℕ → ℕ
second (a ∷ b ∷ bs) = b
second bs = 0

-- no refusal has the line that the store is full
pub not_full : (r : Refusal) → refusal_line r ≡ store_full → ⊥
unfolding second
not_full NotUnderstood is = let e : 49 ≡ 56 = ap second is in omega (arith, e)
not_full (UnknownName name) is = let e : 49 ≡ 56 = ap second is in omega (arith, e)
not_full (ExistsAlready name) is = let e : 49 ≡ 56 = ap second is in omega (arith, e)
not_full WrongValues is = let e : 49 ≡ 56 = ap second is in omega (arith, e)
not_full (KeyExists key) is = let e : 49 ≡ 56 = ap second is in omega (arith, e)
not_full ValueTooLong is = let e : 49 ≡ 56 = ap second is in omega (arith, e)
not_full StatementTooLong is = let e : 49 ≡ 56 = ap second is in omega (arith, e)
not_full (QuerySyntax place) is = let e : 50 ≡ 56 = ap second is in omega (arith, e)
not_full (NotInProfile place) is = let e : 50 ≡ 56 = ap second is in omega (arith, e)
not_full (QueryNumber place) is = let e : 50 ≡ 56 = ap second is in omega (arith, e)
not_full (NotOneWord place) is = let e : 50 ≡ 56 = ap second is in omega (arith, e)
not_full (UnknownSection name) is = let e : 50 ≡ 56 = ap second is in omega (arith, e)
not_full (FieldInside name) is = let e : 50 ≡ 56 = ap second is in omega (arith, e)
not_full (UnknownThesaurus name) is = let e : 50 ≡ 56 = ap second is in omega (arith, e)
not_full TooManyTerms is = let e : 50 ≡ 56 = ap second is in omega (arith, e)
not_full QueryTooLarge is = let e : 50 ≡ 56 = ap second is in omega (arith, e)
not_full OutOfRange is = let e : 50 ≡ 56 = ap second is in omega (arith, e)
not_full NoIndexOfKind is = let e : 50 ≡ 56 = ap second is in omega (arith, e)
not_full BadValue is = let e : 51 ≡ 56 = ap second is in omega (arith, e)
not_full LimitReached is = let e : 51 ≡ 56 = ap second is in omega (arith, e)
not_full (InNoSubIndex name) is = let e : 51 ≡ 56 = ap second is in omega (arith, e)

-- the last byte but one
before_last : List ℕ → ℕ
before_last (a ∷ b ∷ c ∷ cs) = before_last (b ∷ c ∷ cs)
before_last (a ∷ b ∷ []) = a
before_last bs = 0

before_last-append : (xs : List ℕ) (a b c : ℕ) (cs : List ℕ) → before_last (xs ++ a ∷ b ∷ c ∷ cs) ≡ before_last (b ∷ c ∷ cs)
unfolding before_last
before_last-append [] a b c cs = refl
before_last-append (x ∷ []) a b c cs = refl
before_last-append (x ∷ y ∷ []) a b c cs = refl
before_last-append (x ∷ y ∷ z ∷ zs) a b c cs = before_last-append (y ∷ z ∷ zs) a b c cs

-- a line that tells how many rows were updated or deleted ends by a full stop
ends_otherwise : (xs : List ℕ) (a b c : ℕ) (cs : List ℕ) → before_last (b ∷ c ∷ cs) ≡ 46 → xs ++ a ∷ b ∷ c ∷ cs ≡ store_full → ⊥
unfolding before_last
ends_otherwise xs a b c cs stop is = let e : 46 ≡ 108 = sym stop ∙ sym (before_last-append xs a b c cs) ∙ ap before_last is in omega (arith, e)

-- and no change is said to be made by that line
pub not_done : (s : Statement) (done : DoneLines) (rows : ℕ) → done_line s ≡ Some done → done rows ≡ store_full → ⊥
unfolding second before_last
not_done (CreateTable name columns) done rows is full = let line : line_for_all table_created ≡ done = cc in let e : 97 ≡ 56 = ap second (ap (λ (l : DoneLines). l rows) line ∙ full) in omega (arith, e)
not_done (CreateIndex name table column kind parameters parallel) done rows is full = let line : line_for_all index_created ≡ done = cc in let e : 110 ≡ 56 = ap second (ap (λ (l : DoneLines). l rows) line ∙ full) in omega (arith, e)
not_done (Insert table columns values) done rows is full = let line : line_for_all row_created ≡ done = cc in let e : 32 ≡ 56 = ap second (ap (λ (l : DoneLines). l rows) line ∙ full) in omega (arith, e)
not_done (Exec PolicyTokens args) done rows is full = cc
not_done (Exec ResultSet args) done rows is full = cc
not_done (Exec SyncIndex args) done rows is full = let line : line_for_all call_done ≡ done = cc in let e : 76 ≡ 56 = ap second (ap (λ (l : DoneLines). l rows) line ∙ full) in omega (arith, e)
not_done (Exec OptimizeIndex args) done rows is full = let line : line_for_all call_done ≡ done = cc in let e : 76 ≡ 56 = ap second (ap (λ (l : DoneLines). l rows) line ∙ full) in omega (arith, e)
not_done (Exec (Define definition) args) done rows is full = let line : line_for_all call_done ≡ done = cc in let e : 76 ≡ 56 = ap second (ap (λ (l : DoneLines). l rows) line ∙ full) in omega (arith, e)
not_done (Exec (Thesaurus procedure) args) done rows is full = let line : line_for_all call_done ≡ done = cc in let e : 76 ≡ 56 = ap second (ap (λ (l : DoneLines). l rows) line ∙ full) in omega (arith, e)
not_done (DropTable name) done rows is full = let line : line_for_all table_dropped ≡ done = cc in let e : 97 ≡ 56 = ap second (ap (λ (l : DoneLines). l rows) line ∙ full) in omega (arith, e)
not_done (DropIndex name) done rows is full = let line : line_for_all index_dropped ≡ done = cc in let e : 110 ≡ 56 = ap second (ap (λ (l : DoneLines). l rows) line ∙ full) in omega (arith, e)
not_done (Update table assigns conds) done rows is full = let lines : rows_updated ≡ done = cc in ends_otherwise _ 117 112 100 (codes "ated.\n") refl (ap (λ (l : DoneLines). l rows) lines ∙ full)
not_done (Delete table conds) done rows is full = let lines : rows_deleted ≡ done = cc in ends_otherwise _ 100 101 108 (codes "eted.\n") refl (ap (λ (l : DoneLines). l rows) lines ∙ full)
not_done (Select list table preds orders) done rows is full = cc
not_done Commit done rows is full = cc

-- a statement that asks of a text alone, or is COMMIT, has no such line
pub fixed_looks : (s : Statement) → is_fixed s ≡ true → done_line s ≡ None
fixed_looks (CreateTable name columns) is = cc
fixed_looks (CreateIndex name table column kind parameters parallel) is = cc
fixed_looks (Insert table columns values) is = cc
fixed_looks (Exec PolicyTokens args) is = refl
fixed_looks (Exec SyncIndex args) is = cc
fixed_looks (Exec OptimizeIndex args) is = cc
fixed_looks (Exec ResultSet args) is = cc
fixed_looks (Exec (Define definition) args) is = cc
fixed_looks (Exec (Thesaurus procedure) args) is = cc
fixed_looks (DropTable name) is = cc
fixed_looks (DropIndex name) is = cc
fixed_looks (Update table assigns conds) is = cc
fixed_looks (Delete table conds) is = cc
fixed_looks (Select list table preds orders) is = refl
fixed_looks Commit is = refl

-- ---- the reply

pub tells_text : (done : DoneLines) (old new : KeeperView) (lines : Vec ℕ Global) (reply : List ℕ) → reply ≡ lines.items → Returns done old new (Ok lines) → Tells done old new (Ok (ReplyText reply))
tells_text done old new lines reply is (inl made) = inl (record { rows = made.rows; says = is ∙ made.says; commits = made.commits })
tells_text done old new lines reply is (inr refused) = inr (record { refusal = refused.refusal; says = is ∙ refused.says; reads = refused.reads })

-- no line of it says that the store is full
pub text_not_full : (s : Statement) (done : DoneLines) (old new : KeeperView) (lines : Vec ℕ Global) (reply : List ℕ) → done_line s ≡ Some done
    → reply ≡ lines.items → Returns done old new (Ok lines) → reply ≡ store_full → ⊥
text_not_full s done old new lines reply has is (inl made) full = not_done s done made.rows has (sym made.says ∙ sym is ∙ full)
text_not_full s done old new lines reply has is (inr refused) full = not_full refused.refusal (sym refused.says ∙ sym is ∙ full)
