-- What one statement does: the state after it, and its reply.
use Rattle.std.specs.Prelude.{ℕ, pos, Bool, true, false, List, [], ◌∷◌, length, Some, None, codes, ◌≡◌, refl, nat_le, ◌++◌}
use Rattle.std.specs.Bool.{if◌then◌else◌}
use Rattle.std.specs.Str.{chars, is_utf8}
use Rattle.st_parse.specs.declared.statements.Arg.{Arg}
use Rattle.db_cond.specs.Faults.{NotUnderstood, StatementTooLong}
use Rattle.db_state.specs.States.{StoreState, empty_state}
use Rattle.db_state.specs.Effects.{Effect, Refused, Does, reply_by}
use Rattle.std.specs.Fmt.{digits}
use lib.Utf8.{encode}
use Rattle.ucd_category.proofs.Computing.{ucd_category}
use Rattle.caseless.proofs.Computing.{caseless}
use Rattle.tx_chars.specs.Keys.{key_text}
use Rattle.st_parse.specs.declared.statements.IndexKind.TheVariants as asked
use Rattle.st_parse.specs.declared.statements.Whole.TheVariants.{Fits}
use Rattle.st_parse.specs.declared.procedures.Procedure.{Procedure}
use Rattle.st_parse.specs.declared.procedures.Procedure.TheVariants.{PolicyTokens, SyncIndex, OptimizeIndex, ResultSet, Define, Thesaurus}
use Rattle.st_parse.specs.declared.statements.Statement.{Statement}
use Rattle.st_parse.specs.declared.statements.Statement.TheVariants.{CreateTable, DropTable, DropIndex, CreateIndex, Insert, Update, Delete, Select, Exec, Commit}
use Rattle.st_parse.specs.Grammar.{Read, NoStatement, Found, read}
use Rattle.st_parse.specs.Grammar.{Blank}
use Rattle.db_change.specs.Creating.{create_table}
use Rattle.db_index.specs.declared.kinds.BuiltKind.TheVariants.{Context, Rules}
use Rattle.db_index.specs.Kinds.{built_kind}
use Rattle.db_index.specs.Indexing.{create_index}
use Rattle.db_change.specs.Inserting.{insert_into}
use Rattle.db_change.specs.Updating.{update}
use Rattle.db_change.specs.Deleting.{delete_from}
use Rattle.db_change.specs.Dropping.{drop_table}
use Rattle.db_index.specs.Dropping.{drop_index}
use Rattle.db_select.specs.Statements.{select_statement}
use Rattle.db_select.specs.Choosing.{selection}
use Rattle.db_index.specs.Tokenizing.{policy_tokens}
use Rattle.db_index.specs.Syncing.{sync_index}
use Rattle.db_index.specs.Optimizing.{optimize_index}
use Rattle.db_hits.specs.Calling.{result_set}
use Rattle.db_prefs.specs.Defining.{define}
use Rattle.db_thes.specs.Calling.{call_thesaurus}

-- ---- what the call of a procedure does

abbrev pub call : StoreState → Procedure → List Arg → Effect
call m PolicyTokens args = policy_tokens m args
call m SyncIndex args = sync_index m args
call m OptimizeIndex args = optimize_index m args
call m ResultSet args = result_set m args
call m (Define definition) args = define m definition args
call m (Thesaurus procedure) args = call_thesaurus m procedure args

-- COMMIT changes nothing, since each statement is kept by itself
abbrev pub commit_complete : List ℕ
commit_complete = codes "Commit complete.\n"

-- what a statement does
abbrev pub effect : StoreState → Statement → Effect
effect m (CreateTable name columns) = create_table m name columns
effect m (CreateIndex name table column kind parameters parallel) = create_index m name table column (built_kind kind) parameters parallel
effect m (Insert table columns values) = insert_into m table columns values
effect m (Select list table preds orders) = select_statement m (selection list orders) table preds
effect m (Exec procedure args) = call m procedure args
effect m (DropTable name) = drop_table m name
effect m (DropIndex name) = drop_index m name
effect m (Update table assigns conds) = update m table assigns conds
effect m (Delete table conds) = delete_from m table conds
effect m Commit = Does m commit_complete

-- whether the call of a procedure may be answered that the store is full
abbrev pub may_fill_by : Procedure → Bool
may_fill_by PolicyTokens = false
may_fill_by SyncIndex = true
may_fill_by OptimizeIndex = true
may_fill_by ResultSet = false
may_fill_by (Define definition) = true
may_fill_by (Thesaurus procedure) = true

-- Whether the statement may be: one that only looks, or only takes entries away, never is.
abbrev pub may_fill : Statement → Bool
may_fill (DropTable name) = false
may_fill (DropIndex name) = false
may_fill (Delete table conds) = false
may_fill (Select list table preds orders) = false
may_fill (Exec procedure args) = may_fill_by procedure
may_fill Commit = false
may_fill statement = true

-- Which bytes are a text: those in UTF-8.
abbrev pub is_utf8_text : List ℕ → Bool
is_utf8_text bytes = is_utf8 bytes

-- what some bytes are as a statement
abbrev pub read_bytes : List ℕ → Read
read_bytes bytes = if is_utf8_text bytes then read (chars bytes) else NoStatement

abbrev pub effect_of : StoreState → Read → Effect
effect_of m Blank = Does m []
effect_of m NoStatement = Refused NotUnderstood
effect_of m (Found statement) = effect m statement

-- What the bytes of a statement do, of which there may be `limit`.
abbrev pub statement_step : ℕ → StoreState → List ℕ → Effect
statement_step limit m bytes = if nat_le (length bytes) limit then effect_of m (read_bytes bytes) else Refused StatementTooLong

-- What stands behind the last statement of a script does: it is no statement, and is answered where it is too long or isn't blank.
abbrev pub rest_of : StoreState → Read → Effect
rest_of m Blank = Does m []
rest_of m NoStatement = Refused NotUnderstood
rest_of m (Found statement) = Refused NotUnderstood

abbrev pub rest_step : ℕ → StoreState → List ℕ → Effect
rest_step limit m bytes = if nat_le (length bytes) limit then rest_of m (read_bytes bytes) else Refused StatementTooLong

-- computed examples
an_index_of_rules : (m : StoreState) → effect m (CreateIndex (codes "ri") (codes "rules") (codes "rule") asked.Ctxrule None None) ≡ create_index m (codes "ri") (codes "rules") (codes "rule") Rules None None
an_index_of_rules m = refl

an_index_in_parallel : (m : StoreState) → effect m (CreateIndex (codes "di") (codes "docs") (codes "body") asked.Context None (Some (Fits (pos 2)))) ≡ create_index m (codes "di") (codes "docs") (codes "body") Context None (Some (Fits (pos 2)))
an_index_in_parallel m = refl

abbrev reply : List ℕ → List ℕ
reply bytes = reply_by (statement_step 65536 empty_state bytes)

some_text : reply (codes "EXEC CTX_DOC.POLICY_TOKENS('some text')") ≡ codes "some|0|4\ntext|5|4\n"
unfolding encode digits chars is_utf8 caseless ucd_category key_text
some_text = refl

web_site : reply (codes "exec ctx_doc.policy_tokens('Web-site, 1,000.50!')") ≡ codes "web|0|3\nsite|4|4\n1,000.50|10|8\n"
unfolding encode digits chars is_utf8 caseless ucd_category key_text
web_site = refl

no_token : reply (codes "EXEC CTX_DOC.POLICY_TOKENS('--')") ≡ codes "no rows selected\n"
unfolding encode digits chars is_utf8 caseless ucd_category key_text
no_token = refl

-- É in two bytes
accented : reply (codes "EXEC CTX_DOC.POLICY_TOKENS('CAF" ++ (0xC3 ∷ 0x89 ∷ []) ++ codes "')") ≡ codes "caf" ++ (0xC3 ∷ 0xA9 ∷ []) ++ codes "|0|5\n"
unfolding encode digits chars is_utf8 caseless ucd_category key_text
accented = refl

-- the first argument spells no name
no_name_of_an_index : reply (codes "EXEC CTX_QUERY.RESULT_SET('no name', 'fox', 'count')") ≡ codes "E30: bad attribute or value\n"
unfolding chars is_utf8 encode
no_name_of_an_index = refl

nothing_to_optimise : reply (codes "EXEC CTX_DDL.OPTIMIZE_INDEX('no name', 'FULL', 50)") ≡ codes "E30: bad attribute or value\n"
unfolding chars is_utf8 encode
nothing_to_optimise = refl

-- half of it, in a comment
no_text : reply (codes "-- " ++ 0xC3 ∷ []) ≡ codes "E10: statement not understood\n"
unfolding chars is_utf8 encode
no_text = refl

note : reply (codes "-- note") ≡ []
unfolding chars is_utf8 encode
note = refl

half_a_word : reply (codes "SELEC") ≡ codes "E10: statement not understood\n"
unfolding chars is_utf8 encode
half_a_word = refl

rest_without_end : reply_by (rest_step 65536 empty_state (codes "DROP TABLE docs")) ≡ codes "E10: statement not understood\n"
unfolding chars is_utf8 encode
rest_without_end = refl

too_long : reply_by (statement_step 3 empty_state (codes "SELEC")) ≡ codes "E19: statement too long\n"
too_long = refl

table_may_fill : may_fill (CreateTable (codes "docs") []) ≡ true
table_may_fill = refl

sync_may_fill : may_fill (Exec SyncIndex []) ≡ true
sync_may_fill = refl

optimisation_may_fill : may_fill (Exec OptimizeIndex []) ≡ true
optimisation_may_fill = refl

tokens_never_fill : may_fill (Exec PolicyTokens []) ≡ false
tokens_never_fill = refl

result_never_fills : may_fill (Exec ResultSet []) ≡ false
result_never_fills = refl

deletion_never_fills : may_fill (Delete (codes "docs") []) ≡ false
deletion_never_fills = refl
