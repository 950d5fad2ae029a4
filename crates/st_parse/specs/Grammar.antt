-- The statements that lexemes are.
use Rattle.std.specs.Prelude.{ℕ, ◌≡◌, ◌≤◌, true, false, count_by, pos, negsuc, List, [], ◌∷◌, ◌++◌, codes, Option, Some, None, Result, Ok, Err, refl}
use lib.Utf8.{encode}
use Rattle.st_parse.specs.declared.lexemes.Keyword.{Keyword}
use Rattle.st_parse.specs.declared.lexemes.Keyword.TheVariants.{Create as CREATE, Table as TABLE, Drop as DROP, Index as INDEX, On as ON, Indextype as INDEXTYPE, Is as IS, Insert as INSERT, Into as INTO, Values as VALUES, Update as UPDATE, Set as SET, Delete as DELETE, Select as SELECT, From as FROM, Exec as EXEC, Execute as EXECUTE, Commit as COMMIT}
use Rattle.st_parse.specs.declared.lexemes.Symbol.TheVariants.{Open, Close, Dot}
use Rattle.st_parse.specs.declared.lexemes.Lexeme.{Lexeme}
use Rattle.st_parse.specs.declared.lexemes.Lexeme.TheVariants.{Word, Name, Sign}
use Rattle.st_parse.specs.declared.statements.Whole.TheVariants.{Fits, Beyond}
use Rattle.st_parse.specs.declared.statements.Operand.TheVariants.{Text as TextValue, Number as NumberValue}
use Rattle.st_parse.specs.declared.statements.SortText.TheVariants.{Number as NumberSort, Varchar2, Clob}
use Rattle.st_parse.specs.declared.statements.IndexKind.TheVariants.{Context, Ctxcat, Ctxrule}
use Rattle.st_parse.specs.declared.statements.Item.TheVariants.{Column, Score}
use Rattle.st_parse.specs.declared.statements.SelectList.TheVariants.{Star as AllColumns, CountAll, Items}
use Rattle.st_parse.specs.declared.statements.Compare.TheVariants.{Equal, Less, AtMost, Greater, AtLeast}
use Rattle.st_parse.specs.declared.statements.Cond.TheVariants.{Compare, Between, OneOf}
use Rattle.st_parse.specs.declared.statements.Pred.TheVariants.{Cond, Contains, Catsearch, Matches}
use Rattle.st_parse.specs.declared.statements.Arg.TheVariants.{Text as TextArg, Number as NumberArg, Flag}
use Rattle.st_parse.specs.declared.statements.Statement.{Statement}
use Rattle.st_parse.specs.declared.statements.Statement.TheVariants.{CreateTable, DropTable, DropIndex, CreateIndex, Insert, Update, Delete, Select, Exec, Commit}
use Rattle.st_parse.specs.declared.parsing.StatementFault.{StatementFault}
use Rattle.st_parse.specs.declared.parsing.StatementFault.TheVariants.{Syntax, Memory}
use Rattle.st_parse.specs.Lexemes.{lexemes}
use Rattle.st_parse.specs.Lists.{AreListed, AreEnclosed, IsWhere}
use Rattle.st_parse.specs.Values.{IsOperand}
use Rattle.st_parse.specs.Conditions.{IsCond}
use Rattle.st_parse.specs.Creating.{IsColumn, IsIndexKind, IsParameters, IsParallel, create_of}
use Rattle.st_parse.specs.Dropping.{drop_of}
use Rattle.st_parse.specs.Inserting.{AreColumnNames, insert_of}
use Rattle.st_parse.specs.Updating.{IsAssign, assign_to, update_of}
use Rattle.st_parse.specs.Deleting.{IsOptionalFrom, delete_of}
use Rattle.st_parse.specs.Ordering.{AreOrders, order_item}
use Rattle.st_parse.specs.Selecting.{IsSelectList, IsPred, is_search, select_of}
use Rattle.st_parse.specs.declared.procedures.Procedure.TheVariants.{PolicyTokens, SyncIndex}
use Rattle.st_parse.specs.Procedures.{procedure_package, procedure_name}
use Rattle.st_parse.specs.Calling.{IsExec, AreArgs, exec_of}

-- These lexemes are this statement.
abbrev pub IsStatement : List Lexeme → Statement → Type 0
IsStatement ls (CreateTable name columns) =
    (list : List Lexeme) × AreEnclosed IsColumn list columns × (ls ≡ Word CREATE ∷ Word TABLE ∷ Name name ∷ list)
IsStatement ls (DropTable name) = ls ≡ Word DROP ∷ Word TABLE ∷ Name name ∷ []
IsStatement ls (DropIndex name) = ls ≡ Word DROP ∷ Word INDEX ∷ Name name ∷ []
IsStatement ls (CreateIndex name table column kind parameters parallel) =
    (kinds texts degrees : List Lexeme) × IsIndexKind kinds kind × IsParameters texts parameters × IsParallel degrees parallel
    × (ls ≡ Word CREATE ∷ Word INDEX ∷ Name name ∷ Word ON ∷ Name table ∷ Sign Open ∷ Name column ∷ Sign Close ∷ Word INDEXTYPE ∷ Word IS ∷ (kinds ++ (texts ++ degrees)))
IsStatement ls (Insert table columns values) =
    (names list : List Lexeme) × AreColumnNames names columns × AreEnclosed IsOperand list values × (ls ≡ Word INSERT ∷ Word INTO ∷ Name table ∷ (names ++ Word VALUES ∷ list))
IsStatement ls (Update table assigns conds) =
    (list filter : List Lexeme) × AreListed IsAssign list assigns × IsWhere IsCond filter conds × (ls ≡ Word UPDATE ∷ Name table ∷ Word SET ∷ (list ++ filter))
IsStatement ls (Delete table conds) =
    (from filter : List Lexeme) × IsOptionalFrom from × IsWhere IsCond filter conds × (ls ≡ Word DELETE ∷ (from ++ Name table ∷ filter))
IsStatement ls (Select list table preds orders) =
    (columns filter order : List Lexeme) × IsSelectList columns list × IsWhere IsPred filter preds × AreOrders order orders × (count_by is_search preds ≤ 1)
    × (ls ≡ Word SELECT ∷ (columns ++ Word FROM ∷ Name table ∷ (filter ++ order)))
IsStatement ls (Exec procedure args) =
    (word : Keyword) × ((list : List Lexeme) × IsExec word × AreArgs list args × (ls ≡ Word word ∷ Name (procedure_package procedure) ∷ Sign Dot ∷ Name (procedure_name procedure) ∷ list))
IsStatement ls Commit = ls ≡ Word COMMIT ∷ []

-- they are none
abbrev pub IsNoStatement : List Lexeme → Type 0
IsNoStatement ls = (s : Statement) → ¬ (IsStatement ls s)

-- The same as a function: the statement of some lexemes.
abbrev pub statement_of : List Lexeme → Option Statement
statement_of (Word CREATE ∷ ls) = create_of ls
statement_of (Word DROP ∷ ls) = drop_of ls
statement_of (Word INSERT ∷ ls) = insert_of ls
statement_of (Word UPDATE ∷ ls) = update_of ls
statement_of (Word DELETE ∷ ls) = delete_of ls
statement_of (Word SELECT ∷ ls) = select_of ls
statement_of (Word EXEC ∷ ls) = exec_of ls
statement_of (Word EXECUTE ∷ ls) = exec_of ls
statement_of (Word COMMIT ∷ []) = Some Commit
statement_of ls = None

-- What a text is: without a lexeme, no statement, or a statement.
pub data Read : Type 0 where
  Blank : Read
  NoStatement : Read
  Found : Statement → Read

abbrev pub statement_read : Option Statement → Read
statement_read None = NoStatement
statement_read (Some statement) = Found statement

abbrev pub read_lexemes : Option (List Lexeme) → Read
read_lexemes None = NoStatement
read_lexemes (Some []) = Blank
read_lexemes (Some (l ∷ ls)) = statement_read (statement_of (l ∷ ls))

-- what the characters of a text are
abbrev pub read : List ℕ → Read
read text = read_lexemes (lexemes text)

-- What parsing returned of a text that is this. Want of memory says nothing.
abbrev pub ParseGives : Result (Option Statement) StatementFault → Read → Type 0
ParseGives (Ok None) r = r ≡ Blank
ParseGives (Ok (Some statement)) r = r ≡ Found statement
ParseGives (Err Syntax) r = r ≡ NoStatement
ParseGives (Err Memory) r = Unit {0}

-- computed examples
table : read (codes "CREATE TABLE docs (id NUMBER PRIMARY KEY, body CLOB, price NUMBER, title VARCHAR2(80))")
    ≡ Found (CreateTable (codes "docs")
    (record { name = codes "id"; sort = NumberSort; primary = true }
    ∷ record { name = codes "body"; sort = Clob; primary = false }
    ∷ record { name = codes "price"; sort = NumberSort; primary = false }
    ∷ record { name = codes "title"; sort = Varchar2 (Fits (pos 80)); primary = false }
    ∷ []))
table = refl

index : read (codes "CREATE INDEX di ON docs(body) INDEXTYPE IS CTXSYS.CONTEXT") ≡ Found (CreateIndex (codes "di") (codes "docs") (codes "body") Context None None)
index = refl

catalogue : read (codes "CREATE INDEX ci ON items(title) INDEXTYPE IS CTXSYS.CTXCAT PARAMETERS ('INDEX SET iset')")
    ≡ Found (CreateIndex (codes "ci") (codes "items") (codes "title") Ctxcat (Some (codes "INDEX SET iset")) None)
unfolding encode
catalogue = refl

parallel : read (codes "CREATE INDEX ci ON items(title) INDEXTYPE IS CTXCAT PARAMETERS ('') PARALLEL 16")
    ≡ Found (CreateIndex (codes "ci") (codes "items") (codes "title") Ctxcat (Some []) (Some (Fits (pos 16))))
unfolding encode
parallel = refl

rules : read (codes "CREATE INDEX ri ON desks(rule) INDEXTYPE IS CTXRULE") ≡ Found (CreateIndex (codes "ri") (codes "desks") (codes "rule") Ctxrule None None)
rules = refl

table_dropped : read (codes "DROP TABLE docs") ≡ Found (DropTable (codes "docs"))
table_dropped = refl

index_dropped : read (codes "Drop Index di") ≡ Found (DropIndex (codes "di"))
index_dropped = refl

row : read (codes "INSERT INTO docs VALUES (1,'quick fox quick',0)")
    ≡ Found (Insert (codes "docs") None (NumberValue (Fits (pos 1)) ∷ TextValue (codes "quick fox quick") ∷ NumberValue (Fits (pos 0)) ∷ []))
unfolding encode
row = refl

row_of_columns : read (codes "INSERT INTO docs (id, price) VALUES (- 7, -9223372036854775808)")
    ≡ Found (Insert (codes "docs") (Some (codes "id" ∷ codes "price" ∷ [])) (NumberValue (Fits (negsuc 6)) ∷ NumberValue (Fits (negsuc 9223372036854775807)) ∷ []))
row_of_columns = refl

new_values : read (codes "UPDATE docs SET body = 'fox', price = -1 WHERE id BETWEEN 1 AND 2 AND price > 5")
    ≡ Found (Update (codes "docs") (assign_to (codes "body") (TextValue (codes "fox")) ∷ assign_to (codes "price") (NumberValue (Fits (negsuc 0))) ∷ [])
    (Between (codes "id") (NumberValue (Fits (pos 1))) (NumberValue (Fits (pos 2))) ∷ Compare (codes "price") Greater (NumberValue (Fits (pos 5))) ∷ []))
unfolding encode
new_values = refl

rows_deleted : read (codes "DELETE FROM docs WHERE id IN (1, 'x')")
    ≡ Found (Delete (codes "docs") (OneOf (codes "id") (NumberValue (Fits (pos 1)) ∷ TextValue (codes "x") ∷ []) ∷ []))
unfolding encode
rows_deleted = refl

deleted_without_from : read (codes "DELETE docs WHERE id = 1") ≡ Found (Delete (codes "docs") (Compare (codes "id") Equal (NumberValue (Fits (pos 1))) ∷ []))
deleted_without_from = refl

all_deleted : read (codes "DELETE docs") ≡ Found (Delete (codes "docs") [])
all_deleted = refl

no_condition : read (codes "DELETE FROM docs WHERE") ≡ NoStatement
no_condition = refl

scores : read (codes "SELECT id, SCORE(1) FROM docs WHERE CONTAINS(body,'quick',1) > 0")
    ≡ Found (Select (Items (Column (codes "id") ∷ Score (Fits (pos 1)) ∷ [])) (codes "docs") (Contains (codes "body") (codes "quick") (Some (Fits (pos 1))) (Fits (pos 0)) ∷ []) [])
unfolding encode
scores = refl

all_columns : read (codes "SELECT * FROM docs") ≡ Found (Select AllColumns (codes "docs") [] [])
all_columns = refl

row_count : read (codes "SELECT COUNT(*) FROM docs WHERE price >= 5") ≡ Found (Select CountAll (codes "docs") (Cond (Compare (codes "price") AtLeast (NumberValue (Fits (pos 5)))) ∷ []) [])
row_count = refl

beside_a_search : read (codes "SELECT id FROM docs WHERE price < 5 AND CONTAINS(body,'quick') > 0")
    ≡ Found (Select (Items (Column (codes "id") ∷ [])) (codes "docs")
    (Cond (Compare (codes "price") Less (NumberValue (Fits (pos 5)))) ∷ Contains (codes "body") (codes "quick") None (Fits (pos 0)) ∷ []) [])
unfolding encode
beside_a_search = refl

behind_a_search : read (codes "SELECT id FROM docs WHERE CONTAINS(body,'quick') > 0 AND price <= 5")
    ≡ Found (Select (Items (Column (codes "id") ∷ [])) (codes "docs")
    (Contains (codes "body") (codes "quick") None (Fits (pos 0)) ∷ Cond (Compare (codes "price") AtMost (NumberValue (Fits (pos 5)))) ∷ []) [])
unfolding encode
behind_a_search = refl

two_searches : read (codes "SELECT id FROM docs WHERE CONTAINS(body,'quick') > 0 AND CONTAINS(body,'fox') > 0") ≡ NoStatement
unfolding encode
two_searches = refl

rules_that_match : read (codes "SELECT name FROM desks WHERE MATCHES(rule,'a storm') > 0")
    ≡ Found (Select (Items (Column (codes "name") ∷ [])) (codes "desks") (Matches (codes "rule") (codes "a storm") ∷ []) [])
unfolding encode
rules_that_match = refl

in_a_catalogue : read (codes "SELECT id FROM docs WHERE CATSEARCH(body,'quick',NULL) > 0 AND id < 5")
    ≡ Found (Select (Items (Column (codes "id") ∷ [])) (codes "docs")
    (Catsearch (codes "body") (codes "quick") None ∷ Cond (Compare (codes "id") Less (NumberValue (Fits (pos 5)))) ∷ []) [])
unfolding encode
in_a_catalogue = refl

two_kinds_of_searches : read (codes "SELECT id FROM docs WHERE CATSEARCH(body,'quick',NULL) > 0 AND CONTAINS(body,'fox') > 0") ≡ NoStatement
unfolding encode
two_kinds_of_searches = refl

in_order : read (codes "SELECT id FROM docs ORDER BY price desc, id ASC")
    ≡ Found (Select (Items (Column (codes "id") ∷ [])) (codes "docs") [] (order_item (Column (codes "price")) true ∷ order_item (Column (codes "id")) false ∷ []))
in_order = refl

a_search_in_order : read (codes "SELECT * FROM docs WHERE CONTAINS(body,'quick',1) > 0 ORDER BY score(1), id")
    ≡ Found (Select AllColumns (codes "docs") (Contains (codes "body") (codes "quick") (Some (Fits (pos 1))) (Fits (pos 0)) ∷ [])
    (order_item (Score (Fits (pos 1))) false ∷ order_item (Column (codes "id")) false ∷ []))
unfolding encode
a_search_in_order = refl

order_before_where : read (codes "SELECT id FROM docs ORDER BY id WHERE id < 5") ≡ NoStatement
order_before_where = refl

tokens_of : read (codes "exec\n CTX_DOC . Policy_Tokens ( 'some text' ) -- done") ≡ Found (Exec PolicyTokens (TextArg (codes "some text") ∷ []))
unfolding encode
tokens_of = refl

two_arguments : read (codes "EXECUTE ctx_doc.policy_tokens('a', 'b')") ≡ Found (Exec PolicyTokens (TextArg (codes "a") ∷ TextArg (codes "b") ∷ []))
unfolding encode
two_arguments = refl

no_procedure : read (codes "EXEC ctx_doc.sync_index('di')") ≡ NoStatement
unfolding encode
no_procedure = refl

other_arguments : read (codes "EXEC ctx_doc.policy_tokens(-5, TRUE, 99999999999999999999)")
    ≡ Found (Exec PolicyTokens (NumberArg (Fits (negsuc 4)) ∷ Flag true ∷ NumberArg Beyond ∷ []))
other_arguments = refl

sync : read (codes "EXEC CTX_DDL.SYNC_INDEX('di')") ≡ Found (Exec SyncIndex (TextArg (codes "di") ∷ []))
unfolding encode
sync = refl

commit : read (codes "COMMIT -- now") ≡ Found Commit
commit = refl

commit_of_what : read (codes "COMMIT docs") ≡ NoStatement
commit_of_what = refl

note : read (codes "  -- note\n") ≡ Blank
note = refl

half_a_word : read (codes "SELEC") ≡ NoStatement
half_a_word = refl
