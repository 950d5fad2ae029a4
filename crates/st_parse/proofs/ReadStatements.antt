-- The function that reads a statement, and the relation between lexemes and statements, are the same.
use Rattle.std.proofs.Common.{◌≡◌, ℕ, inl, inr, List, [], ◌∷◌, refl, sym, ap, ◌∙◌, subst, Option, Some, None}
use Rattle.std.specs.Prelude.{◌≢◌, Result, Ok, Err, IsErrOf}
use Rattle.st_parse.specs.declared.lexemes.Keyword.{Keyword}
use Rattle.st_parse.specs.declared.lexemes.Keyword.TheVariants.{Create as CREATE, Table as TABLE, Drop as DROP, Index as INDEX, Insert as INSERT, Update as UPDATE, Delete as DELETE, Select as SELECT, Exec as EXEC, Execute as EXECUTE, Commit as COMMIT}
use Rattle.st_parse.specs.declared.lexemes.Symbol.TheVariants.{Dot}
use Rattle.st_parse.specs.declared.lexemes.Lexeme.{Lexeme}
use Rattle.st_parse.specs.declared.lexemes.Lexeme.TheVariants.{Word, Name, Sign}
use Rattle.st_parse.specs.declared.statements.Statement.{Statement}
use Rattle.st_parse.specs.declared.statements.Statement.TheVariants.{CreateTable, DropTable, DropIndex, CreateIndex, Insert, Update, Delete, Select, Exec, Commit}
use Rattle.st_parse.specs.declared.parsing.StatementFault.{StatementFault}
use Rattle.st_parse.specs.declared.parsing.StatementFault.TheVariants.{Syntax, Memory}
use Rattle.st_parse.specs.Lexemes.{lexemes}
use Rattle.st_parse.specs.Dropping.{drop_of}
use Rattle.st_parse.specs.Procedures.{procedure_package, procedure_name}
use Rattle.st_parse.specs.Calling.{IsExec, exec_of}
use Rattle.st_parse.specs.Grammar.{IsStatement, statement_of, NoStatement, Found, statement_read, read_lexemes, read, ParseGives}
use Rattle.st_parse.proofs.Spelt.{Wholly}
use Rattle.st_parse.proofs.CreateStatements.{create-means, table-again, index-again}
use Rattle.st_parse.proofs.InsertStatements.{insert-means, insert-again}
use Rattle.st_parse.proofs.UpdateStatements.{update-means, update-again}
use Rattle.st_parse.proofs.DeleteStatements.{delete-means, delete-again}
use Rattle.st_parse.proofs.SelectStatements.{select-means, select-again}
use Rattle.st_parse.proofs.ExecStatements.{exec-means, exec-again}

drop-means : (ls : List Lexeme) → Wholly IsStatement (drop_of ls) (Word DROP ∷ ls)
drop-means (Word TABLE ∷ Name name ∷ []) = refl
drop-means (Word INDEX ∷ Name name ∷ []) = refl
drop-means ls = tt

pub statement-means : (ls : List Lexeme) → Wholly IsStatement (statement_of ls) ls
statement-means (Word CREATE ∷ ls) = create-means ls
statement-means (Word DROP ∷ ls) = drop-means ls
statement-means (Word INSERT ∷ ls) = insert-means ls
statement-means (Word UPDATE ∷ ls) = update-means ls
statement-means (Word DELETE ∷ ls) = delete-means ls
statement-means (Word SELECT ∷ ls) = select-means ls
statement-means (Word EXEC ∷ ls) = exec-means EXEC ls (inl refl)
statement-means (Word EXECUTE ∷ ls) = exec-means EXECUTE ls (inr refl)
statement-means (Word COMMIT ∷ []) = refl
statement-means ls = tt

exec-first : (word : Keyword) (ls : List Lexeme) → IsExec word → statement_of (Word word ∷ ls) ≡ exec_of ls
exec-first word ls (inl e) = ap (λ w. statement_of (Word w ∷ ls)) e
exec-first word ls (inr e) = ap (λ w. statement_of (Word w ∷ ls)) e

pub statement-again : (ls : List Lexeme) (s : Statement) → IsStatement ls s → statement_of ls ≡ Some s
statement-again ls (CreateTable name columns) (list, are, e) = ap statement_of e ∙ table-again name columns list are
statement-again ls (DropTable name) e = ap statement_of e
statement-again ls (DropIndex name) e = ap statement_of e
statement-again ls (CreateIndex name table column kind parameters parallel) (kinds, texts, degrees, is, are, degree, e) =
    ap statement_of e ∙ index-again name table column kind parameters parallel kinds texts degrees is are degree
statement-again ls (Insert table columns values) (names, list, are, are', e) = ap statement_of e ∙ insert-again table columns values names list are are'
statement-again ls (Update table assigns conds) (list, filter, are, is, e) = ap statement_of e ∙ update-again table assigns conds list filter are is
statement-again ls (Delete table conds) (from, filter, is, are, e) = ap statement_of e ∙ delete-again table conds from filter is are
statement-again ls (Select list table preds orders) (columns, filter, order, is, are, sorts, few, e) =
    ap statement_of e ∙ select-again list table preds orders columns filter order is are sorts few
statement-again ls (Exec procedure args) (word, (list, is, are, e)) =
    ap statement_of e ∙ exec-first word (Name (procedure_package procedure) ∷ Sign Dot ∷ Name (procedure_name procedure) ∷ list) is ∙ exec-again procedure args list are
statement-again ls Commit e = ap statement_of e

-- both ways
pub statement-read : (ls : List Lexeme) (s : Statement) → (IsStatement ls s → statement_of ls ≡ Some s) × (statement_of ls ≡ Some s → IsStatement ls s)
statement-read ls s = (statement-again ls s, λ read. subst (λ x. Wholly IsStatement x ls) read (statement-means ls))

-- a statement that was found is what the lexemes are
found-some : (o : Option Statement) (s : Statement) → statement_read o ≡ Found s → o ≡ Some s
found-some None s is = cc
found-some (Some t) s is = cc

found-none : (o : Option Statement) → statement_read o ≡ NoStatement → o ≡ None
found-none None is = refl
found-none (Some t) is = cc

pub statement-in : (o : Option (List Lexeme)) (s : Statement) → read_lexemes o ≡ Found s → (ls : List Lexeme) × (o ≡ Some ls) × IsStatement ls s
statement-in None s is = cc
statement-in (Some []) s is = cc
statement-in (Some (l ∷ ls)) s is = let read = statement-read (l ∷ ls) s in (l ∷ ls, refl, read.1 (found-some (statement_of (l ∷ ls)) s is))

-- lexemes that are neither none nor a statement
abbrev pub IsRefused : List Lexeme → Type 0
IsRefused ls = (ls ≢ []) × ((s : Statement) → ¬ (IsStatement ls s))

refused-lexemes : (ls : List Lexeme) → read_lexemes (Some ls) ≡ NoStatement → IsRefused ls
refused-lexemes [] is = cc
refused-lexemes (l ∷ ls) is = (λ e. cc, λ s statement. differ s (sym (statement-again (l ∷ ls) s statement) ∙ found-none (statement_of (l ∷ ls)) is))
  where
    differ : (s : Statement) → Some s ≡ None → ⊥
    differ s e = cc

pub refused : (r : Result (Option Statement) StatementFault) (text : List ℕ) → ParseGives r (read text) → IsErrOf r Syntax → (ls : List Lexeme)
    → lexemes text ≡ Some ls → IsRefused ls
refused (Ok None) text gives is ls lexed = cc
refused (Ok (Some s)) text gives is ls lexed = cc
refused (Err Syntax) text gives is ls lexed = refused-lexemes ls (sym (ap read_lexemes lexed) ∙ gives)
refused (Err Memory) text gives is ls lexed = cc
