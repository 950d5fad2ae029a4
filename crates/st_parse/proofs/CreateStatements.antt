-- CREATE TABLE and CREATE INDEX are read as they are spelt.
use Rattle.std.proofs.Common.{◌≡◌, ℕ, Bool, true, false, List, [], ◌∷◌, ◌++◌, refl, sym, ap, ◌∙◌, append_assoc, inl, inr, Option, Some, None}
use Rattle.st_parse.specs.declared.lexemes.Keyword.TheVariants.{Create as CREATE, Table as TABLE, Index as INDEX, On as ON, Indextype as INDEXTYPE, Is as IS, Ctxsys as CTXSYS, Parameters as PARAMETERS, Parallel as PARALLEL, Context as CONTEXT, Ctxcat as CTXCAT, Ctxrule as CTXRULE, Number as NUMBER, Varchar2 as VARCHAR2, Clob as CLOB, Primary as PRIMARY, Key as KEY, From as FROM, Where as WHERE, And as AND, Order as ORDER}
use Rattle.st_parse.specs.declared.lexemes.Symbol.TheVariants.{Open, Close, Comma, Dot}
use Rattle.st_parse.specs.declared.lexemes.Lexeme.{Lexeme}
use Rattle.st_parse.specs.declared.lexemes.Lexeme.TheVariants.{Word, Name, Number, Text, Sign}
use Rattle.st_parse.specs.declared.statements.Whole.{Whole}
use Rattle.st_parse.specs.declared.statements.SortText.{SortText}
use Rattle.st_parse.specs.declared.statements.SortText.TheVariants.{Number as NumberSort, Varchar2, Clob}
use Rattle.st_parse.specs.declared.statements.ColumnText.{ColumnText}
use Rattle.st_parse.specs.declared.statements.IndexKind.{IndexKind}
use Rattle.st_parse.specs.declared.statements.IndexKind.TheVariants.{Context, Ctxcat, Ctxrule}
use Rattle.st_parse.specs.declared.statements.Statement.{Statement}
use Rattle.st_parse.specs.declared.statements.Statement.TheVariants.{CreateTable, CreateIndex}
use Rattle.st_parse.specs.Lexemes.{◌>>=◌}
use Rattle.st_parse.specs.Lists.{AreEnclosed, enclosed_last}
use Rattle.st_parse.specs.Creating.{IsSortText, primary_key, IsColumn, IsPlainKind, IsIndexKind, sort_text_at, primary_key_at, column_text, column_at, IsParameters, IsParallel, plain_kind_at, kind_at, index_kind_at, enclosed_text_at, parameters_at, parallel_of, create_table_of, create_index_of, index_on_of, create_of}
use Rattle.st_parse.specs.Grammar.{IsStatement}
use Rattle.st_parse.proofs.Spelt.{Spelt, Follows, Wholly, enclosed_last-spelt, enclosed_last-again}

sort-spelt : (ls : List Lexeme) → Spelt IsSortText (sort_text_at ls) ls
sort-spelt (Word NUMBER ∷ ls) = (Word NUMBER ∷ [], refl, refl)
sort-spelt (Word VARCHAR2 ∷ Sign Open ∷ Number digits ∷ Sign Close ∷ ls) =
    (Word VARCHAR2 ∷ Sign Open ∷ Number digits ∷ Sign Close ∷ [], (digits, refl, refl), refl)
sort-spelt (Word CLOB ∷ ls) = (Word CLOB ∷ [], refl, refl)
sort-spelt ls = tt

key-spelt : (ls : List Lexeme) → ls ≡ primary_key (primary_key_at ls).0 ++ (primary_key_at ls).1
key-spelt (Word PRIMARY ∷ Word KEY ∷ ls) = refl
key-spelt ls = refl

sorted-spelt : (name : List ℕ) (o : Option (SortText × List Lexeme)) (ls : List Lexeme) → Spelt IsSortText o ls
    → Spelt IsColumn (o >>= λ sort. Some (column_text name sort.0 (primary_key_at sort.1))) (Name name ∷ ls)
sorted-spelt name None ls is = tt
sorted-spelt name (Some (sort, rest)) ls (prefix, is, e) =
    let found = primary_key_at rest in
    (Name name ∷ (prefix ++ primary_key found.0), (prefix, is, refl), ap (λ x. Name name ∷ x) (e ∙ ap (λ x. prefix ++ x) (key-spelt rest) ∙ sym (append_assoc prefix (primary_key found.0) found.1)))

column-spelt : (ls : List Lexeme) → Spelt IsColumn (column_at ls) ls
column-spelt (Name name ∷ ls) = sorted-spelt name (sort_text_at ls) ls (sort-spelt ls)
column-spelt ls = tt

sort-again : (prefix rest : List Lexeme) (sort : SortText) → IsSortText prefix sort → sort_text_at (prefix ++ rest) ≡ Some (sort, rest)
sort-again prefix rest NumberSort e = ap (λ x. sort_text_at (x ++ rest)) e
sort-again prefix rest (Varchar2 size) (digits, value, e) = ap (λ x. sort_text_at (x ++ rest)) e ∙ ap (λ x. Some (Varchar2 x, rest)) (sym value)
sort-again prefix rest Clob e = ap (λ x. sort_text_at (x ++ rest)) e

key-again : (primary : Bool) (rest : List Lexeme) → Follows rest → primary_key_at (primary_key primary ++ rest) ≡ (primary, rest)
key-again true rest follows = refl
key-again false [] follows = refl
key-again false (Sign Comma ∷ rest) follows = refl
key-again false (Sign Close ∷ rest) follows = refl
key-again false (Word FROM ∷ rest) follows = refl
key-again false (Word WHERE ∷ rest) follows = refl
key-again false (Word AND ∷ rest) follows = refl
key-again false (Word ORDER ∷ rest) follows = refl
key-again false rest follows = absurd follows

column-again : (prefix rest : List Lexeme) (column : ColumnText) → IsColumn prefix column → Follows rest → column_at (prefix ++ rest) ≡ Some (column, rest)
column-again prefix rest column (sort, is, e) follows =
    ap (λ x. column_at (x ++ rest)) e
    ∙ ap (λ x. column_at (Name column.name ∷ x)) (append_assoc sort (primary_key column.primary) rest)
    ∙ ap (λ o. o >>= λ s. Some (column_text column.name s.0 (primary_key_at s.1))) (sort-again sort (primary_key column.primary ++ rest) column.sort is)
    ∙ ap (λ k. Some (column_text column.name column.sort k)) (key-again column.primary rest follows)

-- a type of index behind the words before it
abbrev IsTyped : List Lexeme → IndexKind → Type 0
IsTyped ls kind = (kinds : List Lexeme) × IsIndexKind kinds kind × (ls ≡ Word INDEXTYPE ∷ Word IS ∷ kinds)

plain-spelt : (ls : List Lexeme) → Spelt IsPlainKind (plain_kind_at ls) ls
plain-spelt (Word CONTEXT ∷ ls) = (Word CONTEXT ∷ [], refl, refl)
plain-spelt (Word CTXCAT ∷ ls) = (Word CTXCAT ∷ [], refl, refl)
plain-spelt (Word CTXRULE ∷ ls) = (Word CTXRULE ∷ [], refl, refl)
plain-spelt ls = tt

bare-spelt : (o : Option (IndexKind × List Lexeme)) (ls : List Lexeme) → Spelt IsPlainKind o ls → Spelt IsTyped o (Word INDEXTYPE ∷ Word IS ∷ ls)
bare-spelt None ls is = tt
bare-spelt (Some (kind, rest)) ls (plain, is, e) = (Word INDEXTYPE ∷ Word IS ∷ plain, (plain, inl is, refl), ap (λ x. Word INDEXTYPE ∷ Word IS ∷ x) e)

owned-spelt : (o : Option (IndexKind × List Lexeme)) (ls : List Lexeme) → Spelt IsPlainKind o ls → Spelt IsTyped o (Word INDEXTYPE ∷ Word IS ∷ Word CTXSYS ∷ Sign Dot ∷ ls)
owned-spelt None ls is = tt
owned-spelt (Some (kind, rest)) ls (plain, is, e) =
    (Word INDEXTYPE ∷ Word IS ∷ Word CTXSYS ∷ Sign Dot ∷ plain, (Word CTXSYS ∷ Sign Dot ∷ plain, inr (plain, is, refl), refl), ap (λ x. Word INDEXTYPE ∷ Word IS ∷ Word CTXSYS ∷ Sign Dot ∷ x) e)

typed-spelt : (ls : List Lexeme) → Spelt IsTyped (kind_at ls) (Word INDEXTYPE ∷ Word IS ∷ ls)
typed-spelt (Word CTXSYS ∷ Sign Dot ∷ ls) = owned-spelt (plain_kind_at ls) ls (plain-spelt ls)
typed-spelt ls = bare-spelt (plain_kind_at ls) ls (plain-spelt ls)

kind-spelt : (ls : List Lexeme) → Spelt IsTyped (index_kind_at ls) ls
kind-spelt (Word INDEXTYPE ∷ Word IS ∷ ls) = typed-spelt ls
kind-spelt ls = tt

plain-again : (kinds rest : List Lexeme) (kind : IndexKind) → IsPlainKind kinds kind → plain_kind_at (kinds ++ rest) ≡ Some (kind, rest)
plain-again kinds rest Context e = ap (λ x. plain_kind_at (x ++ rest)) e
plain-again kinds rest Ctxcat e = ap (λ x. plain_kind_at (x ++ rest)) e
plain-again kinds rest Ctxrule e = ap (λ x. plain_kind_at (x ++ rest)) e

-- a type of index begins with no owner
bare-again : (kinds rest : List Lexeme) (kind : IndexKind) → IsPlainKind kinds kind → kind_at (kinds ++ rest) ≡ Some (kind, rest)
bare-again kinds rest Context e = ap (λ x. kind_at (x ++ rest)) e
bare-again kinds rest Ctxcat e = ap (λ x. kind_at (x ++ rest)) e
bare-again kinds rest Ctxrule e = ap (λ x. kind_at (x ++ rest)) e

kind-again : (kinds rest : List Lexeme) (kind : IndexKind) → IsIndexKind kinds kind → index_kind_at (Word INDEXTYPE ∷ Word IS ∷ (kinds ++ rest)) ≡ Some (kind, rest)
kind-again kinds rest kind (inl is) = bare-again kinds rest kind is
kind-again kinds rest kind (inr (plain, is, e)) = ap (λ x. kind_at (x ++ rest)) e ∙ plain-again plain rest kind is

enclosed-spelt : (ls : List Lexeme) → Spelt IsParameters (enclosed_text_at ls) (Word PARAMETERS ∷ ls)
enclosed-spelt (Sign Open ∷ Text text ∷ Sign Close ∷ ls) = (Word PARAMETERS ∷ Sign Open ∷ Text text ∷ Sign Close ∷ [], refl, refl)
enclosed-spelt ls = tt

parameters-spelt : (ls : List Lexeme) → Spelt IsParameters (parameters_at ls) ls
parameters-spelt (Word PARAMETERS ∷ ls) = enclosed-spelt ls
parameters-spelt ls = ([], refl, refl)

-- no PARAMETERS stand before a PARALLEL
none-again : (degrees : List Lexeme) (parallel : Option Whole) → IsParallel degrees parallel → parameters_at degrees ≡ Some (None, degrees)
none-again degrees None is = ap parameters_at is ∙ ap (λ x. Some (None, x)) (sym is)
none-again degrees (Some degree) (digits, value, is) = ap parameters_at is ∙ ap (λ x. Some (None, x)) (sym is)

parameters-again : (texts degrees : List Lexeme) (parameters : Option (List ℕ)) (parallel : Option Whole) → IsParameters texts parameters → IsParallel degrees parallel
    → parameters_at (texts ++ degrees) ≡ Some (parameters, degrees)
parameters-again texts degrees None parallel is degree = ap (λ x. parameters_at (x ++ degrees)) is ∙ none-again degrees parallel degree
parameters-again texts degrees (Some text) parallel is degree = ap (λ x. parameters_at (x ++ degrees)) is

parallel-spelt : (ls : List Lexeme) → Wholly IsParallel (parallel_of ls) ls
parallel-spelt [] = refl
parallel-spelt (Word PARALLEL ∷ Number digits ∷ []) = (digits, refl, refl)
parallel-spelt ls = tt

parallel-again : (degrees : List Lexeme) (parallel : Option Whole) → IsParallel degrees parallel → parallel_of degrees ≡ Some parallel
parallel-again degrees None is = ap parallel_of is
parallel-again degrees (Some degree) (digits, value, is) = ap parallel_of is ∙ ap (λ x. Some (Some x)) (sym value)

table-means : (name : List ℕ) (o : Option (List ColumnText)) (ls : List Lexeme) → Wholly (AreEnclosed IsColumn) o ls
    → Wholly IsStatement (o >>= λ columns. Some (CreateTable name columns)) (Word CREATE ∷ Word TABLE ∷ Name name ∷ ls)
table-means name None ls are = tt
table-means name (Some columns) ls are = (ls, are, refl)

-- the lexemes of a statement that makes an index, up to its type
abbrev index_lexemes : List ℕ → List ℕ → List ℕ → List Lexeme → List Lexeme
index_lexemes name table column ls = Word CREATE ∷ Word INDEX ∷ Name name ∷ Word ON ∷ Name table ∷ Sign Open ∷ Name column ∷ Sign Close ∷ ls

-- the index of a column, by its type, its parameters and what is read of its degree
abbrev indexed : List ℕ → List ℕ → List ℕ → IndexKind → Option (List ℕ) → Option (Option Whole) → Option Statement
indexed name table column kind parameters o = o >>= λ parallel. Some (CreateIndex name table column kind parameters parallel)

-- the same by its type and what is read of its parameters
abbrev asked : List ℕ → List ℕ → List ℕ → IndexKind → Option (Option (List ℕ) × List Lexeme) → Option Statement
asked name table column kind o = o >>= λ parameters. indexed name table column kind parameters.0 (parallel_of parameters.1)

indexed-means : (name table column : List ℕ) (kind : IndexKind) (parameters : Option (List ℕ)) (o : Option (Option Whole)) (kinds texts degrees ls : List Lexeme)
    → IsIndexKind kinds kind → IsParameters texts parameters → Wholly IsParallel o degrees → ls ≡ Word INDEXTYPE ∷ Word IS ∷ (kinds ++ (texts ++ degrees))
    → Wholly IsStatement (indexed name table column kind parameters o) (index_lexemes name table column ls)
indexed-means name table column kind parameters None kinds texts degrees ls is are degree e = tt
indexed-means name table column kind parameters (Some parallel) kinds texts degrees ls is are degree e =
    (kinds, texts, degrees, is, are, degree, ap (index_lexemes name table column) e)

asked-means : (name table column : List ℕ) (kind : IndexKind) (o : Option (Option (List ℕ) × List Lexeme)) (kinds rest ls : List Lexeme)
    → IsIndexKind kinds kind → Spelt IsParameters o rest → ls ≡ Word INDEXTYPE ∷ Word IS ∷ (kinds ++ rest)
    → Wholly IsStatement (asked name table column kind o) (index_lexemes name table column ls)
asked-means name table column kind None kinds rest ls is are e = tt
asked-means name table column kind (Some (parameters, degrees)) kinds rest ls is (texts, are, texted) e =
    indexed-means name table column kind parameters (parallel_of degrees) kinds texts degrees ls is are (parallel-spelt degrees)
    (e ∙ ap (λ x. Word INDEXTYPE ∷ Word IS ∷ (kinds ++ x)) texted)

index-means : (name table column : List ℕ) (o : Option (IndexKind × List Lexeme)) (ls : List Lexeme) → Spelt IsTyped o ls
    → Wholly IsStatement (o >>= λ kind. asked name table column kind.0 (parameters_at kind.1)) (index_lexemes name table column ls)
index-means name table column None ls is = tt
index-means name table column (Some (kind, rest)) ls (prefix, (kinds, is, typed), e) =
    asked-means name table column kind (parameters_at rest) kinds rest ls is (parameters-spelt rest) (e ∙ ap (λ x. x ++ rest) typed)

create_table-means : (ls : List Lexeme) → Wholly IsStatement (create_table_of ls) (Word CREATE ∷ Word TABLE ∷ ls)
create_table-means (Name name ∷ ls) = table-means name (enclosed_last column_at ls) ls (enclosed_last-spelt IsColumn column_at column-spelt ls)
create_table-means ls = tt

index_on-means : (name table : List ℕ) (ls : List Lexeme) → Wholly IsStatement (index_on_of name table ls) (Word CREATE ∷ Word INDEX ∷ Name name ∷ Word ON ∷ Name table ∷ ls)
index_on-means name table (Sign Open ∷ Name column ∷ Sign Close ∷ ls) = index-means name table column (index_kind_at ls) ls (kind-spelt ls)
index_on-means name table ls = tt

create_index-means : (ls : List Lexeme) → Wholly IsStatement (create_index_of ls) (Word CREATE ∷ Word INDEX ∷ ls)
create_index-means (Name name ∷ Word ON ∷ Name table ∷ ls) = index_on-means name table ls
create_index-means ls = tt

pub create-means : (ls : List Lexeme) → Wholly IsStatement (create_of ls) (Word CREATE ∷ ls)
create-means (Word TABLE ∷ ls) = create_table-means ls
create-means (Word INDEX ∷ ls) = create_index-means ls
create-means ls = tt

pub table-again : (name : List ℕ) (columns : List ColumnText) (list : List Lexeme) → AreEnclosed IsColumn list columns
    → create_of (Word TABLE ∷ Name name ∷ list) ≡ Some (CreateTable name columns)
table-again name columns list are =
    ap (λ o. o >>= λ found. Some (CreateTable name found)) (enclosed_last-again IsColumn column_at column-again list columns are)

pub index-again : (name table column : List ℕ) (kind : IndexKind) (parameters : Option (List ℕ)) (parallel : Option Whole) (kinds texts degrees : List Lexeme)
    → IsIndexKind kinds kind → IsParameters texts parameters → IsParallel degrees parallel
    → create_of (Word INDEX ∷ Name name ∷ Word ON ∷ Name table ∷ Sign Open ∷ Name column ∷ Sign Close ∷ Word INDEXTYPE ∷ Word IS ∷ (kinds ++ (texts ++ degrees)))
    ≡ Some (CreateIndex name table column kind parameters parallel)
index-again name table column kind parameters parallel kinds texts degrees is are degree =
    ap (λ o. o >>= λ found. asked name table column found.0 (parameters_at found.1)) (kind-again kinds (texts ++ degrees) kind is)
    ∙ ap (asked name table column kind) (parameters-again texts degrees parameters parallel are degree)
    ∙ ap (indexed name table column kind parameters) (parallel-again degrees parallel degree)
