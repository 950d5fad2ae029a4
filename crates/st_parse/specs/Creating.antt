-- CREATE TABLE and CREATE INDEX, as they are spelt and as they are read.
use Rattle.std.specs.Prelude.{ℕ, ◌≡◌, ◌⊎◌, Bool, true, false, pos, List, [], ◌∷◌, ◌++◌, codes, Option, Some, None, refl}
use Rattle.st_parse.specs.declared.lexemes.Keyword.TheVariants.{Table as TABLE, Index as INDEX, On as ON, Indextype as INDEXTYPE, Is as IS, Ctxsys as CTXSYS, Parameters as PARAMETERS, Parallel as PARALLEL, Context as CONTEXT, Ctxcat as CTXCAT, Ctxrule as CTXRULE, Number as NUMBER, Varchar2 as VARCHAR2, Clob as CLOB, Primary as PRIMARY, Key as KEY}
use Rattle.st_parse.specs.declared.lexemes.Symbol.TheVariants.{Open, Close, Comma, Dot}
use Rattle.st_parse.specs.declared.lexemes.Lexeme.{Lexeme}
use Rattle.st_parse.specs.declared.lexemes.Lexeme.TheVariants.{Word, Name, Number, Text, Sign}
use Rattle.st_parse.specs.declared.statements.Whole.{Whole}
use Rattle.st_parse.specs.declared.statements.Whole.TheVariants.{Fits, Beyond}
use Rattle.st_parse.specs.declared.statements.SortText.{SortText}
use Rattle.st_parse.specs.declared.statements.SortText.TheVariants.{Number as NumberSort, Varchar2, Clob}
use Rattle.st_parse.specs.declared.statements.ColumnText.{ColumnText}
use Rattle.st_parse.specs.declared.statements.IndexKind.{IndexKind}
use Rattle.st_parse.specs.declared.statements.IndexKind.TheVariants.{Context, Ctxcat, Ctxrule}
use Rattle.st_parse.specs.declared.statements.Statement.{Statement}
use Rattle.st_parse.specs.declared.statements.Statement.TheVariants.{CreateTable, CreateIndex}
use Rattle.st_parse.specs.Lexemes.{◌>>=◌}
use Rattle.st_parse.specs.Numbers.{number}
use Rattle.st_parse.specs.Lists.{Reader, enclosed_last}

-- These lexemes are this type of a column.
abbrev pub IsSortText : List Lexeme → SortText → Type 0
IsSortText ls NumberSort = ls ≡ Word NUMBER ∷ []
IsSortText ls (Varchar2 size) = (digits : List ℕ) × (size ≡ number digits) × (ls ≡ Word VARCHAR2 ∷ Sign Open ∷ Number digits ∷ Sign Close ∷ [])
IsSortText ls Clob = ls ≡ Word CLOB ∷ []

-- what calls a column the primary key
abbrev pub primary_key : Bool → List Lexeme
primary_key true = Word PRIMARY ∷ Word KEY ∷ []
primary_key false = []

abbrev pub IsColumn : List Lexeme → ColumnText → Type 0
IsColumn ls column = (sort : List Lexeme) × IsSortText sort column.sort × (ls ≡ Name column.name ∷ (sort ++ primary_key column.primary))

-- the type of an index without its owner, and the same with its owner or without
abbrev pub IsPlainKind : List Lexeme → IndexKind → Type 0
IsPlainKind ls Context = ls ≡ Word CONTEXT ∷ []
IsPlainKind ls Ctxcat = ls ≡ Word CTXCAT ∷ []
IsPlainKind ls Ctxrule = ls ≡ Word CTXRULE ∷ []

abbrev pub IsIndexKind : List Lexeme → IndexKind → Type 0
IsIndexKind ls kind = IsPlainKind ls kind ⊎ ((plain : List Lexeme) × IsPlainKind plain kind × (ls ≡ Word CTXSYS ∷ Sign Dot ∷ plain))

-- the text of PARAMETERS, where the statement has one
abbrev pub IsParameters : List Lexeme → Option (List ℕ) → Type 0
IsParameters ls None = ls ≡ []
IsParameters ls (Some text) = ls ≡ Word PARAMETERS ∷ Sign Open ∷ Text text ∷ Sign Close ∷ []

-- the number of PARALLEL, where the statement has one
abbrev pub IsParallel : List Lexeme → Option Whole → Type 0
IsParallel ls None = ls ≡ []
IsParallel ls (Some degree) = (digits : List ℕ) × (degree ≡ number digits) × (ls ≡ Word PARALLEL ∷ Number digits ∷ [])

-- The same as functions.
abbrev pub sort_text_at : Reader SortText
sort_text_at (Word NUMBER ∷ ls) = Some (NumberSort, ls)
sort_text_at (Word VARCHAR2 ∷ Sign Open ∷ Number digits ∷ Sign Close ∷ ls) = Some (Varchar2 (number digits), ls)
sort_text_at (Word CLOB ∷ ls) = Some (Clob, ls)
sort_text_at ls = None

abbrev pub primary_key_at : List Lexeme → Bool × List Lexeme
primary_key_at (Word PRIMARY ∷ Word KEY ∷ ls) = (true, ls)
primary_key_at ls = (false, ls)

abbrev pub column_text : List ℕ → SortText → Bool × List Lexeme → ColumnText × List Lexeme
column_text name sort key = (record { name = name; sort = sort; primary = key.0 }, key.1)

abbrev pub column_at : Reader ColumnText
column_at (Name name ∷ ls) = sort_text_at ls >>= λ sort. Some (column_text name sort.0 (primary_key_at sort.1))
column_at ls = None

abbrev pub plain_kind_at : Reader IndexKind
plain_kind_at (Word CONTEXT ∷ ls) = Some (Context, ls)
plain_kind_at (Word CTXCAT ∷ ls) = Some (Ctxcat, ls)
plain_kind_at (Word CTXRULE ∷ ls) = Some (Ctxrule, ls)
plain_kind_at ls = None

abbrev pub kind_at : Reader IndexKind
kind_at (Word CTXSYS ∷ Sign Dot ∷ ls) = plain_kind_at ls
kind_at ls = plain_kind_at ls

abbrev pub index_kind_at : Reader IndexKind
index_kind_at (Word INDEXTYPE ∷ Word IS ∷ ls) = kind_at ls
index_kind_at ls = None

abbrev pub enclosed_text_at : Reader (Option (List ℕ))
enclosed_text_at (Sign Open ∷ Text text ∷ Sign Close ∷ ls) = Some (Some text, ls)
enclosed_text_at ls = None

abbrev pub parameters_at : Reader (Option (List ℕ))
parameters_at (Word PARAMETERS ∷ ls) = enclosed_text_at ls
parameters_at ls = Some (None, ls)

abbrev pub parallel_of : List Lexeme → Option (Option Whole)
parallel_of [] = Some None
parallel_of (Word PARALLEL ∷ Number digits ∷ []) = Some (Some (number digits))
parallel_of ls = None

-- what follows CREATE TABLE, and what follows CREATE INDEX
abbrev pub create_table_of : List Lexeme → Option Statement
create_table_of (Name name ∷ ls) = enclosed_last column_at ls >>= λ columns. Some (CreateTable name columns)
create_table_of ls = None

abbrev pub index_of : List ℕ → List ℕ → List ℕ → List Lexeme → Option Statement
index_of name table column ls =
    index_kind_at ls >>= λ kind. parameters_at kind.1 >>= λ parameters. parallel_of parameters.1 >>= λ parallel. Some (CreateIndex name table column kind.0 parameters.0 parallel)

-- the index of a table, by what follows the table
abbrev pub index_on_of : List ℕ → List ℕ → List Lexeme → Option Statement
index_on_of name table (Sign Open ∷ Name column ∷ Sign Close ∷ ls) = index_of name table column ls
index_on_of name table ls = None

abbrev pub create_index_of : List Lexeme → Option Statement
create_index_of (Name name ∷ Word ON ∷ Name table ∷ ls) = index_on_of name table ls
create_index_of ls = None

-- what follows CREATE
abbrev pub create_of : List Lexeme → Option Statement
create_of (Word TABLE ∷ ls) = create_table_of ls
create_of (Word INDEX ∷ ls) = create_index_of ls
create_of ls = None

-- computed examples
the_key : column_at (Name (codes "id") ∷ Word NUMBER ∷ Word PRIMARY ∷ Word KEY ∷ Sign Close ∷ [])
    ≡ Some (record { name = codes "id"; sort = NumberSort; primary = true }, Sign Close ∷ [])
the_key = refl

a_short_text : column_at (Name (codes "title") ∷ Word VARCHAR2 ∷ Sign Open ∷ Number (codes "80") ∷ Sign Close ∷ Sign Close ∷ [])
    ≡ Some (record { name = codes "title"; sort = Varchar2 (Fits (pos 80)); primary = false }, Sign Close ∷ [])
a_short_text = refl

of_its_owner : index_kind_at (Word INDEXTYPE ∷ Word IS ∷ Word CTXSYS ∷ Sign Dot ∷ Word CONTEXT ∷ Word PARAMETERS ∷ []) ≡ Some (Context, Word PARAMETERS ∷ [])
of_its_owner = refl

a_catalogue : index_kind_at (Word INDEXTYPE ∷ Word IS ∷ Word CTXCAT ∷ []) ≡ Some (Ctxcat, [])
a_catalogue = refl

of_rules : index_kind_at (Word INDEXTYPE ∷ Word IS ∷ Word CTXSYS ∷ Sign Dot ∷ Word CTXRULE ∷ []) ≡ Some (Ctxrule, [])
of_rules = refl

owned_twice : kind_at (Word CTXSYS ∷ Sign Dot ∷ Word CTXSYS ∷ Sign Dot ∷ Word CTXCAT ∷ []) ≡ None
owned_twice = refl

a_stoplist : index_of (codes "i") (codes "t") (codes "a") (Word INDEXTYPE ∷ Word IS ∷ Word CONTEXT ∷ Word PARAMETERS ∷ Sign Open ∷ Text (codes "stoplist sl") ∷ Sign Close ∷ [])
    ≡ Some (CreateIndex (codes "i") (codes "t") (codes "a") Context (Some (codes "stoplist sl")) None)
a_stoplist = refl

no_text : parameters_at (Word PARAMETERS ∷ Sign Open ∷ Sign Close ∷ []) ≡ None
no_text = refl

on_four_threads : index_of (codes "i") (codes "t") (codes "a") (Word INDEXTYPE ∷ Word IS ∷ Word CONTEXT ∷ Word PARALLEL ∷ Number (codes "04") ∷ [])
    ≡ Some (CreateIndex (codes "i") (codes "t") (codes "a") Context None (Some (Fits (pos 4))))
on_four_threads = refl

no_number_of_threads : parallel_of (Word PARALLEL ∷ []) ≡ None
no_number_of_threads = refl

a_number_that_is_too_large : parallel_of (Word PARALLEL ∷ Number (codes "9223372036854775808") ∷ []) ≡ Some (Some Beyond)
a_number_that_is_too_large = refl

parameters_come_first : index_of (codes "i") (codes "t") (codes "a")
    (Word INDEXTYPE ∷ Word IS ∷ Word CONTEXT ∷ Word PARALLEL ∷ Number (codes "4") ∷ Word PARAMETERS ∷ Sign Open ∷ Text (codes "stoplist sl") ∷ Sign Close ∷ []) ≡ None
parameters_come_first = refl

two_columns : create_of (Word INDEX ∷ Name (codes "i") ∷ Word ON ∷ Name (codes "t") ∷ Sign Open ∷ Name (codes "a") ∷ Sign Comma
    ∷ Name (codes "b") ∷ Sign Close ∷ Word INDEXTYPE ∷ Word IS ∷ Word CONTEXT ∷ []) ≡ None
two_columns = refl
