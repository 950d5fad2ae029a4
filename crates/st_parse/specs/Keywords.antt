-- The keywords of statements.
use Rattle.std.specs.Prelude.{ℕ, ◌≡◌, List, [], ◌∷◌, codes, bytes_eq, Option, Some, None, refl}
use Rattle.std.specs.List.{find}
use Rattle.std.specs.Option.{option_map}
use Rattle.st_parse.specs.declared.lexemes.Keyword.{Keyword}
use Rattle.st_parse.specs.declared.lexemes.Keyword.TheVariants.{Create, Table, Drop, Index, On, Indextype, Is, Ctxsys, Parameters, Parallel, Insert, Into, Values, Update, Set, Where, And, Delete, From, Select, Order, By, Exec, Execute, Commit, Number, Varchar2, Clob, Primary, Key, Context, Ctxcat, Ctxrule, Between, In, Count, Score, Contains, Catsearch, Null, Matches, Asc, Desc, True, False}

-- all of them, each with its spelling in lower case
abbrev pub keywords : List (Keyword × List ℕ)
keywords =
    (Create, codes "create")
    ∷ (Table, codes "table")
    ∷ (Drop, codes "drop")
    ∷ (Index, codes "index")
    ∷ (On, codes "on")
    ∷ (Indextype, codes "indextype")
    ∷ (Is, codes "is")
    ∷ (Ctxsys, codes "ctxsys")
    ∷ (Parameters, codes "parameters")
    ∷ (Parallel, codes "parallel")
    ∷ (Insert, codes "insert")
    ∷ (Into, codes "into")
    ∷ (Values, codes "values")
    ∷ (Update, codes "update")
    ∷ (Set, codes "set")
    ∷ (Where, codes "where")
    ∷ (And, codes "and")
    ∷ (Delete, codes "delete")
    ∷ (From, codes "from")
    ∷ (Select, codes "select")
    ∷ (Order, codes "order")
    ∷ (By, codes "by")
    ∷ (Exec, codes "exec")
    ∷ (Execute, codes "execute")
    ∷ (Commit, codes "commit")
    ∷ (Number, codes "number")
    ∷ (Varchar2, codes "varchar2")
    ∷ (Clob, codes "clob")
    ∷ (Primary, codes "primary")
    ∷ (Key, codes "key")
    ∷ (Context, codes "context")
    ∷ (Ctxcat, codes "ctxcat")
    ∷ (Ctxrule, codes "ctxrule")
    ∷ (Between, codes "between")
    ∷ (In, codes "in")
    ∷ (Count, codes "count")
    ∷ (Score, codes "score")
    ∷ (Contains, codes "contains")
    ∷ (Catsearch, codes "catsearch")
    ∷ (Null, codes "null")
    ∷ (Matches, codes "matches")
    ∷ (Asc, codes "asc")
    ∷ (Desc, codes "desc")
    ∷ (True, codes "true")
    ∷ (False, codes "false")
    ∷ []

-- the keyword that a word in lower case is
abbrev pub keyword_of : List ℕ → Option Keyword
keyword_of word = option_map (λ e. e.0) (find (λ e. bytes_eq e.1 word) keywords)

-- computed examples
execute : keyword_of (codes "execute") ≡ Some Execute
execute = refl

no_keyword : keyword_of (codes "selec") ≡ None
no_keyword = refl
