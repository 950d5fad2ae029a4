-- The script of a number, byte by byte.
use Rattle.std.specs.Prelude.{ℕ, ◌≡◌, List, ◌++◌, codes, refl}
use Rattle.std.specs.Fmt.{digits}
use Rattle.std.specs.List.{flat_map}
use Rattle.gen_script.specs.Statements.{body_of, statements, values_of}

-- a statement as it stands in a script: on a line of its own, ended by `;`
abbrev pub ended : List ℕ → List ℕ
ended statement = statement ++ codes ";\n"

abbrev pub all_ended : List (List ℕ) → List ℕ
all_ended ss = flat_map ended ss

abbrev pub script : ℕ → List ℕ
script n = all_ended (statements n)

-- computed example: the whole script of 2
abbrev head : List ℕ
head =
    codes "EXEC CTX_DDL.CREATE_SECTION_GROUP('gg','BASIC_SECTION_GROUP');\n"
    ++ codes "EXEC CTX_DDL.ADD_ZONE_SECTION('gg','t','T');\n"
    ++ codes "CREATE TABLE gen (id NUMBER PRIMARY KEY, body CLOB, price NUMBER);\n"
    ++ codes "CREATE INDEX gi ON gen(body) INDEXTYPE IS CTXSYS.CONTEXT PARAMETERS ('SECTION GROUP gg');\n"

abbrev rows : List ℕ
rows =
    codes "INSERT INTO gen VALUES (1,'<T>birch</T> amber birch. ember.',1);\n"
    ++ codes "INSERT INTO gen VALUES (2,'<T>cedar</T> amber ember. heron.',2);\n"

abbrev searches : List ℕ
searches =
    codes "SELECT id, SCORE(1) FROM gen WHERE CONTAINS(body,'amber',1) > 0;\n"
    ++ codes "SELECT id, SCORE(1) FROM gen WHERE CONTAINS(body,'birch',1) > 0;\n"
    ++ codes "SELECT id, SCORE(1) FROM gen WHERE CONTAINS(body,'cedar',1) > 0;\n"
    ++ codes "SELECT id, SCORE(1) FROM gen WHERE CONTAINS(body,'delta',1) > 0;\n"
    ++ codes "SELECT id, SCORE(1) FROM gen WHERE CONTAINS(body,'ember',1) > 0;\n"
    ++ codes "SELECT id, SCORE(1) FROM gen WHERE CONTAINS(body,'frost',1) > 0;\n"
    ++ codes "SELECT id, SCORE(1) FROM gen WHERE CONTAINS(body,'grove',1) > 0;\n"
    ++ codes "SELECT id, SCORE(1) FROM gen WHERE CONTAINS(body,'heron',1) > 0;\n"

of_two : script 2 ≡ head ++ rows ++ codes "EXEC CTX_DDL.SYNC_INDEX('gi');\n" ++ searches ++ codes "EXEC CTX_DDL.OPTIMIZE_INDEX('gi','FULL');\n" ++ searches
unfolding values_of body_of digits
of_two = refl
