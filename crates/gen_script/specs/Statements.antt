-- The statements of the script of a number.
use Rattle.std.specs.Prelude.{ℕ, ◌≡◌, ◌+◌, ◌*◌, ◌/◌, ◌%◌, List, [], ◌∷◌, ◌++◌, codes, map, slice_index_or, refl}
use Rattle.std.specs.Fmt.{decimal, digits}
use Rattle.std.specs.List.{range_with_len}

abbrev pub words : List (List ℕ)
words = codes "amber" ∷ codes "birch" ∷ codes "cedar" ∷ codes "delta" ∷ codes "ember" ∷ codes "frost" ∷ codes "grove" ∷ codes "heron" ∷ []

-- the word of a number: the eight words in turn
abbrev pub word : ℕ → List ℕ
word n = slice_index_or words (n % 8) []

-- a group with a zone, a table, and an index by this group on its texts
abbrev pub setup : List (List ℕ)
setup =
    codes "EXEC CTX_DDL.CREATE_SECTION_GROUP('gg','BASIC_SECTION_GROUP')"
    ∷ codes "EXEC CTX_DDL.ADD_ZONE_SECTION('gg','t','T')"
    ∷ codes "CREATE TABLE gen (id NUMBER PRIMARY KEY, body CLOB, price NUMBER)"
    ∷ codes "CREATE INDEX gi ON gen(body) INDEXTYPE IS CTXSYS.CONTEXT PARAMETERS ('SECTION GROUP gg')"
    ∷ []

-- the text of the row with this key: a word in the zone, and three more in two sentences
unfoldable pub body_of : ℕ → List ℕ
body_of key = codes "<T>" ++ word key ++ codes "</T> " ++ word (key / 8) ++ codes " " ++ word (key * key) ++ codes ". " ++ word (3 * key + 1) ++ codes "."

-- its values: the key, the text, and a price
unfoldable pub values_of : ℕ → List ℕ
values_of key = decimal key ++ codes ",'" ++ body_of key ++ codes "'," ++ decimal (key % 10)

abbrev pub insert_of : ℕ → List ℕ
insert_of key = codes "INSERT INTO gen VALUES (" ++ values_of key ++ codes ")"

-- the search for the word of a number
abbrev pub query_of : ℕ → List ℕ
query_of n = codes "SELECT id, SCORE(1) FROM gen WHERE CONTAINS(body,'" ++ word n ++ codes "',1) > 0"

-- the search for each of the eight words
abbrev pub queries : List (List ℕ)
queries = map query_of (range_with_len 0 8)

abbrev pub sync : List ℕ
sync = codes "EXEC CTX_DDL.SYNC_INDEX('gi')"

abbrev pub optimize : List ℕ
optimize = codes "EXEC CTX_DDL.OPTIMIZE_INDEX('gi','FULL')"

-- The table and its index are made, the rows with the keys 1 to n are inserted and synchronised, each word is searched for, the index is optimised, and each
-- word is searched for again.
abbrev pub statements : ℕ → List (List ℕ)
statements n = setup ++ map insert_of (range_with_len 1 n) ++ sync ∷ queries ++ optimize ∷ queries

-- computed examples
ninth : word 8 ≡ codes "amber"
ninth = refl

first_row : insert_of 1 ≡ codes "INSERT INTO gen VALUES (1,'<T>birch</T> amber birch. ember.',1)"
unfolding values_of body_of digits
first_row = refl

-- 13 is 5 and 8, 13 by 8 is 1, 169 is 1 and 21 by 8, and 40 is 5 by 8
thirteenth_row : insert_of 13 ≡ codes "INSERT INTO gen VALUES (13,'<T>frost</T> birch birch. amber.',3)"
unfolding values_of body_of digits
thirteenth_row = refl

last_query : slice_index_or queries 7 [] ≡ codes "SELECT id, SCORE(1) FROM gen WHERE CONTAINS(body,'heron',1) > 0"
last_query = refl
