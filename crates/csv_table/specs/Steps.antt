-- What writing appends, and what reading looks for.
use Rattle.std.specs.Prelude.{ℕ, ◌≡◌, ◌==◌, Bool, true, false, List, [], ◌∷◌, ◌++◌, Option, Some, None, codes, map, refl}
use Rattle.std.specs.Bool.{if◌then◌else◌}
use Rattle.std.specs.List.{flat_map}
use Rattle.st_cut.specs.Cut.{line_end}
use Rattle.st_parse.specs.declared.lexemes.Keyword.TheVariants.{Create}
use Rattle.st_parse.specs.declared.lexemes.Lexeme.{Lexeme}
use Rattle.st_parse.specs.declared.lexemes.Lexeme.TheVariants.{Word}
use Rattle.csv_table.specs.declared.tables.Column.{Column}
use Rattle.csv_table.specs.declared.tables.Row.{Row}
use Rattle.csv_table.specs.Spelling.{column_text, ended, insert_text, list_end}

-- the INSERTs of these rows
abbrev pub inserts_text : List ℕ → List Column → List Row → List ℕ
inserts_text name columns rows = flat_map (λ r. ended (insert_text name columns r)) rows

-- what follows the name of the key: its type, the other columns, and the end of their list
abbrev pub key_end : List Column → List ℕ
key_end columns = codes " NUMBER PRIMARY KEY" ++ list_end (map column_text columns)

-- what follows a statement that ends with this byte, where one ends
abbrev pub end_at : ℕ → List ℕ → Option (List ℕ)
end_at b bs = if b == 59 then line_end false bs else None

-- the lexeme is a keyword
abbrev pub is_word : Lexeme → Bool
is_word (Word k) = true
is_word l = false

-- computed examples
a_key : key_end [] ≡ codes " NUMBER PRIMARY KEY)"
a_key = refl

an_end : end_at 59 (codes " \nb") ≡ Some (codes "b")
an_end = refl

no_end : end_at 59 (codes " b\n") ≡ None
no_end = refl

a_keyword : is_word (Word Create) ≡ true
a_keyword = refl

two_rows : inserts_text (codes "t") [] (record { line = 2; key = codes "1"; values = [] } ∷ record { line = 3; key = codes "2"; values = [] } ∷ [])
    ≡ codes "INSERT INTO t VALUES (1);\nINSERT INTO t VALUES (2);\n"
two_rows = refl
