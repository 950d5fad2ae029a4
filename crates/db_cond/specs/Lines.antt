-- How values are printed as lines. Bytes: `\` is 92, `|` 124, newline 10, carriage return 13, `n` 110, `r` 114.
use Rattle.std.specs.Prelude.{ℕ, ◌≡◌, ◌==◌, List, [], ◌∷◌, ◌++◌, codes, refl, pos, negsuc}
use Rattle.std.specs.Bool.{if◌then◌else◌}
use Rattle.std.specs.List.{flat_map}
use Rattle.std.specs.Fmt.{signed_decimal, digits}
use Rattle.ct_base.specs.declared.lists.Value.{Value}
use Rattle.ct_base.specs.declared.lists.Value.TheVariants.{Number, Text}

-- A byte of a text, as it is printed: a byte that would end a field or a line has a `\` before it.
abbrev pub printed_byte : ℕ → List ℕ
printed_byte b =
    if b == 92 then 92 ∷ 92 ∷ []
    else (if b == 124 then 92 ∷ 124 ∷ []
    else (if b == 10 then 92 ∷ 110 ∷ []
    else (if b == 13 then 92 ∷ 114 ∷ []
    else b ∷ [])))

abbrev pub printed_text : List ℕ → List ℕ
printed_text text = flat_map printed_byte text

-- a number in decimal digits with a `-` before a negative one, or a text
abbrev pub printed : Value → List ℕ
printed (Number n) = signed_decimal n
printed (Text text) = printed_text text

-- fields, each with a `|` before it
abbrev pub fields_behind_bars : List Value → List ℕ
fields_behind_bars fields = flat_map (λ field. 124 ∷ printed field) fields

-- the line of some fields: the first one, each other one after a `|`, and a newline
abbrev pub line : List Value → List ℕ
line [] = 10 ∷ []
line (field ∷ fields) = printed field ++ fields_behind_bars fields ++ 10 ∷ []

-- the line of a statement that changes rows, by their number and what was done to them: `1 row updated.`, `0 rows updated.`
abbrev pub rows_line : List ℕ → ℕ → List ℕ
rows_line done rows = (if rows == 1 then codes "1 row " else signed_decimal (pos rows) ++ codes " rows ") ++ done

-- computed examples
one_row : rows_line (codes "updated.\n") 1 ≡ codes "1 row updated.\n"
one_row = refl

no_rows_changed : rows_line (codes "deleted.\n") 0 ≡ codes "0 rows deleted.\n"
unfolding digits
no_rows_changed = refl

token : line (Text (codes "web") ∷ Number (pos 0) ∷ Number (pos 3) ∷ []) ≡ codes "web|0|3\n"
unfolding digits
token = refl

marks : line (Text (codes "a|b\\c\nd\r") ∷ Number (negsuc 6) ∷ []) ≡ codes "a\\|b\\\\c\\nd\\r|-7\n"
unfolding digits
marks = refl
