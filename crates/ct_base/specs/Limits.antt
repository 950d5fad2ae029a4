-- The limits of what a store holds, each with its constant of the same name in `src/limits.rt`.
use Rattle.std.specs.Prelude.{ℕ, ◌≡◌, ◌*◌, refl}

-- how many bytes a name has at most
abbrev pub name_limit : ℕ
name_limit = 30

-- how many bytes a token, a term or an anchor has at most
abbrev pub token_limit : ℕ
token_limit = 255

-- how many bytes a text in a column has at most, whatever its sort
abbrev pub text_limit : ℕ
text_limit = 4000

-- how many columns a table has at most, with its key
abbrev pub column_limit : ℕ
column_limit = 16

-- how many rows a table has at most
abbrev pub row_limit : ℕ
row_limit = 100000

-- how many tables there are at most
abbrev pub table_limit : ℕ
table_limit = 64

-- the greatest number of a stream of an index
abbrev pub stream_limit : ℕ
stream_limit = 64

-- the greatest number of a sub-index
abbrev pub sub_index_limit : ℕ
sub_index_limit = 16

-- computed example: what the store holds at most
rows_in_all : table_limit * row_limit ≡ 6400000
rows_in_all = refl

values_in_a_row : column_limit * text_limit ≡ 64000
values_in_a_row = refl
