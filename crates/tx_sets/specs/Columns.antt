-- The text that tells the columns of a sub-index: their names, with commas between them.
use Rattle.std.specs.Prelude.{ℕ, ◌≡◌, ◌==◌, List, [], ◌∷◌, map, Option, Some, None, codes, refl}
use Rattle.std.specs.Bool.{if◌then◌else◌}
use Rattle.std.specs.Char.{to_ascii_lowercase}
use Rattle.std.specs.Option.{option_and_then, option_map}
use Rattle.std.specs.Str.{chars, trim, trim_end, trim_start}
use lib.Utf8.{encode}
use Rattle.ct_base.specs.Names.{is_spelling}

-- the first text begins with this byte, too
abbrev pub onto_first_text : ℕ → List (List ℕ) → List (List ℕ)
onto_first_text b [] = (b ∷ []) ∷ []
onto_first_text b (t ∷ ts) = (b ∷ t) ∷ ts

-- what stands before, between and behind the commas of a text (a comma is 44): one text more than there are commas
abbrev pub between_commas : List ℕ → List (List ℕ)
between_commas [] = [] ∷ []
between_commas (b ∷ bs) = if b == 44 then [] ∷ between_commas bs else onto_first_text b (between_commas bs)

-- the name that a text spells in any ASCII case, with white space around it or without
abbrev pub column_in : List ℕ → Option (List ℕ)
column_in text = if is_spelling (trim text) then Some (map to_ascii_lowercase (trim text)) else None

-- the name in front of others, if all of them are there
abbrev pub with_column : Option (List ℕ) → Option (List (List ℕ)) → Option (List (List ℕ))
with_column name names = option_and_then (λ n. option_map (λ ns. n ∷ ns) names) name

-- the names that texts spell; None where one of them spells none
abbrev pub columns_in : List (List ℕ) → Option (List (List ℕ))
columns_in [] = Some []
columns_in (t ∷ ts) = with_column (column_in t) (columns_in ts)

-- THE COLUMNS that a text tells, in its order: one name at least, and a comma between two. White space may stand around each. None where
-- the text isn't of this form. How many columns a sub-index may have, and whether one of them comes twice, isn't asked.
abbrev pub columns_of : List ℕ → Option (List (List ℕ))
columns_of text = columns_in (between_commas text)

-- computed examples
two_commas : between_commas (codes "a,b ,") ≡ codes "a" ∷ codes "b " ∷ [] ∷ []
two_commas = refl

one_column : columns_of (codes "price") ≡ Some (codes "price" ∷ [])
unfolding chars trim_end trim_start encode
one_column = refl

three_columns : columns_of (codes " Kind,PRICE , id\n") ≡ Some (codes "kind" ∷ codes "price" ∷ codes "id" ∷ [])
unfolding chars trim_end trim_start encode
three_columns = refl

one_column_twice : columns_of (codes "id,id") ≡ Some (codes "id" ∷ codes "id" ∷ [])
unfolding chars trim_end trim_start encode
one_column_twice = refl

no_column : columns_of [] ≡ None
unfolding chars trim_end trim_start encode
no_column = refl

nothing_behind_the_comma : columns_of (codes "price, ") ≡ None
unfolding chars trim_end trim_start encode
nothing_behind_the_comma = refl

without_a_comma : columns_of (codes "kind price") ≡ None
unfolding chars trim_end trim_start encode
without_a_comma = refl
