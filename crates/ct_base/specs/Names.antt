-- How a name is spelt. Bytes: `_` is 95, `$` 36, `#` 35.
use Rattle.std.specs.Prelude.{ℕ, ◌≡◌, ◌==◌, nat_lt, Bool, true, false, ◌||◌, ◌&&◌, List, [], ◌∷◌, map, length, Option, Some, None, codes, refl}
use Rattle.std.specs.Bool.{if◌then◌else◌}
use Rattle.std.specs.List.{list_all}
use Rattle.std.specs.Char.{is_ascii_alphabetic, is_ascii_alphanumeric, to_ascii_lowercase}
use Rattle.ct_base.specs.Limits.{name_limit}

abbrev pub is_name_byte : ℕ → Bool
is_name_byte b = is_ascii_alphanumeric b || ((b == 95) || ((b == 36) || (b == 35)))

-- a letter, and then letters, digits, `_`, `$` and `#`, of which there are fewer than 30
abbrev pub is_spelling : List ℕ → Bool
is_spelling [] = false
is_spelling (b ∷ bs) = is_ascii_alphabetic b && (nat_lt (length bs) name_limit && list_all is_name_byte bs)

-- a name as it is kept: spelt as one, in lower case
pub record IsName (name : List ℕ) : Type 0 where
  pub spelt : is_spelling name ≡ true
  pub lower : map to_ascii_lowercase name ≡ name

-- whether these are the bytes of a name as it is kept, and that name
abbrev pub is_kept : List ℕ → Bool
is_kept bytes = is_spelling bytes && list_all (λ b. to_ascii_lowercase b == b) bytes

abbrev pub kept_name : List ℕ → Option (List ℕ)
kept_name bytes = if is_kept bytes then Some bytes else None

-- computed examples
price_index : is_spelling (codes "Price_Index#2$") ≡ true
price_index = refl

digit_first : is_spelling (codes "2prices") ≡ false
digit_first = refl

thirty : is_spelling (codes "a23456789012345678901234567890") ≡ true
thirty = refl

thirty_one : is_spelling (codes "a234567890123456789012345678901") ≡ false
thirty_one = refl

kept_in_lower_case : kept_name (codes "price") ≡ Some (codes "price")
kept_in_lower_case = refl

not_as_spelt : kept_name (codes "Price") ≡ None
not_as_spelt = refl

two_words : is_spelling (codes "price index") ≡ false
two_words = refl
