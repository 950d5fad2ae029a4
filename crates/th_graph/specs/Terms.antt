-- The terms of a thesaurus, as texts give them.
use Rattle.std.specs.Prelude.{ℕ, ◌≡◌, ◌≤◌, ◌&&◌, nat_le, Bool, true, false, List, [], ◌∷◌, ◌++◌, Option, Some, None, length, replicate, codes, refl}
use Rattle.std.specs.Bool.{if◌then◌else◌}
use Rattle.std.specs.List.{flat_map}
use Rattle.std.specs.Char.{is_whitespace}
use Rattle.std.specs.Str.{encode_utf8_all}
use lib.Utf8.{encode}
use Rattle.ucd_category.proofs.Computing.{ucd_category}
use Rattle.caseless.proofs.Computing.{caseless}
use Rattle.ct_base.specs.Limits.{token_limit}
use Rattle.tx_chars.specs.Keys.{key_of, key_text}

-- A term has 1 to 255 bytes. That they are UTF-8 is known of each value of the type `Term`.
pub record IsTerm (term : List ℕ) : Type 0 where
  pub some : 1 ≤ length term
  pub short : length term ≤ token_limit

-- ---- the text of a term

-- the first run begins with this character too
abbrev pub onto_first_run : ℕ → List (List ℕ) → List (List ℕ)
onto_first_run c [] = (c ∷ []) ∷ []
onto_first_run c (w ∷ ws) = (c ∷ w) ∷ ws

-- The runs of characters that white space parts. One is empty where the text begins or ends with white space, and between two
-- characters of white space.
abbrev pub spaced_runs : List ℕ → List (List ℕ)
spaced_runs [] = [] ∷ []
spaced_runs (c ∷ cs) = if is_whitespace c then [] ∷ spaced_runs cs else onto_first_run c (spaced_runs cs)

abbrev pub without_empty_runs : List (List ℕ) → List (List ℕ)
without_empty_runs [] = []
without_empty_runs ([] ∷ ws) = without_empty_runs ws
without_empty_runs ((c ∷ w) ∷ ws) = (c ∷ w) ∷ without_empty_runs ws

-- words with a blank before each
abbrev pub spaced : List (List ℕ) → List ℕ
spaced ws = flat_map (λ w. 32 ∷ w) ws

-- words with one blank between two
abbrev pub joined_runs : List (List ℕ) → List ℕ
joined_runs [] = []
joined_runs (w ∷ ws) = w ++ spaced ws

-- THE TEXT with one blank in place of each run of white space, and none at its ends
abbrev pub squeezed : List ℕ → List ℕ
squeezed text = joined_runs (without_empty_runs (spaced_runs text))

-- how many bytes the characters have in UTF-8
abbrev pub utf8_length : List ℕ → ℕ
utf8_length cs = length (encode_utf8_all cs)

-- whether the characters have 1 to 255 bytes
abbrev pub has_length_of_term : List ℕ → Bool
has_length_of_term cs = nat_le 1 (utf8_length cs) && nat_le (utf8_length cs) token_limit

-- THE TERM that a text, by its characters, stands for: the key of the squeezed text, without regard to case and with its accents. None
-- where the squeezed text is empty or has over 255 bytes. A key may be longer than its text; it is cut as every key is.
abbrev pub term_of : List ℕ → Option (List ℕ)
term_of text = if has_length_of_term (squeezed text) then Some (key_of false false (squeezed text)) else None

-- ---- computed examples

two_words : squeezed (codes "  Guide \n dog ") ≡ codes "Guide dog"
two_words = refl

only_blanks : squeezed (codes "   ") ≡ []
only_blanks = refl

a_term : term_of (codes "  Guide \n DOG ") ≡ Some (codes "guide dog")
unfolding encode caseless ucd_category key_text
a_term = refl

-- a blank that doesn't break is white space too; the accent of É is kept
accent_kept : term_of (codes "CAF" ++ 0xC9 ∷ 0xA0 ∷ codes "noir") ≡ Some (codes "caf" ++ 0xC3 ∷ 0xA9 ∷ codes " noir")
unfolding encode caseless ucd_category key_text
accent_kept = refl

no_term : term_of (codes "  ") ≡ None
unfolding encode
no_term = refl

-- 255 letters, with a blank at each end, have room, and 256 have none
room_for_255 : has_length_of_term (squeezed (32 ∷ replicate 255 0x61 ++ 32 ∷ [])) ≡ true
unfolding encode
room_for_255 = refl

none_for_256 : term_of (replicate 256 0x61) ≡ None
unfolding encode
none_for_256 = refl
