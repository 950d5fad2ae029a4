-- The keys of stopwords.
use Rattle.std.specs.Prelude.{ℕ, ◌+◌, ◌≡◌, ◌==◌, Bool, true, false, ◌&&◌, ◌||◌, nat_le, List, [], ◌∷◌, length, bytes_eq, codes, refl}
use Rattle.std.specs.Bool.{if◌then◌else◌}
use Rattle.std.specs.List.{list_any, list_all, insert}
use Rattle.std.specs.Str.{chars, is_utf8}
use Rattle.std.specs.Ordering.{nat_cmp, is_lt}
use Rattle.std.specs.Cmp.Lexicographic.{slice_cmp}
use lib.Utf8.{encode}
use Rattle.ucd_category.proofs.Computing.{ucd_category}
use Rattle.caseless.proofs.Computing.{caseless}
use Rattle.ct_base.specs.Limits.{token_limit}
use Rattle.tx_chars.specs.Keys.{key_of, key_text}

-- whether the key is one of them
abbrev pub is_stop : List (List ℕ) → List ℕ → Bool
is_stop keys key = list_any (λ k. bytes_eq k key) keys

-- how many of them at the beginning are less, in the order of bytes
abbrev pub key_place : List ℕ → List (List ℕ) → ℕ
key_place key [] = 0
key_place key (k ∷ ks) = if is_lt (slice_cmp nat_cmp k key) then key_place key ks + 1 else 0

-- with one more, which is passed over where it is empty or there already
abbrev pub with_key : List ℕ → List (List ℕ) → List (List ℕ)
with_key key keys = if (length key == 0) || is_stop keys key then keys else insert keys (key_place key keys) key

abbrev pub with_words : Bool → Bool → List (List ℕ) → List (List ℕ) → List (List ℕ)
with_words base_letter mixed_case keys [] = keys
with_words base_letter mixed_case keys (word ∷ words) = with_words base_letter mixed_case (with_key (key_of base_letter mixed_case word) keys) words

-- the keys of stopwords, which are lists of characters, in rising order and each once
abbrev pub stop_keys : Bool → Bool → List (List ℕ) → List (List ℕ)
stop_keys base_letter mixed_case words = with_words base_letter mixed_case [] words

-- ---- the rules that stop keys keep

-- whether they rise, in the order of bytes
abbrev pub keys_rise : List (List ℕ) → Bool
keys_rise [] = true
keys_rise (k ∷ []) = true
keys_rise (k ∷ l ∷ ks) = is_lt (slice_cmp nat_cmp k l) && keys_rise (l ∷ ks)

-- 1 to 255 bytes of UTF-8
abbrev pub is_stop_key : List ℕ → Bool
is_stop_key key = nat_le 1 (length key) && (nat_le (length key) token_limit && is_utf8 key)

-- how many words a stoplist has at most, and so how many stop keys there are
abbrev pub stop_limit : ℕ
stop_limit = 4096

abbrev pub are_stop_keys : List (List ℕ) → Bool
are_stop_keys keys = nat_le (length keys) stop_limit && (keys_rise keys && list_all is_stop_key keys)

-- computed examples
some_words : stop_keys false false (codes "The" ∷ codes "" ∷ codes "a" ∷ codes "the" ∷ []) ≡ codes "a" ∷ codes "the" ∷ []
unfolding encode caseless ucd_category key_text
some_words = refl

they_are : are_stop_keys (codes "a" ∷ codes "the" ∷ []) ≡ true
unfolding chars is_utf8 encode
they_are = refl

none_twice : are_stop_keys (codes "a" ∷ codes "a" ∷ []) ≡ false
none_twice = refl

none_empty : are_stop_keys (codes "" ∷ []) ≡ false
none_empty = refl
