-- What the function of `src/laws.rt` promises of all stop keys.
use Rattle.std.specs.Prelude.{ℕ, ◌≡◌, ◌==◌, Bool, false, not, ◌&&◌, List, [], ◌∷◌, length, bytes_eq, codes, refl}
use Rattle.std.specs.List.{list_any}
use lib.Utf8.{encode}
use Rattle.ucd_category.proofs.Computing.{ucd_category}
use Rattle.caseless.proofs.Computing.{caseless}
use Rattle.tx_chars.specs.Keys.{key_of, key_text}
use Rattle.tx_stop.specs.StopKeys.{is_stop, stop_keys}

-- whether a key is one of a word, and not empty
abbrev pub is_key_of_one : Bool → Bool → List (List ℕ) → List ℕ → Bool
is_key_of_one base_letter mixed_case words key = not (length key == 0) && list_any (λ word. bytes_eq (key_of base_letter mixed_case word) key) words

-- the stop keys are the keys of the words
abbrev pub StopKeysAreThoseOfWords : Type 0
StopKeysAreThoseOfWords = (base_letter mixed_case : Bool) (words : List (List ℕ)) (key : List ℕ) → is_stop (stop_keys base_letter mixed_case words) key ≡ is_key_of_one base_letter mixed_case words key

-- computed example
no_word : is_key_of_one false false (codes "The" ∷ codes "" ∷ []) (codes "") ≡ false
unfolding encode caseless ucd_category key_text
no_word = refl
