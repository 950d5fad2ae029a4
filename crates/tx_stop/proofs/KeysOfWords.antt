-- The stop keys of words are their keys.
use Rattle.std.proofs.Common.{◌≡◌, ℕ, Bool, true, false, cond, List, [], ◌∷◌, length, refl, sym, ap, ◌∙◌}
use Rattle.std.specs.Prelude.{not, ◌&&◌, ◌||◌, ◌==◌, bytes_eq}
use Rattle.std.specs.List.{insert, list_any}
use Rattle.std.proofs.Math.Bool.{and-false, or-false}
use Rattle.std.proofs.lemmas.Slice.Eq.{bytes_eq-Decides}
use Rattle.tx_chars.specs.Keys.{key_of}
use Rattle.tx_stop.specs.StopKeys.{is_stop, key_place, with_key, with_words, stop_keys}
use Rattle.tx_stop.specs.Promises.{is_key_of_one}
use Rattle.tx_stop.specs.laws.RisingKeys.{has_put, there_already}

-- ---- truth values

shuffled : (n e a s : Bool) → ((n && a) || ((n && e) || s)) ≡ ((n && (e || a)) || s)
shuffled true true true s = refl
shuffled true true false s = refl
shuffled true false a s = refl
shuffled false e a s = refl

-- ---- one key more

has_with : (key q : List ℕ) (ks : List (List ℕ)) → is_stop (with_key key ks) q ≡ ((not (length key == 0) && bytes_eq key q) || is_stop ks q)
has_with key q ks = go (length key == 0) (is_stop ks key) refl
  where
    go : (empty there : Bool) → is_stop ks key ≡ there → is_stop (cond (empty || there) ks (insert ks (key_place key ks) key)) q ≡ ((not empty && bytes_eq key q) || is_stop ks q)
    go true there is = refl
    go false true is = there_already key q ks is
    go false false is = has_put key q ks

-- an empty key is the same as no key that is asked for
as_asked : (key q : List ℕ) → (not (length key == 0) && bytes_eq key q) ≡ (not (length q == 0) && bytes_eq key q)
as_asked key q = go (bytes_eq key q) refl
  where
    go : (b : Bool) → bytes_eq key q ≡ b → (not (length key == 0) && b) ≡ (not (length q == 0) && b)
    go true same = ap (λ (k : List ℕ). not (length k == 0) && true) ((bytes_eq-Decides key q).0 same)
    go false other = and-false (not (length key == 0)) ∙ sym (and-false (not (length q == 0)))

-- ---- all words

has_words : (base_letter mixed_case : Bool) (ks words : List (List ℕ)) (q : List ℕ) → is_stop (with_words base_letter mixed_case ks words) q ≡ (is_key_of_one base_letter mixed_case words q || is_stop ks q)
has_words base_letter mixed_case ks [] q = ap (λ (b : Bool). b || is_stop ks q) (sym (and-false (not (length q == 0))))
has_words base_letter mixed_case ks (word ∷ words) q =
    let key = key_of base_letter mixed_case word in
    has_words base_letter mixed_case (with_key key ks) words q
    ∙ ap (λ (b : Bool). is_key_of_one base_letter mixed_case words q || b) (has_with key q ks ∙ ap (λ (b : Bool). b || is_stop ks q) (as_asked key q))
    ∙ shuffled (not (length q == 0)) (bytes_eq key q) (list_any (λ word. bytes_eq (key_of base_letter mixed_case word) q) words) (is_stop ks q)

pub keys_of_words : (base_letter mixed_case : Bool) (words : List (List ℕ)) (q : List ℕ) → is_stop (stop_keys base_letter mixed_case words) q ≡ is_key_of_one base_letter mixed_case words q
keys_of_words base_letter mixed_case words q = has_words base_letter mixed_case [] words q ∙ or-false (is_key_of_one base_letter mixed_case words q)
