-- Keys in order rise and stand once each, and are the keys that were put.
use Rattle.std.proofs.Common.{◌≡◌, ◌≤◌, ℕ, Bool, true, false, cond, List, [], ◌∷◌, length, refl, sym, ap, ◌∙◌, arith, subst}
use Rattle.std.specs.Prelude.{◌&&◌, ◌||◌, ◌==◌}
use Rattle.std.specs.List.{insert, list_all}
use Rattle.std.specs.Str.{bytes_eq}
use Rattle.std.proofs.lemmas.Bool.{and_parts, leb-true}
use Rattle.tx_stop.specs.StopKeys.{is_stop, key_place, keys_rise, with_key}
use Rattle.tx_stop.specs.laws.RisingKeys.{lt, put, put_is, has_put, there_already, put_all, put_rises}
use Rattle.q_tree.specs.Soundness.{is_key, slot_keys_rise}
use Rattle.q_reduce.specs.Reducing.{in_order}

-- what holds of keys and of keys with one more put holds of keys with one more
with_cases : (P : List (List ℕ) → Type 0) (key : List ℕ) (ks : List (List ℕ)) → P ks → (is_stop ks key ≡ false → P (put key ks)) → P (with_key key ks)
with_cases P key ks old more = go (length key == 0) (is_stop ks key) refl
  where
    go : (empty there : Bool) → is_stop ks key ≡ there → P (cond (empty || there) ks (insert ks (key_place key ks) key))
    go true there is = old
    go false true is = old
    go false false is = subst P (sym (put_is key ks)) (more is)

-- ---- rising

-- the keys of a slot rise where keys do
rise_as_keys : (ks : List (List ℕ)) → slot_keys_rise ks ≡ keys_rise ks
rise_as_keys [] = refl
rise_as_keys (k ∷ []) = refl
rise_as_keys (k ∷ l ∷ ks) = ap (λ (b : Bool). lt k l && b) (rise_as_keys (l ∷ ks))

pub keys_in_order_rise : (keys : List (List ℕ)) → slot_keys_rise (in_order keys) ≡ true
keys_in_order_rise [] = refl
keys_in_order_rise (key ∷ keys) =
    let rest = keys_in_order_rise keys in
    with_cases (λ ks. slot_keys_rise ks ≡ true) key (in_order keys) rest
    (λ none. rise_as_keys (put key (in_order keys)) ∙ put_rises key (in_order keys) (sym (rise_as_keys (in_order keys)) ∙ rest) none)

-- ---- a property of all keys

pub all_in_order : (p : List ℕ → Bool) (keys : List (List ℕ)) → list_all p keys ≡ true → list_all p (in_order keys) ≡ true
all_in_order p [] all = refl
all_in_order p (key ∷ keys) all =
    let parts = and_parts (p key) (list_all p keys) all in
    let rest = all_in_order p keys parts.1 in
    with_cases (λ ks. list_all p ks ≡ true) key (in_order keys) rest (λ none. put_all p key (in_order keys) parts.0 rest)

-- ---- which keys there are

has_with : (key q : List ℕ) (ks : List (List ℕ)) → (length key == 0) ≡ false → is_stop (with_key key ks) q ≡ (bytes_eq key q || is_stop ks q)
has_with key q ks some = go (length key == 0) (is_stop ks key) some refl
  where
    go : (empty there : Bool) → empty ≡ false → is_stop ks key ≡ there → is_stop (cond (empty || there) ks (insert ks (key_place key ks) key)) q ≡ (bytes_eq key q || is_stop ks q)
    go true there none is = absurd (cc)
    go false true none is = there_already key q ks is
    go false false none is = has_put key q ks

not_empty : (n : ℕ) → 1 ≤ n → (n == 0) ≡ false
not_empty n some = grind arith

pub has_in_order : (keys : List (List ℕ)) (q : List ℕ) → list_all is_key keys ≡ true → is_stop (in_order keys) q ≡ is_stop keys q
has_in_order [] q all = refl
has_in_order (key ∷ keys) q all =
    let parts = and_parts (is_key key) (list_all is_key keys) all in
    let some = leb-true 1 (length key) (and_parts _ _ parts.0).0 in
    has_with key q (in_order keys) (not_empty (length key) some) ∙ ap (λ (b : Bool). bytes_eq key q || b) (has_in_order keys q parts.1)
