-- One key more among rising keys, at its place: it is there, the keys still rise, and stop keys stay stop keys.
use Rattle.std.proofs.Common.{◌≡◌, ◌+◌, ◌≤◌, ℕ, Bool, true, false, cond, List, [], ◌∷◌, length, refl, sym, ap, ◌∙◌, arith, add-one}
use Rattle.std.specs.Prelude.{◌&&◌, ◌||◌, nat_le}
use Rattle.std.specs.Bool.{if◌then◌else◌}
use Rattle.std.specs.List.{insert, list_all, list_any}
use Rattle.std.specs.Str.{bytes_eq, is_utf8}
use Rattle.std.specs.Ordering.{nat_cmp, is_lt}
use Rattle.std.specs.Cmp.Lexicographic.{slice_cmp}
use Rattle.std.proofs.lemmas.Bool.{or_parts, and_parts, and_from, le-leb, leb-true}
use Rattle.std.proofs.lemmas.Cmp.{nat_list_cmp_total}
use Rattle.std.proofs.lemmas.Map.Text.{is_eq-slice_cmp}
use Rattle.std.proofs.lemmas.Slice.Eq.{bytes_eq-Decides}
use Rattle.ct_base.specs.laws.Orders.{less_back}
use Rattle.ct_base.specs.Limits.{token_limit}
use Rattle.ct_base.specs.laws.Bools.{or_swap}
use Rattle.tx_stop.specs.StopKeys.{is_stop, key_place, keys_rise, is_stop_key, stop_limit, are_stop_keys}

-- whether a key is less than another, in the order of bytes
abbrev pub lt : List ℕ → List ℕ → Bool
lt k l = is_lt (slice_cmp nat_cmp k l)

-- the key before the first that isn't less
abbrev pub put : List ℕ → List (List ℕ) → List (List ℕ)
put key [] = key ∷ []
put key (k ∷ ks) = if lt k key then k ∷ put key ks else key ∷ k ∷ ks

put_step : (b : Bool) (key k : List ℕ) (ks : List (List ℕ)) → insert ks (key_place key ks) key ≡ put key ks → insert (k ∷ ks) (cond b (key_place key ks + 1) 0) key ≡ cond b (k ∷ put key ks) (key ∷ k ∷ ks)
put_step true key k ks same = ap (λ i. insert (k ∷ ks) i key) (add-one (key_place key ks)) ∙ ap (λ (l : List (List ℕ)). k ∷ l) same
put_step false key k ks same = refl

pub put_is : (key : List ℕ) (ks : List (List ℕ)) → insert ks (key_place key ks) key ≡ put key ks
put_is key [] = refl
put_is key (k ∷ ks) = put_step (lt k key) key k ks (put_is key ks)

-- ---- which keys there are

any_put : (p : List ℕ → Bool) (key : List ℕ) (ks : List (List ℕ)) → list_any p (put key ks) ≡ (p key || list_any p ks)
any_put p key [] = refl
any_put p key (k ∷ ks) = go (lt k key) (any_put p key ks)
  where
    go : (b : Bool) → list_any p (put key ks) ≡ (p key || list_any p ks) → list_any p (cond b (k ∷ put key ks) (key ∷ k ∷ ks)) ≡ (p key || (p k || list_any p ks))
    go true rest = ap (λ (b : Bool). p k || b) rest ∙ or_swap (p k) (p key) (list_any p ks)
    go false rest = refl

pub has_put : (key q : List ℕ) (ks : List (List ℕ)) → is_stop (insert ks (key_place key ks) key) q ≡ (bytes_eq key q || is_stop ks q)
has_put key q ks = ap (λ (l : List (List ℕ)). is_stop l q) (put_is key ks) ∙ any_put (λ k. bytes_eq k q) key ks

-- a key that is there already adds none
pub there_already : (key q : List ℕ) (ks : List (List ℕ)) → is_stop ks key ≡ true → is_stop ks q ≡ (bytes_eq key q || is_stop ks q)
there_already key q ks there = go (bytes_eq key q) refl
  where
    go : (b : Bool) → bytes_eq key q ≡ b → is_stop ks q ≡ (b || is_stop ks q)
    go true same = sym (ap (is_stop ks) ((bytes_eq-Decides key q).0 same)) ∙ there
    go false other = refl

-- ---- rising

-- of two keys that differ, one is less
pub above : (k key : List ℕ) → lt k key ≡ false → bytes_eq k key ≡ false → lt key k ≡ true
above k key less other = less_back (slice_cmp nat_cmp k key) (slice_cmp nat_cmp key k) (nat_list_cmp_total.antisymm key k) less (is_eq-slice_cmp k key ∙ other)

-- the key k before what begins with l, or with the new key
behind : (b : Bool) (k key l : List ℕ) (ks : List (List ℕ)) → lt k key ≡ true → lt k l ≡ true → keys_rise (cond b (l ∷ put key ks) (key ∷ l ∷ ks)) ≡ true → keys_rise (k ∷ cond b (l ∷ put key ks) (key ∷ l ∷ ks)) ≡ true
behind true k key l ks less next h = and_from _ _ next h
behind false k key l ks less next h = and_from _ _ less h

one_step : (b : Bool) (k key : List ℕ) → lt k key ≡ b → bytes_eq k key ≡ false → keys_rise (cond b (k ∷ key ∷ []) (key ∷ k ∷ [])) ≡ true
one_step true k key less other = and_from _ _ less refl
one_step false k key less other = and_from _ _ (above k key less other) refl

more_step : (b : Bool) (k key l : List ℕ) (ks : List (List ℕ)) → lt k key ≡ b → bytes_eq k key ≡ false → lt k l ≡ true → keys_rise (l ∷ ks) ≡ true → keys_rise (put key (l ∷ ks)) ≡ true
    → keys_rise (cond b (k ∷ put key (l ∷ ks)) (key ∷ k ∷ l ∷ ks)) ≡ true
more_step true k key l ks less other next h later = behind (lt l key) k key l ks less next later
more_step false k key l ks less other next h later = and_from _ _ (above k key less other) (and_from _ _ next h)

pub put_rises : (key : List ℕ) (ks : List (List ℕ)) → keys_rise ks ≡ true → is_stop ks key ≡ false → keys_rise (put key ks) ≡ true
put_rises key [] h none = refl
put_rises key (k ∷ []) h none = let others = or_parts (bytes_eq k key) false none in one_step (lt k key) k key refl others.0
put_rises key (k ∷ l ∷ ks) h none =
    let parts = and_parts (lt k l) (keys_rise (l ∷ ks)) h in
    let others = or_parts (bytes_eq k key) (is_stop (l ∷ ks) key) none in
    more_step (lt k key) k key l ks refl others.0 parts.0 parts.1 (put_rises key (l ∷ ks) parts.1 others.1)

-- ---- the other rules

put_length : (key : List ℕ) (ks : List (List ℕ)) → length (put key ks) ≡ length ks + 1
put_length key [] = refl
put_length key (k ∷ ks) = go (lt k key) (put_length key ks)
  where
    go : (b : Bool) → length (put key ks) ≡ length ks + 1 → length (cond b (k ∷ put key ks) (key ∷ k ∷ ks)) ≡ length (k ∷ ks) + 1
    go true h = omega (arith, h)
    go false h = omega arith

pub put_all : (p : List ℕ → Bool) (key : List ℕ) (ks : List (List ℕ)) → p key ≡ true → list_all p ks ≡ true → list_all p (put key ks) ≡ true
put_all p key [] one all = and_from _ _ one refl
put_all p key (k ∷ ks) one all = let parts = and_parts (p k) (list_all p ks) all in go (lt k key) parts (put_all p key ks one parts.1)
  where
    go : (b : Bool) → (p k ≡ true) × (list_all p ks ≡ true) → list_all p (put key ks) ≡ true → list_all p (cond b (k ∷ put key ks) (key ∷ k ∷ ks)) ≡ true
    go true parts h = and_from _ _ parts.0 h
    go false parts h = and_from _ _ one (and_from _ _ parts.0 parts.1)

pub record HoldsKeys (ks : List (List ℕ)) : Type 0 where
  pub few : length ks ≤ stop_limit
  pub rise : keys_rise ks ≡ true
  pub each : list_all is_stop_key ks ≡ true

pub rules_of : (ks : List (List ℕ)) → are_stop_keys ks ≡ true → HoldsKeys ks
rules_of ks h =
    let parts = and_parts (nat_le (length ks) stop_limit) (keys_rise ks && list_all is_stop_key ks) h in
    let two = and_parts (keys_rise ks) (list_all is_stop_key ks) parts.1 in
    record { few = leb-true (length ks) stop_limit parts.0; rise = two.0; each = two.1 }

pub stop_keys_more : (key : List ℕ) (ks : List (List ℕ)) → are_stop_keys ks ≡ true → is_stop ks key ≡ false → length ks + 1 ≤ stop_limit → 1 ≤ length key → length key ≤ token_limit → is_utf8 key ≡ true
    → are_stop_keys (insert ks (key_place key ks) key) ≡ true
stop_keys_more key ks h none few some short text =
    let old = rules_of ks h in
    let one = and_from (nat_le 1 (length key)) _ (le-leb 1 (length key) some) (and_from (nat_le (length key) token_limit) _ (le-leb (length key) token_limit short) text) in
    ap are_stop_keys (put_is key ks)
    ∙ and_from (nat_le (length (put key ks)) stop_limit) _ (le-leb (length (put key ks)) stop_limit (rw (put_length key ks) few))
    (and_from (keys_rise (put key ks)) _ (put_rises key ks old.rise none) (put_all is_stop_key key ks one old.each))
