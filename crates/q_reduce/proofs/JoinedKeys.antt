-- The keys of the slot of words that EQUIV joins.
use Rattle.std.proofs.Common.{◌≡◌, ℕ, Bool, true, false, cond, List, [], ◌∷◌, refl, sym, ap, ◌∙◌, true≢false}
use Rattle.std.specs.Prelude.{not, filter, ◌&&◌, ◌||◌}
use Rattle.std.specs.List.{flat_map, list_any}
use Rattle.std.specs.Str.{bytes_eq}
use Rattle.std.proofs.Math.Bool.{and-false}
use Rattle.std.proofs.lemmas.List.Folds.{list_any-append}
use Rattle.std.proofs.lemmas.Slice.Eq.{bytes_eq-Decides}
use Rattle.tx_stop.specs.StopKeys.{is_stop}
use Rattle.q_tree.specs.declared.queries.Word.{Word}
use Rattle.q_tree.specs.Limits.{has_wildcard}
use Rattle.q_tree.specs.Slots.{has_key}
use Rattle.q_reduce.specs.Promises.{has_the_key, JoinedKeysAreThoseOfWords, JoinedKeysRise}
use Rattle.q_reduce.specs.Reducing.{Context, word_keys, joined_keys}
use Rattle.q_reduce.proofs.RisingKeys.{has_in_order, keys_in_order_rise}
use Rattle.q_reduce.proofs.SoundSlots.{joined_keys_are_keys}

-- of either of two, and not of a stopword
either : (s a b : Bool) → ((not s && a) || (not s && b)) ≡ (not s && (a || b))
either true a b = refl
either false a b = refl

-- one key more, which is kept unless it is a stopword; the key that is asked for is it or another one
kept_step : (stopped same s r : Bool) → (same ≡ true → stopped ≡ s) → (not stopped && same || (not s && r)) ≡ (not s && (same || r))
kept_step true true true r alike = refl
kept_step true true false r alike = absurd (true≢false (alike refl))
kept_step true false s r alike = refl
kept_step false true true r alike = absurd (true≢false (sym (alike refl)))
kept_step false true false r alike = refl
kept_step false false s r alike = refl

has_kept : (stop keys : List (List ℕ)) (q : List ℕ) → is_stop (filter (λ key. not (is_stop stop key)) keys) q ≡ (not (is_stop stop q) && is_stop keys q)
has_kept stop [] q = sym (and-false (not (is_stop stop q)))
has_kept stop (k ∷ keys) q =
    first (is_stop stop k) (has_kept stop keys q)
    ∙ kept_step (is_stop stop k) (bytes_eq k q) (is_stop stop q) (is_stop keys q) (λ same. ap (is_stop stop) ((bytes_eq-Decides k q).0 same))
  where
    first : (b : Bool) → is_stop (filter (λ key. not (is_stop stop key)) keys) q ≡ (not (is_stop stop q) && is_stop keys q)
        → is_stop (cond (not b) (k ∷ filter (λ key. not (is_stop stop key)) keys) (filter (λ key. not (is_stop stop key)) keys)) q ≡ (not b && bytes_eq k q || (not (is_stop stop q) && is_stop keys q))
    first true rest = rest
    first false rest = ap (λ (b : Bool). bytes_eq k q || b) rest

has_joined : (x : Context) (w : Word) (q : List ℕ) → is_stop (joined_keys x w) q ≡ (not (is_stop x.stop q) && has_the_key x q w)
has_joined x w q = go (has_wildcard w.bits)
  where
    go : (b : Bool) → is_stop (cond b [] (filter (λ key. not (is_stop x.stop key)) (word_keys x w))) q ≡ (not (is_stop x.stop q) && (not b && has_key (word_keys x w) q))
    go true = sym (and-false (not (is_stop x.stop q)))
    go false = has_kept x.stop (word_keys x w) q

has_all : (x : Context) (ws : List Word) (q : List ℕ) → is_stop (flat_map (joined_keys x) ws) q ≡ (not (is_stop x.stop q) && list_any (has_the_key x q) ws)
has_all x [] q = sym (and-false (not (is_stop x.stop q)))
has_all x (w ∷ ws) q =
    list_any-append (λ k. bytes_eq k q) (joined_keys x w) (flat_map (joined_keys x) ws)
    ∙ ap (λ (b : Bool). b || is_stop (flat_map (joined_keys x) ws) q) (has_joined x w q)
    ∙ ap (λ (b : Bool). (not (is_stop x.stop q) && has_the_key x q w) || b) (has_all x ws q)
    ∙ either (is_stop x.stop q) (has_the_key x q w) (list_any (has_the_key x q) ws)

pub keys_of_words : JoinedKeysAreThoseOfWords
keys_of_words x ws key = has_in_order (flat_map (joined_keys x) ws) key (joined_keys_are_keys x ws) ∙ has_all x ws key

pub keys_rise_once : JoinedKeysRise
keys_rise_once x ws = keys_in_order_rise (flat_map (joined_keys x) ws)
