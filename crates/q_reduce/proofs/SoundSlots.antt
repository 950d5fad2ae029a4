-- The slots of words are sound.
use Rattle.std.proofs.Common.{◌≡◌, ◌+◌, ◌≤◌, ◌<◌, ℕ, Bool, true, false, cond, List, [], ◌∷◌, length, map, refl, ◌∙◌, arith}
use Rattle.std.specs.Prelude.{not, filter}
use Rattle.std.specs.List.{list_all, flat_map, AllByRecursion}
use Rattle.std.specs.Str.{chars}
use Rattle.std.proofs.lemmas.Bool.{and_parts, and_from, le-leb}
use Rattle.std.proofs.lemmas.List.Elements.{recursion_from_All}
use Rattle.std.proofs.lemmas.List.Folds.{list_all-append}
use Rattle.ct_base.specs.Limits.{token_limit}
use Rattle.tx_chars.specs.laws.KeyLimit.{limit as key_limit}
use Rattle.tx_lexer.specs.declared.tokens.Token.{Token}
use Rattle.tx_lexer.specs.Tokens.{rules, tokens}
use Rattle.tx_lexer.specs.laws.TokenKeys.{some_keys, limit as token_limit_kept}
use Rattle.tx_stop.specs.StopKeys.{is_stop}
use Rattle.q_tree.specs.declared.flats.PatternBit.{PatternBit}
use Rattle.q_tree.specs.declared.flats.Slot.TheVariants.{Any, Takes}
use Rattle.q_tree.specs.declared.queries.Word.{Word}
use Rattle.q_tree.specs.Limits.{has_wildcard}
use Rattle.q_tree.specs.Soundness.{is_key, slot_keys_rise, is_slot}
use Rattle.q_reduce.specs.Reducing.{Context, word_text, word_keys, key_slot, pattern, word_slots, joined_keys, joined_patterns, in_order, slot_of, joined_slot, place_slots}
use Rattle.q_reduce.proofs.RisingKeys.{keys_in_order_rise, all_in_order}

-- ---- lists

pub all_joined : {X Y : Type 0} (p : Y → Bool) (f : X → List Y) (xs : List X) → ((x : X) → list_all p (f x) ≡ true) → list_all p (flat_map f xs) ≡ true
all_joined p f [] each = refl
all_joined p f (x ∷ xs) each = list_all-append p (f x) (flat_map f xs) ∙ and_from _ _ (each x) (all_joined p f xs each)

pub all_kept : {X : Type 0} (p q : X → Bool) (xs : List X) → list_all p xs ≡ true → list_all p (filter q xs) ≡ true
all_kept p q [] all = refl
all_kept p q (x ∷ xs) all = let parts = and_parts (p x) (list_all p xs) all in go (q x) parts.0 (all_kept p q xs parts.1)
  where
    go : (b : Bool) → p x ≡ true → list_all p (filter q xs) ≡ true → list_all p (cond b (x ∷ filter q xs) (filter q xs)) ≡ true
    go true first rest = and_from _ _ first rest
    go false first rest = rest

-- ---- keys

are_keys : (ts : List Token) → AllByRecursion (λ (t : Token). 0 < length t.key) ts → AllByRecursion (λ (t : Token). length t.key ≤ token_limit) ts → list_all is_key (map (λ (t : Token). t.key) ts) ≡ true
are_keys [] some short = refl
are_keys (t ∷ ts) some short = and_from _ _ (and_from _ _ (le-leb 1 (length t.key) some.0) (le-leb (length t.key) token_limit short.0)) (are_keys ts some.1 short.1)

-- the keys of a word have 1 to 255 bytes
pub word_keys_are_keys : (x : Context) (w : Word) → list_all is_key (word_keys x w) ≡ true
word_keys_are_keys x w =
    let r = rules x.lexer in
    let text = chars (word_text w.bits) in
    are_keys (tokens r text) (recursion_from_All _ _ (some_keys r text)) (recursion_from_All _ _ (token_limit_kept r token_limit (key_limit x.lexer.base_letter x.lexer.mixed_case) text))

pub joined_keys_are_keys : (x : Context) (ws : List Word) → list_all is_key (flat_map (joined_keys x) ws) ≡ true
joined_keys_are_keys x ws = all_joined is_key (joined_keys x) ws (λ w. go w (has_wildcard w.bits))
  where
    go : (w : Word) (b : Bool) → list_all is_key (cond b [] (filter (λ key. not (is_stop x.stop key)) (word_keys x w))) ≡ true
    go w true = refl
    go w false = all_kept is_key (λ key. not (is_stop x.stop key)) (word_keys x w) (word_keys_are_keys x w)

-- ---- slots

key_slots_sound : (x : Context) (keys : List (List ℕ)) → list_all is_key keys ≡ true → list_all is_slot (map (key_slot x) keys) ≡ true
key_slots_sound x [] all = refl
key_slots_sound x (key ∷ keys) all = let parts = and_parts (is_key key) (list_all is_key keys) all in go (is_stop x.stop key) parts.0 (key_slots_sound x keys parts.1)
  where
    go : (b : Bool) → is_key key ≡ true → list_all is_slot (map (key_slot x) keys) ≡ true → list_all is_slot (cond b Any (Takes (key ∷ []) []) ∷ map (key_slot x) keys) ≡ true
    go true first rest = rest
    go false first rest = and_from _ _ (and_from _ _ first refl) rest

-- the slots of the tokens of some characters
pub token_slots_sound : (x : Context) (text : List ℕ) → list_all is_slot (map (key_slot x) (map (λ (t : Token). t.key) (tokens (rules x.lexer) text))) ≡ true
token_slots_sound x text =
    let r = rules x.lexer in
    key_slots_sound x (map (λ (t : Token). t.key) (tokens r text))
    (are_keys (tokens r text) (recursion_from_All _ _ (some_keys r text)) (recursion_from_All _ _ (token_limit_kept r token_limit (key_limit x.lexer.base_letter x.lexer.mixed_case) text)))

word_slots_sound : (x : Context) (w : Word) → list_all is_slot (word_slots x w) ≡ true
word_slots_sound x w = go (has_wildcard w.bits)
  where
    go : (b : Bool) → list_all is_slot (cond b (Takes [] (pattern x w ∷ []) ∷ []) (map (key_slot x) (word_keys x w))) ≡ true
    go true = refl
    go false = key_slots_sound x (word_keys x w) (word_keys_are_keys x w)

slot_of_sound : (keys : List (List ℕ)) (patterns : List (List PatternBit)) → slot_keys_rise keys ≡ true → list_all is_key keys ≡ true → is_slot (slot_of keys patterns) ≡ true
slot_of_sound [] [] rise all = refl
slot_of_sound [] (p ∷ ps) rise all = and_from _ _ (and_from _ _ (le-leb 1 (length {A = List ℕ} [] + length (p ∷ ps)) (omega arith)) refl) refl
slot_of_sound (k ∷ ks) ps rise all = and_from _ _ (and_from _ _ (le-leb 1 (length (k ∷ ks) + length ps) (omega arith)) rise) all

pub joined_slot_sound : (x : Context) (ws : List Word) → is_slot (joined_slot x ws) ≡ true
joined_slot_sound x ws =
    let keys = flat_map (joined_keys x) ws in
    slot_of_sound (in_order keys) (flat_map (joined_patterns x) ws) (keys_in_order_rise keys) (all_in_order is_key keys (joined_keys_are_keys x ws))

pub place_slots_sound : (x : Context) (ws : List Word) → list_all is_slot (place_slots x ws) ≡ true
place_slots_sound x [] = and_from _ _ (joined_slot_sound x []) refl
place_slots_sound x (w ∷ []) = word_slots_sound x w
place_slots_sound x (w ∷ v ∷ ws) = and_from _ _ (joined_slot_sound x (w ∷ v ∷ ws)) refl
