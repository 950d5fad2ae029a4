-- A key has all of its text where that has room, and is empty exactly where its text is.
use Rattle.std.proofs.Common.{◌≡◌, ◌≤◌, ◌-◌, ◌+◌, ℕ, Bool, true, false, cond, leb, List, [], ◌∷◌, ◌++◌, length, refl, ap, arith, length-append, leb-false}
use Rattle.std.specs.Char.{encode_utf8, len_utf8}
use Rattle.std.specs.Str.{encode_utf8_all}
use Rattle.std.proofs.lemmas.Str.{length-encode, len_utf8_bounds}
use Rattle.ct_base.specs.Limits.{token_limit}
use Rattle.tx_chars.specs.Keys.{cut_at, key_text}
use Rattle.tx_chars.specs.KeyLaws.{KeysAreWhole, EmptyKeys}

-- nothing is cut where all have room
whole-step : (b : Bool) (room width : ℕ) (prefix rest all : List ℕ) → leb width room ≡ b → width ≤ room → rest ≡ all → cond b (prefix ++ rest) [] ≡ prefix ++ all
whole-step true room width prefix rest all test fits same = ap (λ x. prefix ++ x) same
whole-step false room width prefix rest all test fits same = absurd (omega (arith, leb-false width room test))

whole-cut : (room : ℕ) (cs : List ℕ) → length (encode_utf8_all cs) ≤ room → cut_at room cs ≡ encode_utf8_all cs
whole-cut room [] h = refl
whole-cut room (c ∷ cs) h =
    let long : len_utf8 c + length (encode_utf8_all cs) ≤ room = omega (arith, length-append (encode_utf8 c) (encode_utf8_all cs), length-encode c) in
    whole-step (leb (len_utf8 c) room) room (len_utf8 c) (encode_utf8 c) (cut_at (room - len_utf8 c) cs) (encode_utf8_all cs) refl (omega arith) (whole-cut (room - len_utf8 c) cs (omega arith))

pub keys_are_whole : KeysAreWhole
keys_are_whole base_letter mixed_case text h = whole-cut token_limit (key_text base_letter mixed_case text) h

-- the first character has room
first-step : (b : Bool) (room width : ℕ) (prefix rest : List ℕ) → leb width room ≡ b → length prefix ≡ width → 1 ≤ width → width ≤ room → cond b (prefix ++ rest) [] ≡ [] → ⊥
first-step true room width prefix rest test long one fits none = omega (arith, length-append prefix rest, ap length none)
first-step false room width prefix rest test long one fits none = omega (arith, leb-false width room test)

none_is_empty : (cs : List ℕ) → cut_at 255 cs ≡ [] → cs ≡ []
none_is_empty [] h = refl
none_is_empty (c ∷ cs) h =
    let bounds = len_utf8_bounds c in
    absurd (first-step (leb (len_utf8 c) 255) 255 (len_utf8 c) (encode_utf8 c) (cut_at (255 - len_utf8 c) cs) refl (length-encode c) bounds.0 (omega (arith, bounds.1)) h)

pub empty_keys : EmptyKeys
empty_keys base_letter mixed_case text = (none_is_empty (key_text base_letter mixed_case text), λ e. ap (cut_at 255) e)
