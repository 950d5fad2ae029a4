-- No key is longer than the limit.
use Rattle.std.proofs.Common.{◌≡◌, ◌≤◌, ◌-◌, ℕ, Bool, true, false, cond, leb, List, [], ◌∷◌, ◌++◌, length, refl, arith, length-append, leb-true}
use Rattle.std.specs.Char.{encode_utf8, len_utf8}
use Rattle.std.proofs.lemmas.Str.{length-encode}
use Rattle.ct_base.specs.Limits.{token_limit}
use Rattle.tx_chars.specs.Keys.{cut_at, key_of, key_text}

-- the kept bytes have room
fits-step : (b : Bool) (room width : ℕ) (prefix rest : List ℕ) → leb width room ≡ b → length prefix ≡ width → length rest ≤ room - width → length (cond b (prefix ++ rest) []) ≤ room
fits-step true room width prefix rest test long fits = omega (arith, leb-true width room test, length-append prefix rest)
fits-step false room width prefix rest test long fits = omega arith

fits : (room : ℕ) (cs : List ℕ) → length (cut_at room cs) ≤ room
fits room [] = omega arith
fits room (c ∷ cs) = fits-step (leb (len_utf8 c) room) room (len_utf8 c) (encode_utf8 c) (cut_at (room - len_utf8 c) cs) refl (length-encode c) (fits (room - len_utf8 c) cs)

pub limit : (base_letter mixed_case : Bool) (text : List ℕ) → length (key_of base_letter mixed_case text) ≤ token_limit
limit base_letter mixed_case text = fits token_limit (key_text base_letter mixed_case text)
