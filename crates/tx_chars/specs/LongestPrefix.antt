-- A key is the longest prefix of its text, at a character boundary, that has room.
use Rattle.std.proofs.Common.{◌≡◌, ◌<◌, ◌≤◌, ◌+◌, ◌-◌, ℕ, Bool, true, false, cond, leb, List, [], ◌∷◌, ◌++◌, length, refl, ap, ◌∙◌, arith, length-append, leb-true, leb-false}
use Rattle.std.specs.Char.{encode_utf8, len_utf8}
use Rattle.std.specs.Str.{encode_utf8_all}
use Rattle.std.proofs.lemmas.Str.{length-encode}
use Rattle.ct_base.specs.Limits.{token_limit}
use Rattle.tx_chars.specs.Keys.{cut_at, key_of, key_text}

-- behind so many bytes the next character, if there is one, has no room
abbrev pub HasNoRoom : ℕ → ℕ → List ℕ → Type 0
HasNoRoom room used [] = Unit {0}
HasNoRoom room used (c ∷ cs) = room < used + len_utf8 c

-- The bytes are those of the characters at the beginning, which have room; and with the next character they would have none.
pub record IsLongestPrefix (room : ℕ) (text bytes : List ℕ) : Type 0 where
  pub prefix : List ℕ
  pub rest : List ℕ
  pub whole : text ≡ prefix ++ rest
  pub spelt : bytes ≡ encode_utf8_all prefix
  pub short : length bytes ≤ room
  pub longest : HasNoRoom room (length bytes) rest

-- ---- the law

abbrev pub KeysAreLongestPrefixes : Type 0
KeysAreLongestPrefixes = (base_letter mixed_case : Bool) (text : List ℕ) → IsLongestPrefix token_limit (key_text base_letter mixed_case text) (key_of base_letter mixed_case text)

-- ---- its proof

no_room_behind : (room width used : ℕ) (rest : List ℕ) → width ≤ room → HasNoRoom (room - width) used rest → HasNoRoom room (width + used) rest
no_room_behind room width used [] fits none = tt
no_room_behind room width used (c ∷ cs) fits none = omega (arith, fits, none)

cut_step : (b : Bool) (room c : ℕ) (cs bytes : List ℕ) → leb (len_utf8 c) room ≡ b → IsLongestPrefix (room - len_utf8 c) cs bytes → IsLongestPrefix room (c ∷ cs) (cond b (encode_utf8 c ++ bytes) [])
cut_step true room c cs bytes test is =
    let fits = leb-true (len_utf8 c) room test in
    let long : length (encode_utf8 c ++ bytes) ≡ len_utf8 c + length bytes = length-append (encode_utf8 c) bytes ∙ ap (λ n. n + length bytes) (length-encode c) in
    record {
      prefix = c ∷ is.prefix;
      rest = is.rest;
      whole = ap (λ (l : List ℕ). c ∷ l) is.whole;
      spelt = ap (λ (l : List ℕ). encode_utf8 c ++ l) is.spelt;
      short = let short = is.short in omega (arith, long, fits, short);
      longest = rw long (no_room_behind room (len_utf8 c) (length bytes) is.rest fits is.longest);
    }
cut_step false room c cs bytes test is = record {
  prefix = [];
  rest = c ∷ cs;
  whole = refl;
  spelt = refl;
  short = omega arith;
  longest = let over = leb-false (len_utf8 c) room test in omega (arith, over);
}

pub cut_is_longest : (room : ℕ) (cs : List ℕ) → IsLongestPrefix room cs (cut_at room cs)
cut_is_longest room [] = record { prefix = []; rest = []; whole = refl; spelt = refl; short = omega arith; longest = tt }
cut_is_longest room (c ∷ cs) = cut_step (leb (len_utf8 c) room) room c cs (cut_at (room - len_utf8 c) cs) refl (cut_is_longest (room - len_utf8 c) cs)

pub keys_are_longest : KeysAreLongestPrefixes
keys_are_longest base_letter mixed_case text = cut_is_longest token_limit (key_text base_letter mixed_case text)
