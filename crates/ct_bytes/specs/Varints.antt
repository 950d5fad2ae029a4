-- Varints: a number as seven bits a byte, the lowest first, with the top bit set on each byte but the last.
use Rattle.std.specs.Prelude.{ℕ, zero, suc, ◌≡◌, ◌+◌, ◌/◌, ◌%◌, ◌^◌, ◌<◌, nat_lt, List, [], ◌∷◌, ◌++◌, length, drop, codes, refl}
use Rattle.std.specs.Bool.{if◌then◌else◌}

-- the varint of a number, of which at most `more` bytes stand before the last
abbrev pub varint_in : ℕ → ℕ → List ℕ
varint_in zero n = n ∷ []
varint_in (suc more) n = if nat_lt n 128 then n ∷ [] else (128 + n % 128) ∷ varint_in more (n / 128)

-- the one spelling of a number below 2 ^ 32: at most five bytes, the last of them not 0 unless it is the only one
unfoldable pub varint : ℕ → List ℕ
varint n = varint_in 4 n

-- From `at` on the bytes spell this number, and `next` is the place after it.
pub record IsVarintAt (bytes : List ℕ) (at n next : ℕ) : Type 0 where
  pub small : n < 2 ^ 32
  pub spelt : drop at bytes ≡ varint n ++ drop next bytes
  pub end : next ≡ at + length (varint n)

-- From `at` on the bytes spell this text: its length as a varint, and its bytes.
pub record IsTextAt (bytes : List ℕ) (at : ℕ) (text : List ℕ) (next : ℕ) : Type 0 where
  pub small : length text < 2 ^ 32
  pub spelt : drop at bytes ≡ varint (length text) ++ text ++ drop next bytes
  pub end : next ≡ at + length (varint (length text)) + length text

-- a text after its length
abbrev pub text_bytes : List ℕ → List ℕ
text_bytes text = varint (length text) ++ text

-- computed examples
one_byte : varint 127 ≡ 127 ∷ []
unfolding varint
one_byte = refl

nothing : varint 0 ≡ 0 ∷ []
unfolding varint
nothing = refl

two_bytes : varint 300 ≡ 0xac ∷ 0x02 ∷ []
unfolding varint
two_bytes = refl

greatest : varint 4294967295 ≡ 0xff ∷ 0xff ∷ 0xff ∷ 0xff ∷ 0x0f ∷ []
unfolding varint
greatest = refl

a_text : text_bytes (codes "id") ≡ 2 ∷ codes "id"
unfolding varint
a_text = refl
