-- What the functions of `src/laws.rt` promise of everything that is written.
use Rattle.std.specs.Prelude.{ℕ, ℤ, ◌≡◌, ◌+◌, ◌*◌, ◌%◌, ◌^◌, ◌<◌, ◌≤◌, FitsSigned, List, [], ◌∷◌, ◌++◌, length, refl}
use Rattle.std.specs.Int.{to_be_bytes, w16, w32, w64}
use Rattle.std.specs.Ordering.{nat_cmp, int_cmp}
use Rattle.std.specs.Cmp.Lexicographic.{slice_cmp}
use Rattle.std.proofs.Common.{arith}
use Rattle.ct_bytes.specs.Varints.{varint, text_bytes, IsVarintAt, IsTextAt}
use Rattle.ct_bytes.specs.RowKeys.{row_bytes}

-- ---- varints and texts

-- no varint begins another
abbrev pub NoVarintBeginsAnother : Type 0
NoVarintBeginsAnother = (m n : ℕ) (r s : List ℕ) → varint m ++ r ≡ varint n ++ s → (m ≡ n) × (r ≡ s)

-- a place has one varint at most
abbrev pub PlacesHaveOneVarint : Type 0
PlacesHaveOneVarint = (bytes : List ℕ) (at m i n j : ℕ) → IsVarintAt bytes at m i → IsVarintAt bytes at n j → (m ≡ n) × (i ≡ j)

-- each number below 2 ^ 32 stands where its bytes do, whatever is before and after them
abbrev pub VarintsAreReadBack : Type 0
VarintsAreReadBack = (prefix rest : List ℕ) (n : ℕ) → n < 2 ^ 32 → IsVarintAt (prefix ++ varint n ++ rest) (length prefix) n (length prefix + length (varint n))

-- the same of texts
abbrev pub NoTextBeginsAnother : Type 0
NoTextBeginsAnother = (a b r s : List ℕ) → text_bytes a ++ r ≡ text_bytes b ++ s → (a ≡ b) × (r ≡ s)

abbrev pub PlacesHaveOneText : Type 0
PlacesHaveOneText = (bytes : List ℕ) (at : ℕ) (a : List ℕ) (i : ℕ) (b : List ℕ) (j : ℕ) → IsTextAt bytes at a i → IsTextAt bytes at b j → (a ≡ b) × (i ≡ j)

abbrev pub TextsAreReadBack : Type 0
TextsAreReadBack = (prefix rest text : List ℕ) → length text < 2 ^ 32 → IsTextAt (prefix ++ text_bytes text ++ rest) (length prefix) text (length prefix + length (text_bytes text))

-- ---- varints as what they are: a number is the sum of seven bits a byte, and only the last byte has no top bit

-- the sum of the low seven bits of each byte, of which each counts 128 times as much as the one before it
abbrev pub sum_of_bits : List ℕ → ℕ
sum_of_bits [] = 0
sum_of_bits (b ∷ bs) = b % 128 + 128 * sum_of_bits bs

-- the top bit is set on each byte but the last, of which there is one
abbrev pub HasTopBits : List ℕ → Type 0
HasTopBits [] = ⊥
HasTopBits (b ∷ []) = b < 128
HasTopBits (b ∷ c ∷ bs) = (128 ≤ b) × (b < 256) × HasTopBits (c ∷ bs)

abbrev pub last_byte : List ℕ → ℕ
last_byte [] = 0
last_byte (b ∷ []) = b
last_byte (b ∷ c ∷ bs) = last_byte (c ∷ bs)

abbrev pub VarintsAreSums : Type 0
VarintsAreSums = (n : ℕ) → n < 2 ^ 32 → sum_of_bits (varint n) ≡ n

abbrev pub VarintsHaveTopBits : Type 0
VarintsHaveTopBits = (n : ℕ) → n < 2 ^ 32 → HasTopBits (varint n)

-- the last byte isn't 0, unless it is the only one
abbrev pub VarintsEndInNoZero : Type 0
VarintsEndInNoZero = (n : ℕ) → n < 2 ^ 32 → 2 ≤ length (varint n) → 1 ≤ last_byte (varint n)

-- ---- row keys, of 64 bits

abbrev pub KeysHaveEightBytes : Type 0
KeysHaveEightBytes = (z : ℤ) → length (row_bytes z) ≡ 8

abbrev pub KeysHaveTheirOwnBytes : Type 0
KeysHaveTheirOwnBytes = (a b : ℤ) → FitsSigned w64 a → FitsSigned w64 b → row_bytes a ≡ row_bytes b → a ≡ b

-- the bytes compare as the keys do
abbrev pub BytesAreInKeyOrder : Type 0
BytesAreInKeyOrder = (a b : ℤ) → FitsSigned w64 a → FitsSigned w64 b → slice_cmp nat_cmp (row_bytes a) (row_bytes b) ≡ int_cmp a b

-- ---- numbers of fixed width

-- each number has its own bytes
abbrev pub TwoBytesAreOneNumber : Type 0
TwoBytesAreOneNumber = (m n : ℕ) → m < 2 ^ 16 → n < 2 ^ 16 → to_be_bytes w16 m ≡ to_be_bytes w16 n → m ≡ n

abbrev pub FourBytesAreOneNumber : Type 0
FourBytesAreOneNumber = (m n : ℕ) → m < 2 ^ 32 → n < 2 ^ 32 → to_be_bytes w32 m ≡ to_be_bytes w32 n → m ≡ n

-- the bytes compare as the numbers do
abbrev pub TwoBytesAreInOrder : Type 0
TwoBytesAreInOrder = (m n : ℕ) → m < 2 ^ 16 → n < 2 ^ 16 → slice_cmp nat_cmp (to_be_bytes w16 m) (to_be_bytes w16 n) ≡ nat_cmp m n

abbrev pub FourBytesAreInOrder : Type 0
FourBytesAreInOrder = (m n : ℕ) → m < 2 ^ 32 → n < 2 ^ 32 → slice_cmp nat_cmp (to_be_bytes w32 m) (to_be_bytes w32 n) ≡ nat_cmp m n

-- computed examples
three_hundred : sum_of_bits (0xac ∷ 0x02 ∷ []) ≡ 300
three_hundred = refl

-- a spelling of 1 with a byte too many, whose last byte is 0, has the same sum
not_the_shortest : sum_of_bits (0x81 ∷ 0x00 ∷ []) ≡ 1
not_the_shortest = refl

top_bit_on_the_first : HasTopBits (0xac ∷ 0x02 ∷ [])
top_bit_on_the_first = (omega arith, omega arith, omega arith)

last_of_two : last_byte (0x81 ∷ 0x00 ∷ []) ≡ 0
last_of_two = refl
