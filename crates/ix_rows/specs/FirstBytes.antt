-- The number of a key's first bytes, by which keys are compared before their bytes are.
use Rattle.std.specs.Prelude.{ℕ, zero, suc, ◌≡◌, ◌+◌, ◌*◌, ◌^◌, ◌<◌, List, [], ◌∷◌, get_or, codes, refl}

-- the number that the first `n` bytes are, the highest first, with zeros behind fewer
abbrev pub first_number : ℕ → List ℕ → ℕ
first_number zero bs = 0
first_number (suc n) [] = 0
first_number (suc n) (b ∷ bs) = b * 256 ^ n + first_number n bs

-- the number of a key, which is that of its first eight bytes
abbrev pub key_number : List ℕ → ℕ
key_number bs = first_number 8 bs

-- each number of a list is a byte
abbrev pub AreBytes : List ℕ → Type 0
AreBytes bs = (i : ℕ) → get_or bs i 0 < 256

-- computed examples: the word `ab` in the main stream; bytes behind the eighth count for nothing, and nor do zeros at the end
a_word : key_number (0 ∷ 2 ∷ codes "ab") ≡ 670023488110592
a_word = refl

eight_bytes : key_number (codes "abcdefgh") ≡ 7017280452245743464
eight_bytes = refl

nine_bytes : key_number (codes "abcdefghi") ≡ key_number (codes "abcdefgh")
nine_bytes = refl

zeros_behind : key_number (codes "a") ≡ key_number (97 ∷ 0 ∷ [])
zeros_behind = refl
