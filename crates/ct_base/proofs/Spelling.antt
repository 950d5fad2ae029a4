-- A name's bytes are ASCII.
use Rattle.std.proofs.Common.{refl, ap, ◌∙◌, ◌≡◌, ℕ, ◌+◌, ◌<◌, ◌≤◌, ltb, cond, Bool, true, false, List, [], ◌∷◌, ◌++◌, get_or, arith, zero, suc, length, map, take}
use Rattle.std.specs.Prelude.{nat_lt}
use Rattle.std.specs.Char.{is_ascii_alphabetic, to_ascii_lowercase}
use Rattle.std.specs.List.{list_all}
use Rattle.std.proofs.lemmas.Bool.{and_parts}
use Rattle.std.proofs.lemmas.List.{take_more, map-append, length-map}
use Rattle.ct_base.specs.Limits.{name_limit}
use Rattle.ct_base.specs.Names.{is_spelling, is_name_byte, IsName}

name_byte_is_ascii : (b : ℕ) → is_name_byte b ≡ true → to_ascii_lowercase b < 128
name_byte_is_ascii b h = grind arith

letter_is_ascii : (b : ℕ) → is_ascii_alphabetic b ≡ true → to_ascii_lowercase b < 128
letter_is_ascii b h = grind arith

all_ascii : (bs : List ℕ) (i : ℕ) → list_all is_name_byte bs ≡ true → to_ascii_lowercase (get_or bs i 0) < 128
all_ascii [] i h = omega arith
all_ascii (b ∷ bs) zero h = name_byte_is_ascii b ((and_parts (is_name_byte b) _ h).0)
all_ascii (b ∷ bs) (suc i) h = all_ascii bs i ((and_parts (is_name_byte b) _ h).1)

pub spelling_is_ascii : (bs : List ℕ) (i : ℕ) → is_spelling bs ≡ true → to_ascii_lowercase (get_or bs i 0) < 128
spelling_is_ascii [] i h = cc
spelling_is_ascii (b ∷ bs) zero h = letter_is_ascii b ((and_parts (is_ascii_alphabetic b) _ h).0)
spelling_is_ascii (b ∷ bs) (suc i) h = all_ascii bs i ((and_parts (nat_lt (length bs) name_limit) _ ((and_parts (is_ascii_alphabetic b) _ h).1)).1)

-- a prefix in lower case, and one byte more
pub lower-more : (bs : List ℕ) (i : ℕ) → i < length bs → map to_ascii_lowercase (take i bs) ++ to_ascii_lowercase (get_or bs i 0) ∷ [] ≡ map to_ascii_lowercase (take (i + 1) bs)
lower-more bs i h = rw (take_more bs i 0 h, map-append) refl

-- a name in lower case is spelt as one
pub lower_is_name : (bs : List ℕ) → is_spelling bs ≡ true → IsName (map to_ascii_lowercase bs)
lower_is_name bs h = record { spelt = spelt bs h; lower = twice bs }
  where
    once : (b : ℕ) → to_ascii_lowercase (to_ascii_lowercase b) ≡ to_ascii_lowercase b
    once b = grind arith

    twice : (bs : List ℕ) → map to_ascii_lowercase (map to_ascii_lowercase bs) ≡ map to_ascii_lowercase bs
    twice [] = refl
    twice (b ∷ bs) = ap (λ x. x ∷ map to_ascii_lowercase (map to_ascii_lowercase bs)) (once b) ∙ ap (λ x. to_ascii_lowercase b ∷ x) (twice bs)

    letter : (b : ℕ) → is_ascii_alphabetic b ≡ true → is_ascii_alphabetic (to_ascii_lowercase b) ≡ true
    letter b h = grind arith

    upper : (b : ℕ) → 65 ≤ b → b < 91 → is_name_byte (b + 32) ≡ true
    upper b above below = grind arith

    byte-in : (low high : Bool) (b : ℕ) → ltb b 65 ≡ low → ltb b 91 ≡ high → is_name_byte b ≡ true → is_name_byte (cond low b (cond high (b + 32) b)) ≡ true
    byte-in true high b l h is = is
    byte-in false true b l h is = upper b (grind arith) (grind arith)
    byte-in false false b l h is = is

    byte : (b : ℕ) → is_name_byte b ≡ true → is_name_byte (to_ascii_lowercase b) ≡ true
    byte b is = byte-in (ltb b 65) (ltb b 91) b refl refl is

    bytes : (bs : List ℕ) → list_all is_name_byte bs ≡ true → list_all is_name_byte (map to_ascii_lowercase bs) ≡ true
    bytes [] h = refl
    bytes (b ∷ bs) h = let p = and_parts (is_name_byte b) _ h in rw (byte b p.0, bytes bs p.1) refl

    long : (bs : List ℕ) → length (map to_ascii_lowercase bs) ≡ length bs
    long bs = simp length-map

    spelt : (bs : List ℕ) → is_spelling bs ≡ true → is_spelling (map to_ascii_lowercase bs) ≡ true
    spelt [] h = cc
    spelt (b ∷ bs) h =
        let p = and_parts (is_ascii_alphabetic b) _ h in
        let q = and_parts (nat_lt (length bs) name_limit) _ p.1 in
        rw (letter b p.0, long bs, q.0, bytes bs q.1) refl
