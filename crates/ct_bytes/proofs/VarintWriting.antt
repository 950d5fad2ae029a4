-- How a varint is written byte by byte.
use Rattle.std.proofs.Common.{◌≡◌, ℕ, suc, ◌+◌, ◌-◌, ◌*◌, ◌/◌, ◌%◌, ◌^◌, ◌<◌, ◌≤◌, List, [], ◌∷◌, ◌++◌, length, set, take, refl, sym, ap, ◌∙◌, append_assoc, inl, inr, length-set, arith}
use Rattle.std.proofs.lemmas.Bool.{cases_lt}
use Rattle.std.proofs.lemmas.List.{take_more_set}
use Rattle.std.proofs.Math.Nat.{pow-suc}
use Rattle.ct_bytes.specs.Varints.{varint, varint_in}
use Rattle.ct_bytes.specs.laws.Varints.{varint_last, varint_more}

-- Bytes that more follow have been written, and the rest completes them.
pub record HasWritten (bytes : List ℕ) (at rest n : ℕ) : Type 0 where
  pub size : length bytes ≡ 5
  pub within : at ≤ 4
  pub small : rest < 16 * 128 ^ (4 - at)
  pub spelt : take at bytes ++ varint_in (4 - at) rest ≡ varint n

pub nothing_written : (bytes : List ℕ) (n : ℕ) → length bytes ≡ 5 → n < 2 ^ 32 → HasWritten bytes 0 n n
unfolding varint
nothing_written bytes n size small = record { size = size; within = omega arith; small = small; spelt = refl }

pub more_room : (bytes : List ℕ) (at rest n : ℕ) → HasWritten bytes at rest n → 128 ≤ rest → at < 4
more_room bytes at rest n written large = elim (cases_lt at 4) [
  | inl room ↦ room
  | inr full ↦
      let none : 4 - at ≡ 0 = omega arith in
      let small : rest < 16 * 128 ^ 0 = rw none at written.small in
      absurd (omega arith)
]

pub written_more : (bytes : List ℕ) (at rest n : ℕ) → HasWritten bytes at rest n → 128 ≤ rest → HasWritten (set bytes at (rest % 128 + 128)) (at + 1) (rest / 128) n
written_more bytes at rest n written large =
    let room : at < 4 = more_room bytes at rest n written large in
    let next : 4 - at ≡ suc (4 - (at + 1)) = omega arith in
    let byte : rest % 128 + 128 ≡ 128 + rest % 128 = omega arith in
    let small : rest < 16 * 128 ^ suc (4 - (at + 1)) = rw next at written.small in
    record {
      size = length-set bytes at (rest % 128 + 128) ∙ written.size;
      within = room_after at room;
      small = omega (arith, small, pow-suc 128 (4 - (at + 1)));
      spelt =
          ap (λ x. x ++ varint_in (4 - (at + 1)) (rest / 128)) (take_more_set bytes at (rest % 128 + 128) (omega (arith, written.size, room))) ∙
          append_assoc (take at bytes) ((rest % 128 + 128) ∷ []) (varint_in (4 - (at + 1)) (rest / 128)) ∙
          ap (λ b. take at bytes ++ b ∷ varint_in (4 - (at + 1)) (rest / 128)) byte ∙
          ap (λ x. take at bytes ++ x) (sym (varint_more (4 - (at + 1)) rest large)) ∙
          ap (λ k. take at bytes ++ varint_in k rest) (sym next) ∙ written.spelt;
    }
  where
    room_after : (at : ℕ) → at < 4 → at + 1 ≤ 4
    room_after at room = omega arith

pub written_last : (bytes : List ℕ) (at rest n : ℕ) → HasWritten bytes at rest n → rest < 128 → take (at + 1) (set bytes at rest) ≡ varint n
written_last bytes at rest n written small =
    take_more_set bytes at rest (omega (arith, written.size, written.within)) ∙ ap (λ x. take at bytes ++ x) (sym (varint_last (4 - at) rest small)) ∙ written.spelt
